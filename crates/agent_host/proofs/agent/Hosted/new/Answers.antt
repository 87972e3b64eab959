use Rattle.std.proofs.Common.{List, subst, ◌∙◌, arith}
use Rattle.alpha_words.specs.declared.insn.Insn.{Insn}
use Rattle.host_steps.specs.Operations.{AreOperations}
use Rattle.agent_host.proofs.agent.Hosted.new.Goals as goal

pub invariant_of-result : goal.invariant_of-result
invariant_of-result c = record {
  operations = subst (λ (l : List Insn). AreOperations l c.in_ok-operations.operations.items)
      (c.code.ensures.value ∙ c.cut.ensures.code) c.in_ok-operations.ensures;
  words_len = omega (arith, c.in_ok-words.words.ok.0, c.in_ok-words.ensures.len);
  region_within = omega arith;
  aligned = c.requires.aligned;
  low = c.requires.low;
  within = λ wrong. absurd (cc);
  rights = λ wrong. absurd (cc);
}
