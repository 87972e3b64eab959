use Rattle.std.proofs.Common.{List, subst, ◌∙◌, arith, rules}
use Rattle.alpha_words.specs.declared.insn.Insn.{Insn}
use Rattle.reference_machine.proofs.Fresh.{zeros_from}
use Rattle.host_steps.specs.Operations.{AreOperations}
use Rattle.safe_host.proofs.host.Host.new.Goals as goal

pub invariant_of-result : goal.invariant_of-result
invariant_of-result c = record {
  operations = subst (λ (l : List Insn). AreOperations l c.in_ok-operations.operations.items)
      (c.code.ensures.value ∙ c.cut.ensures.code) c.in_ok-operations.ensures;
  words_len = omega (arith, c.in_ok-words.words.ok.0, c.in_ok-words.ensures.len);
  region_within = omega arith;
  within = λ wrong. absurd (cc);
  end_within = omega arith;
  past_end = zeros_from c.in_ok-words.words.items (omega (arith, c.in_ok-words.words.ok.0, c.in_ok-words.ensures.len)) (c.in_ok-words.ensures.items_if_clones_equal (λ y h. search rules));
  rights = λ wrong. absurd (cc);
}
