-- What the container of a program holds before it has a proof.
use Rattle.std.specs.Prelude.{ℕ, List, [], map, None}
use Rattle.alpha_cfg.specs.CodeBytes.{EncodesCode}
use Rattle.policy_set.specs.declared.kind.PolicyKind.TheVariants.{Filter}
use Rattle.policy_set.specs.Views.{built_in}
use Rattle.policy_set.specs.Names.{policy_number}
use Rattle.term_table.specs.Bytes.{IsBytes}
use Rattle.term_table.specs.Tree.{Tree}
use Rattle.lf_encode.specs.Contexts.{machine_context, encoding_in}
use Rattle.proof_container.specs.declared.container.Head.TheVariants.{Number}
use Rattle.proof_container.specs.Contents.{Contents}
use Rattle.bpf_words.specs.declared.insn.Bpf.{Bpf}
use Rattle.bpf_code.specs.Blocks.{bpf_code}
use Rattle.bpf_condition.specs.Invariants.{bpf_invariants}
use Rattle.word_ops.specs.declared.Profile.TheVariants.{One}

-- bytes that encode the code of the program
pub record AreCodeBytes (program : List Bpf) (code : List ℕ) : Type 0 where
  pub bytes : IsBytes code
  pub encode : EncodesCode One code (bpf_code program)

-- the invariants of the program's code, each as the term that encodes it over m and r0 to r30
abbrev pub invariant_terms : List Bpf → List (ℕ × Tree)
invariant_terms program = map (λ p. (p.0, encoding_in machine_context p.1)) (bpf_invariants program)

-- the contents of version 1 for `filter`: these bytes of code, the terms of its invariants, and no proof
abbrev pub bpf_contents : List Bpf → List ℕ → Contents
bpf_contents program code = record {
  version = 1;
  head = Number (policy_number (built_in Filter));
  bound = None;
  code = code;
  invs = invariant_terms program;
  lemmas = [];
  proof = None;
}
