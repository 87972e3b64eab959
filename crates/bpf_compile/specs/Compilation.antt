-- What a program is compiled to.
use Rattle.std.specs.Prelude.{◌≡◌, ℕ, List, Some, None, Result, false}
use Rattle.policy_set.specs.declared.kind.PolicyKind.TheVariants.{Filter}
use Rattle.policy_set.specs.Views.{built_in}
use Rattle.term_table.specs.Tree.{Tree}
use Rattle.proof_container.specs.Contents.{Contents}
use Rattle.proof_container.specs.Encoding.{encoding_of}
use Rattle.prover_class.specs.Parts.{condition_proof}
use Rattle.pcc_asm.specs.Assembling.{plain_contents}
use Rattle.bounds_prover.specs.declared.fault.ProveFlaw.{ProveFlaw}
use Rattle.bounds_prover.specs.Proving.{proved_container, with_proof}
use Rattle.bpf_words.specs.declared.insn.Bpf.{Bpf}
use Rattle.bpf_code.specs.Blocks.{bpf_code}
use Rattle.bpf_condition.specs.Invariants.{bpf_invariants}
use Rattle.bpf_condition.specs.Condition.{bpf_parts}

-- what the program's container holds before it has a proof: the words that the assembler writes for its code, and its invariants
abbrev pub bare_contents : List Bpf → Contents
bare_contents program =
    plain_contents 1 None (built_in Filter) (bpf_invariants program) (bpf_code program)

-- the program's container: what `prove` makes of the one without a proof
unfoldable pub compiled_container : List Bpf → Result (List ℕ) ProveFlaw
compiled_container program =
    proved_container (built_in Filter) (encoding_of (bare_contents program))

-- The bytes are the program's container with the class's proof of its condition.
pub record IsCompilation (program : List Bpf) (bytes : List ℕ) : Type 0 where
  pub proof : Tree
  pub given : condition_proof false (bpf_parts program) ≡ Some proof
  pub encoded : bytes ≡ encoding_of (with_proof (bare_contents program) proof)
