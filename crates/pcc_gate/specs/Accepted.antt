-- What is accepted.
use Rattle.std.specs.Prelude.{ℕ, Bool, List}
use Rattle.word_ops.specs.Tests.{AllPass}
use Rattle.alpha_words.specs.declared.insn.Insn.{Insn}
use Rattle.policy_set.specs.Views.{PolicyView}
use Rattle.proof_container.specs.Contents.{Contents}
use Rattle.pcc_gate.specs.Clauses.{proving_tests}
use Rattle.pcc_gate.specs.Passing.{Passes}

-- The bytes pass all clauses: those before the proof, with these contents, code and flags, and those of the proof.
pub record Accepts (policy : PolicyView) (bytes : List ℕ) (contents : Contents) (insns : List Insn)
    (flags : List Bool) : Type 0 where
  pub passes : Passes policy bytes contents insns flags
  pub all : AllPass (proving_tests policy bytes)

-- the bytes are accepted under the policy
pub record IsAccepted (policy : PolicyView) (bytes : List ℕ) : Type 0 where
  pub contents : Contents
  pub code : List Insn
  pub marks : List Bool
  pub accepts : Accepts policy bytes contents code marks
