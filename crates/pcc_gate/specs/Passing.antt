-- What passes the clauses before the proof.
use Rattle.std.specs.Prelude.{ℕ, Bool, List, map, length}
use Rattle.word_ops.specs.Tests.{AllPass}
use Rattle.alpha_words.specs.declared.insn.Insn.{Insn}
use Rattle.alpha_cfg.specs.Cuts.{AreFlags}
use Rattle.policy_set.specs.Views.{PolicyView}
use Rattle.proof_container.specs.Contents.{Contents}
use Rattle.pcc_gate.specs.Clauses.{HasCode, read_tests, untyped_tests, front_tests}

-- The bytes pass the clauses before the proof, and hold these contents, with this code and these flags of its annotated indices.
pub record Passes (policy : PolicyView) (bytes : List ℕ) (contents : Contents) (insns : List Insn)
    (flags : List Bool) : Type 0 where
  pub all : AllPass (front_tests policy bytes)
  pub has : HasCode bytes contents insns
  pub annotated : AreFlags (map (λ p. p.0) contents.invs) (length insns) flags

-- They pass those that read them, 1 to 4, and hold these contents, with this code.
pub record PassesRead (policy : PolicyView) (bytes : List ℕ) (contents : Contents) (insns : List Insn) : Type 0 where
  pub all : AllPass (read_tests policy bytes)
  pub has : HasCode bytes contents insns

-- They pass those that type no term.
abbrev pub PassesUntyped : PolicyView → List ℕ → Type 0
PassesUntyped policy bytes = AllPass (untyped_tests policy bytes)
