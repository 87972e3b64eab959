-- What clauses 4 to 8, and 1 to 8, answer within the gate.
use Rattle.std.specs.Prelude.{◌≡◌, ℕ, List, Result, Ok, Err, IfErr}
use Rattle.alpha_words.specs.declared.insn.Insn.{Insn}
use Rattle.alpha_cfg.specs.CodeBytes.{EncodesCode}
use Rattle.alpha_cfg.specs.CodeDecoding.{decoded_code}
use Rattle.alpha_cfg.specs.Flow.{IsCode}
use Rattle.policy_set.specs.Views.{PolicyView}
use Rattle.proof_container.specs.Contents.{Contents, roots}
use Rattle.proof_container.specs.Views.{contents_of}
use Rattle.pcc_gate.specs.declared.fault.GateFault.{GateFault}
use Rattle.pcc_gate.specs.declared.fault.GateFault.TheVariants.{Results}
use Rattle.pcc_gate.specs.declared.passing.Passed.{Passed}
use Rattle.pcc_gate.specs.First.{from_code}
use Rattle.pcc_gate.specs.Refusals.{AreLow}
use Rattle.pcc_gate.specs.Passing.{Passes}
use Rattle.pcc_gate.specs.Answers.{IsHeld}
use Rattle.pcc_gate.specs.Inside.Stages.{Refuses, RefusesBytes, IsShaped}
use Rattle.proof_container.specs.Versions.{profile_of, signature_of}

-- what passed clauses 4 to 8 and 13 of the contents
pub record IsRest (c : Contents) (p : Passed) : Type 0 where
  pub contents : contents_of p.container ≡ c
  pub held : IsHeld p.container
  pub encoded : EncodesCode (profile_of c.version) c.code p.cut.code
  pub is : IsCode p.cut.code
  pub shaped : IsShaped (signature_of c.version) c p.cut.code p.cut

-- clauses 4 to 8
abbrev pub IsRestAnswer : Contents → Result Passed GateFault → Type 0
IsRestAnswer c (Ok p) = IsRest c p
IsRestAnswer c (Err e) = Refuses (from_code c (decoded_code (profile_of c.version) c.code)) e

-- contents that pass clauses 4 and 5, which type no term
pub record IsUntyped (c : Contents) : Type 0 where
  pub insns : List Insn
  pub encoded : EncodesCode (profile_of c.version) c.code insns
  pub code : IsCode insns
  pub heights : AreLow (roots c)

-- results are counted only of these
abbrev pub CountsUntyped : {A : Type 0} → Contents → Result A GateFault → Type 0
CountsUntyped c r = IfErr r (λ e. e ≡ Results → IsUntyped c)

-- clauses 1 to 8
abbrev pub IsPassedAnswer : PolicyView → List ℕ → Result Passed GateFault → Type 0
IsPassedAnswer policy bytes (Ok p) = Passes policy bytes (contents_of p.container) p.cut.code p.cut.marks × IsHeld p.container
IsPassedAnswer policy bytes (Err e) = RefusesBytes policy bytes e
