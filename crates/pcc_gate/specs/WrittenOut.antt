-- Acceptance with every lemma written out.
use Rattle.std.specs.Prelude.{◌≡◌, ℕ, ◌≤◌, ◌↔◌, Bool, List, Some, Result, Ok, Err}
use Rattle.alpha_words.specs.declared.insn.Insn.{Insn}
use Rattle.policy_set.specs.Views.{PolicyView}
use Rattle.term_table.specs.Tree.{Tree}
use Rattle.lf_signature.specs.Constants.{declared}
use Rattle.lf_lemmas.specs.Checking.{ChecksWrittenOut}
use Rattle.proof_container.specs.Contents.{Contents}
use Rattle.proof_container.specs.Versions.{signature_of}
use Rattle.vcgen.specs.Encoded.{EncodesCondition}
use Rattle.pcc_gate.specs.declared.limits.TheConstants.{MAX_WEIGHT}
use Rattle.pcc_gate.specs.declared.fault.GateFault.{GateFault}
use Rattle.pcc_gate.specs.declared.fault.GateFault.TheVariants.{Refused, Memory, Results}
use Rattle.pcc_gate.specs.Passing.{Passes}
use Rattle.pcc_gate.specs.Weights.{proof_weight}
use Rattle.pcc_gate.specs.Accepted.{Accepts}
use Rattle.pcc_gate.specs.Views.{AcceptedView}

-- The clauses before the proof hold, and there is a proof, which with the proofs of lemmas isn't
-- too heavy. Each lemma's proof cites lemmas before it alone, and the proof the container's lemmas
-- alone; and with every lemma replaced by its proof, until none is left, the proofs of lemmas check
-- at the proofs of their formulas, and the proof at those of the verification condition, by the
-- version's signature, which has no lemmas.
pub record AcceptsWrittenOut (policy : PolicyView) (bytes : List ℕ) (contents : Contents)
    (insns : List Insn) (flags : List Bool) : Type 0 where
  pub passes : Passes policy bytes contents insns flags
  pub proof : Tree
  pub vc : Tree
  pub given : contents.proof ≡ Some proof
  pub weight : proof_weight (signature_of contents.version) contents.lemmas proof ≤ MAX_WEIGHT
  pub condition : EncodesCondition policy contents.bound insns contents.invs vc
  pub written :
      ChecksWrittenOut (declared (signature_of contents.version)) contents.lemmas proof vc

-- the bytes hold contents of which that is so
pub record IsAcceptedWrittenOut (policy : PolicyView) (bytes : List ℕ) : Type 0 where
  pub contents : Contents
  pub code : List Insn
  pub marks : List Bool
  pub accepts : AcceptsWrittenOut policy bytes contents code marks

-- all clauses hold of bytes exactly where that is so
abbrev pub AcceptedWrittenOut : Type 0
AcceptedWrittenOut =
    (policy : PolicyView) (bytes : List ℕ) (contents : Contents) (code : List Insn)
    (marks : List Bool) → Accepts policy bytes contents code marks
    ↔ AcceptsWrittenOut policy bytes contents code marks

-- what is accepted is so with every lemma written out, and what is refused isn't
abbrev pub IsWrittenOutAnswer : PolicyView → List ℕ → Result AcceptedView GateFault → Type 0
IsWrittenOutAnswer policy bytes (Ok a) = IsAcceptedWrittenOut policy bytes
IsWrittenOutAnswer policy bytes (Err (Refused r)) = IsAcceptedWrittenOut policy bytes → ⊥
IsWrittenOutAnswer policy bytes (Err Memory) = Unit {0}
IsWrittenOutAnswer policy bytes (Err Results) = Unit {0}
