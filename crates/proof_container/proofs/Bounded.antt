-- Which versions bound the steps.
use Rattle.std.proofs.Common.{◌≡◌, ℕ, ◌≤◌, false, inl, inr, arith}
use Rattle.std.proofs.lemmas.Bool.{cases_Bool}
use Rattle.lf_signature.specs.Laws.Signatures.{bounded-version}
use Rattle.proof_container.specs.Versions.{is_bounded}

-- the first two don't
pub unbounded : (v : ℕ) → v ≤ 2 → is_bounded v ≡ false
unbounded v low =
    elim (cases_Bool (is_bounded v)) [
      | inl bounded ↦ let is = bounded-version v bounded in absurd (omega (arith, low, is))
      | inr none ↦ none
    ]
