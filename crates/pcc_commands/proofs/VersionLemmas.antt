-- Versions that `asm` makes, and their bounds.
use Rattle.std.proofs.Common.{◌≡◌, ℕ, true, Option, Some, None, refl, sym, subst, arith}
use Rattle.proof_container.specs.Versions.{is_bounded, IsVersion, IsBoundOf}
use Rattle.proof_container.proofs.Bounded.{unbounded}
use Rattle.pcc_words.specs.Commands.{IsVersionOf}

-- the version that `asm` makes is one that is built
pub built-version : (bound : Option ℕ) (version : ℕ) → IsVersionOf bound version → IsVersion version
built-version None version h = (h.0, omega (arith, h.1))
built-version (Some n) version h = let is = h.0 in (omega (arith, is), omega (arith, is))

-- and its bound is one that the version may have
pub bound-in-range : (bound : Option ℕ) (version : ℕ) → IsVersionOf bound version
    → IsBoundOf version bound
bound-in-range None version h = unbounded version h.1
bound-in-range (Some n) version h = (subst (λ v. is_bounded v ≡ true) (sym h.0) refl, h.1, h.2)
