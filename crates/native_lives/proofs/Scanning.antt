-- The search for a jump to a loop head, from an index on.
use Rattle.std.proofs.Common.{◌≡◌, ℕ, zero, suc, ◌<◌, Bool, true, false, ◌||◌, List, [], ◌∷◌, drop, length, slice_get, Option, Some, None}
use Rattle.std.proofs.Common.{refl, ap, ◌∙◌, arith}
use Rattle.std.proofs.lemmas.Option.{same_Some}
use Rattle.alpha_words.specs.declared.insn.Insn.{Insn}
use Rattle.native_code.specs.Heads.{jump_to}
use Rattle.native_lives.specs.Inside.Jumps.{jumps_at}

-- the instruction at an index stands in front of those behind it
dropped : (code : List Insn) (i : ℕ) (insn : Insn) → slice_get code i ≡ Some insn → drop i code ≡ insn ∷ drop (suc i) code
dropped [] i insn here = absurd cc
dropped (x ∷ rest) zero insn here = ap (λ y. y ∷ rest) (same_Some x insn here)
dropped (x ∷ rest) (suc i) insn here = dropped rest i insn here

pub missing : (code : List Insn) (i : ℕ) → i < length code → slice_get code i ≡ None → ⊥
missing [] i low e = omega (arith, low)
missing (x ∷ rest) zero low e = absurd cc
missing (x ∷ rest) (suc i) low e = missing rest i (omega (arith, low)) e

jump-at : (code : List Insn) (head i : ℕ) (o : Option Insn) → slice_get code i ≡ o → i < length code
    → jump_to head i (drop i code) ≡ (jumps_at head i o || jump_to head (suc i) (drop (suc i) code))
jump-at code head i None here low = absurd (missing code i low here)
jump-at code head i (Some insn) here low = ap (jump_to head i) (dropped code i insn here)

or-false : (a b : Bool) → a ≡ false → (a || b) ≡ b
or-false true b e = absurd cc
or-false false b e = refl

or-true : (a b : Bool) → a ≡ true → (a || b) ≡ true
or-true true b e = refl
or-true false b e = absurd cc

-- no jump there: the search goes on
pub scan-on : (code : List Insn) (head i : ℕ) → i < length code → jumps_at head i (slice_get code i) ≡ false
    → jump_to head i (drop i code) ≡ jump_to head (suc i) (drop (suc i) code)
scan-on code head i low e =
    jump-at code head i (slice_get code i) refl low
    ∙ or-false (jumps_at head i (slice_get code i)) (jump_to head (suc i) (drop (suc i) code)) e

-- a jump there: it has been found
pub scan-found : (code : List Insn) (head i : ℕ) → i < length code → jumps_at head i (slice_get code i) ≡ true
    → jump_to head i (drop i code) ≡ true
scan-found code head i low e =
    jump-at code head i (slice_get code i) refl low
    ∙ or-true (jumps_at head i (slice_get code i)) (jump_to head (suc i) (drop (suc i) code)) e
