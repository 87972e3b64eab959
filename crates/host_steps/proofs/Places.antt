-- The places of the registers as registers.
use Rattle.std.proofs.Common.{◌≡◌, ℕ, ◌<◌, List, take, slice_index, slice_set, sym, subst, arith, inl, inr, eqb, false}
use Rattle.std.proofs.Math.Seq.{take-set-lt}
use Rattle.std.proofs.lemmas.Bool.{cases_eq, ne_eqb}
use Rattle.std.proofs.lemmas.List.{get_or-take}
use Rattle.word_ops.specs.Registers.{read_reg, write_reg}
use Rattle.host_steps.specs.Slots.{AreSlots}

-- a place is read as the register of its number
pub read-place : (words : List ℕ) (r : ℕ) → AreSlots words → r < 32 → slice_index words r ≡ read_reg (take 31 words) r
read-place words r are lt = elim (cases_eq r 31) [
  | inl e ↦ subst (λ k. slice_index words k ≡ read_reg (take 31 words) k) (sym e) are.last
  | inr apart ↦ let no : eqb r 31 ≡ false = ne_eqb r 31 apart in rw no (sym (get_or-take 31 words r 0 (omega (arith, apart, lt))))
]

-- a place is written as the register of its number
pub write-place : (words : List ℕ) (r word : ℕ) → r < 31 → take 31 (slice_set words r word) ≡ write_reg (take 31 words) r word
write-place words r word lt = let no : eqb r 31 ≡ false = ne_eqb r 31 (λ e. omega (arith, e, lt)) in rw no (take-set-lt 31 words r word lt)
