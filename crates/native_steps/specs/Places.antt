-- Where Alpha registers are while native code runs: in a register of the processor, or in a quadword of an area that the caller lends.
-- System V Application Binary Interface, AMD64 Architecture Processor Supplement, section 3.2.1, figure 3.4, "Register Usage".
use Rattle.std.specs.Prelude.{◌≡◌, ◌⊎◌, ℕ, ◌+◌, ◌*◌, Bool, true, false, ◌&&◌, ◌||◌, not, ◌==◌, if◌then◌else◌, nat_le, nat_lt, List, length, get_or, replicate, ℤ}
use Rattle.std.specs.Prelude.{pos}
use Rattle.native_steps.specs.declared.places.Place.{Place}
use Rattle.native_steps.specs.declared.places.Place.TheVariants.{Register, Nowhere}
use Rattle.std.specs.List.{list_any}

-- The places of registers 0 to 30.
abbrev pub Places : Type 0
Places = List Place

-- the place of an Alpha register
abbrev pub place_at : Places → ℕ → Place
place_at p r = get_or p r Nowhere

-- the place of an operand: register 31, which reads 0, is nowhere
abbrev pub operand_place : Places → ℕ → Place
operand_place p r = if r == 31 then Nowhere else place_at p r

-- the code may read a register that has this place
abbrev pub is_somewhere : Place → Bool
is_somewhere Nowhere = false
is_somewhere _ = true

-- A register that may be read: register 31, which reads 0, or one that is somewhere.
abbrev pub IsSomewhere : Places → ℕ → Type 0
IsSomewhere p r = (r ≡ 31) ⊎ (is_somewhere (place_at p r) ≡ true)

-- rax, the first temporary: results come here
abbrev pub RAX : ℕ
RAX = 0

-- rcx, the second temporary: shifts take their count here
abbrev pub RCX : ℕ
RCX = 1

-- r8, the fuel that is left
abbrev pub FUEL : ℕ
FUEL = 8

-- r11, the area's address
abbrev pub AREA : ℕ
AREA = 11

-- A register that may be a place: neither of the above, nor rsp, which is 4, nor r12, which can't be a base.
abbrev pub is_free : ℕ → Bool
is_free q = nat_lt q 16 && not (q == RAX || q == RCX || q == 4 || q == FUEL || q == AREA || q == 12)

-- A register that a function leaves as it was: rbx, rsp, rbp, r12 to r15.
abbrev pub is_callee_saved : ℕ → Bool
is_callee_saved q = q == 3 || q == 4 || q == 5 || (nat_le 12 q && nat_lt q 16)

-- Places of 31 registers, no two in one register of the processor.
pub record ArePlaces (p : Places) : Type 0 where
  pub count : length p ≡ 31
  pub free : (r q : ℕ) → place_at p r ≡ Register q → is_free q ≡ true
  pub apart : (r k q : ℕ) → place_at p r ≡ Register q → place_at p k ≡ Register q → r ≡ k

-- no register is anywhere
abbrev pub unplaced : Places
unplaced = replicate 31 Nowhere

-- whether a place is that register of the processor
abbrev pub is_in : Place → ℕ → Bool
is_in (Register own) q = own == q
is_in _ q = false

-- whether that register of the processor has an Alpha register
abbrev pub is_taken : Places → ℕ → Bool
is_taken p q = list_any (λ place. is_in place q) p

-- Whether an Alpha register may be assigned to it.
abbrev pub may_have : Places → ℕ → Bool
may_have p q = is_free q && not (is_taken p q)

-- the distance from the area's address to the quadword of an Alpha register
abbrev pub slot : ℕ → ℤ
slot r = pos (8 * r)

-- the address of that quadword
abbrev pub slot_address : ℕ → ℕ → ℕ
slot_address area r = area + 8 * r
