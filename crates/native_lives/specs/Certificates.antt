-- What a certificate says that has a form for each index, and a word of bits.
use Rattle.std.specs.Prelude.{ℕ, ◌/◌, ◌%◌, ◌^◌, Bool, true, ◌&&◌, ◌==◌, nat_lt, List, slice_get, Option, Some, None}
use Rattle.native_code.specs.declared.insn.Form.{Form}
use Rattle.native_code.specs.Lives.{Lean}

-- the bit of a register in a word
abbrev pub register_bit : ℕ → ℕ → Bool
register_bit word r = (word / 2 ^ r) % 2 == 1

-- whether it is set in a word, if there is one
abbrev pub is_set_in : Option ℕ → ℕ → Bool
is_set_in None r = true
is_set_in (Some word) r = register_bit word r

-- Whether a register is live at an index: one of 31, whose bit is set there. Past the last word all are.
abbrev pub live_at : List ℕ → ℕ → ℕ → Bool
live_at words i r = nat_lt r 31 && is_set_in (slice_get words i) r

-- The certificate.
abbrev pub lean_of : List Form → List ℕ → Lean
lean_of forms words = record { forms = forms; live = live_at words }
