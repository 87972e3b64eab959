-- One instruction of the search for a jump to an index.
use Rattle.std.specs.Prelude.{ℕ, Bool, false, Option, Some, None}
use Rattle.alpha_words.specs.declared.insn.Insn.{Insn}
use Rattle.alpha_cfg.specs.Flow.{jump_of}
use Rattle.native_code.specs.Heads.{leads_to}

-- whether the instruction at an index, if there is one, jumps to the head
abbrev pub jumps_at : ℕ → ℕ → Option Insn → Bool
jumps_at head i None = false
jumps_at head i (Some insn) = leads_to head (jump_of i insn)
