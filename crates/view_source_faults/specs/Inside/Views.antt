-- What assembling gives, as definitions see it.
use Rattle.std.specs.Prelude.{◌≡◌, List, Option, Some, None, Result, Ok, Err}
use Rattle.alpha_words.specs.declared.insn.Insn.{Insn}
use Rattle.pcc_asm.specs.declared.fault.AsmFlaw.{AsmFlaw}

-- the code is made, or this is why it isn't
abbrev pub IsCodeAnswer : Result (List Insn) AsmFlaw → Option AsmFlaw → Type 0
IsCodeAnswer made None = (insns : List Insn) × (made ≡ Ok insns)
IsCodeAnswer made (Some flaw) = made ≡ Err flaw
