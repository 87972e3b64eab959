-- The line of a fault, and the name of its kind.
use Rattle.std.specs.Prelude.{ℕ, List, codes}
use Rattle.alpha_words.specs.Names.{bad_word_name}
use Rattle.pcc_asm.specs.declared.fault.AsmFlaw.{AsmFlaw}
use Rattle.pcc_asm.specs.declared.fault.AsmFlaw.TheVariants as A

-- the name of a kind, as its line shows it; that of a word is why the profile refuses it
abbrev pub asm_flaw_name : AsmFlaw → List ℕ
asm_flaw_name (A.NoLabel line) = codes "NoLabel"
asm_flaw_name (A.Word line bad) = bad_word_name bad
asm_flaw_name (A.Target line) = codes "Target"
asm_flaw_name (A.FallsOff line) = codes "FallsOff"

-- the line that is wrong, from 1
abbrev pub asm_flaw_line : AsmFlaw → ℕ
asm_flaw_line (A.NoLabel line) = line
asm_flaw_line (A.Word line bad) = line
asm_flaw_line (A.Target line) = line
asm_flaw_line (A.FallsOff line) = line
