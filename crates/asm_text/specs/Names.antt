-- The names of the kinds of faults, as lines show them.
use Rattle.std.specs.Prelude.{ℕ, List, codes}
use Rattle.asm_text.specs.declared.fault.LineFlaw.{LineFlaw}
use Rattle.asm_text.specs.declared.fault.LineFlaw.TheVariants as L

-- what is wrong with a line, in one name
abbrev pub line_flaw_name : LineFlaw → List ℕ
line_flaw_name L.Character = codes "Character"
line_flaw_name L.Mnemonic = codes "Mnemonic"
line_flaw_name L.Operand = codes "Operand"
line_flaw_name L.Register = codes "Register"
line_flaw_name L.Range = codes "Range"
line_flaw_name L.Formula = codes "Formula"
line_flaw_name L.DoubleLabel = codes "DoubleLabel"
line_flaw_name L.DoubleInvariant = codes "DoubleInvariant"
line_flaw_name L.LooseInvariant = codes "LooseInvariant"
line_flaw_name L.Length = codes "Length"
