-- Which faults lie in one token of a statement.
use Rattle.asm_text.specs.declared.fault.LineFlaw.{LineFlaw}
use Rattle.asm_text.specs.declared.fault.LineFlaw.TheVariants as L

-- no mnemonic, a wrong operand, or no formula
abbrev pub IsTokenFlaw : LineFlaw → Type 0
IsTokenFlaw L.Mnemonic = Unit {0}
IsTokenFlaw L.Register = Unit {0}
IsTokenFlaw L.Range = Unit {0}
IsTokenFlaw L.Formula = Unit {0}
IsTokenFlaw flaw = ⊥
