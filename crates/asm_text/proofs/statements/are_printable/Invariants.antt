use Rattle.std.proofs.Common.{◌≡◌, drop}
use Rattle.asm_text.specs.Statements.{are_printable}
use Rattle.asm_text.proofs.statements.are_printable.Given as goal

abbrev pub invariant-loop-i : goal.invariant-loop-i
invariant-loop-i l = are_printable (drop l.i l.line) ≡ are_printable l.line
