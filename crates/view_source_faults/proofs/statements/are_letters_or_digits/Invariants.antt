use Rattle.std.proofs.Common.{◌≡◌, drop}
use Rattle.asm_text.specs.Labels.{are_letters_or_digits}
use Rattle.view_source_faults.proofs.statements.are_letters_or_digits.Given as goal

abbrev pub invariant-loop-i : goal.invariant-loop-i
invariant-loop-i l = are_letters_or_digits (drop l.i l.lexeme) ≡ are_letters_or_digits l.lexeme
