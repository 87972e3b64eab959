use Rattle.std.proofs.Common.{◌≡◌, drop}
use Rattle.formula_text.specs.Bindings.{are_lower_or_digits}
use Rattle.formula_text.proofs.names.are_lower_or_digits.Given as goal

abbrev pub invariant-loop-i : goal.invariant-loop-i
invariant-loop-i l = are_lower_or_digits (drop l.i l.lexeme) ≡ are_lower_or_digits l.lexeme
