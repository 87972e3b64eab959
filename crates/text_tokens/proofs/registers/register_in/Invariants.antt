use Rattle.std.proofs.Common.{◌≡◌, drop}
use Rattle.text_tokens.specs.Registers.{register_in}
use Rattle.text_tokens.specs.Inside.Rows.{rows_view}
use Rattle.text_tokens.proofs.registers.register_in.Given as goal

abbrev pub invariant-loop-i : goal.invariant-loop-i
invariant-loop-i l = register_in (rows_view (drop l.i l.rows)) l.i l.lexeme ≡ register_in (rows_view l.rows) 0 l.lexeme
