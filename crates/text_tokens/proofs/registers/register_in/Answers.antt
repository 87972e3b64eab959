use Rattle.std.proofs.Common.{sym, ◌∙◌}
use Rattle.text_tokens.proofs.Rows.{rows_here, rows_more, rows_past}
use Rattle.text_tokens.proofs.registers.register_in.Goals as goal

pub returns-then-is_named-clause-row : goal.returns-then-is_named-clause-row
returns-then-is_named-clause-row c =
    sym (rows_here c.args.rows.now c.loop-i.i _ c.args.lexeme.now c.loop-i-test.true (sym c.is_named.ensures ∙ c.if-is_named.true)) ∙ c.loop-i.invariant

pub loop-i-preserved : goal.loop-i-preserved
loop-i-preserved c =
    rows_more c.args.rows.now c.loop-i.i _ c.args.lexeme.now c.loop-i-test.true (sym c.is_named.ensures ∙ c.if-is_named.false) ∙ c.loop-i.invariant

pub returns-clause-row : goal.returns-clause-row
returns-clause-row c = sym (rows_past c.args.rows.now c.loop-i.i c.args.lexeme.now c.loop-i-test.false) ∙ c.loop-i.invariant
