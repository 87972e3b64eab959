use Rattle.std.proofs.Common.{sym, ◌∙◌}
use Rattle.text_tokens.proofs.Fronts.{blank_more}
use Rattle.text_tokens.proofs.tokens.after_blanks.Goals as goal

pub loop-at-preserved : goal.loop-at-preserved
loop-at-preserved g c = blank_more g.M.Marks.class c.args.text.now c.loop-at.at c.loop-at-test.true (sym c.is_blank.ensures ∙ c.if-not-is_blank.false) ∙ c.loop-at.invariant
