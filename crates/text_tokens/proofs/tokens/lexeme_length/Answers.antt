use Rattle.std.proofs.Common.{arith, sym, ◌∙◌}
use Rattle.text_tokens.proofs.Fronts.{front_more}
use Rattle.text_tokens.proofs.tokens.lexeme_length.Goals as goal

pub loop-i-preserved : goal.loop-i-preserved
loop-i-preserved g c =
    let e = front_more g.M.Marks.class c.args.text.now c.loop-i.i c.loop-i-test.true (sym c.is_ordinary.ensures ∙ c.if-not-is_ordinary.false) in
    omega (arith, e, c.loop-i.invariant)
