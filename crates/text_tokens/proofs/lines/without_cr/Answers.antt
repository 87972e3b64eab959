use Rattle.std.proofs.Common.{length, ◌-◌, sym, ◌∙◌, arith}
use Rattle.text_tokens.proofs.Cutting.{last_byte, cr_dropped, no_cr_dropped}
use Rattle.text_tokens.proofs.lines.without_cr.Goals as goal

pub returns-then-line-last-eq13 : goal.returns-then-line-last-eq13
returns-then-line-last-eq13 c rest h =
    let l = c.args.line.now in
    let some = last_byte l (sym c.is_empty.ensures ∙ c.if-is_empty.false) in
    cr_dropped l (length l - 1) rest some (omega (arith, c.if-line-last-eq13.true)) h

pub returns-else-line-last-eq13 : goal.returns-else-line-last-eq13
returns-else-line-last-eq13 c rest h =
    let l = c.args.line.now in
    let some = last_byte l (sym c.is_empty.ensures ∙ c.if-is_empty.false) in
    no_cr_dropped l (length l - 1) rest some c.if-line-last-eq13.false h
