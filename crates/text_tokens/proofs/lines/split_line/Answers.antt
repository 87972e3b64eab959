use Rattle.std.proofs.Common.{length, take, drop, ◌-◌, arith}
use Rattle.std.proofs.lemmas.List.{take_rest}
use Rattle.text_tokens.proofs.Cutting.{last_line}
use Rattle.text_tokens.proofs.lines.split_line.Goals as goal

pub returns-then-count-text-clause-line : goal.returns-then-count-text-clause-line
returns-then-count-text-clause-line c =
    let t = c.args.text.now in
    let n = c.line_length-count.result in
    last_line t (take (length t - n) (drop n t)) n (omega (arith, c.requires))
    (omega (arith, c.if-count-text.true)) c.line_length-count.ensures.line (take_rest t n)
