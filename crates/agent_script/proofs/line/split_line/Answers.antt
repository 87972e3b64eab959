use Rattle.std.proofs.Common.{◌≡◌, suc, ◌+◌, ◌-◌, ◌<◌, ◌∷◌, length, take, drop, sym, ap, ◌∙◌}
use Rattle.std.proofs.Common.{arith}
use Rattle.std.proofs.lemmas.List.{take_rest}
use Rattle.agent_script.specs.Lines.{script_lines}
use Rattle.agent_script.proofs.Cuts.{last_line, ended_line}
use Rattle.agent_script.proofs.line.split_line.Goals as goal

pub returns-then-count-text-clause-line : goal.returns-then-count-text-clause-line
returns-then-count-text-clause-line c =
    let text = c.args.text.now in
    let n = c.line_length-count.result in
    last_line text n (omega (arith, c.requires)) (omega (arith, c.if-count-text.true))
    c.line_length-count.ensures.line
    ∙ ap (λ x. text ∷ script_lines x) (sym (take_rest text n))

pub returns-clause-line : goal.returns-clause-line
returns-clause-line c =
    let text = c.args.text.now in
    let n = c.line_length-count.result in
    let less : n < length text =
    omega (arith, c.if-count-text.false, c.line_length-count.ensures.within) in
    let next : suc n ≡ n + 1 = omega arith in
    ended_line text n less c.line_length-count.ensures.line (c.line_length-count.ensures.stops less)
    ∙ ap (λ k. take n text ∷ script_lines (drop k text)) next
    ∙ ap (λ x. take n text ∷ script_lines x) (sym (take_rest text (n + 1)))
