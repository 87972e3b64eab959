use Rattle.std.proofs.Common.{◌≡◌, ◌-◌, length, take, drop, arith, ap, ◌∙◌}
use Rattle.std.proofs.lemmas.List.{take_rest, length-drop, length-take}
use Rattle.text_tokens.specs.Inside.Fronts.{lexeme_front}
use Rattle.text_tokens.proofs.Fronts.{lexeme_here, front_within, front_some}
use Rattle.text_tokens.proofs.tokens.lexeme_at.Goals as goal

pub slice_bounds-result-end : goal.slice_bounds-result-end
slice_bounds-result-end g c =
    let t = c.args.text.now in
    let e = ap (λ l. length (lexeme_front g.M.Marks.class l)) (take_rest t c.args.at) in
    omega (arith, e, c.lexeme_length-count.ensures, take_rest t c.args.at, front_within g.M.Marks.class (drop c.args.at t), length-drop c.args.at t, ap length (take_rest t c.args.at), length-take c.lexeme_length-count.result (take (length t - c.args.at) (drop c.args.at t)))

pub overflow_add-result : goal.overflow_add-result
overflow_add-result g c =
    let t = c.args.text.now in
    let e = ap (λ l. length (lexeme_front g.M.Marks.class l)) (take_rest t c.args.at) in
    omega (arith, e, c.lexeme_length-count.ensures, front_within g.M.Marks.class (drop c.args.at t), length-drop c.args.at t)

pub returns-clause-token : goal.returns-clause-token
returns-clause-token g c =
    let t = c.args.text.now in
    let e = c.lexeme_length-count.ensures ∙ ap (λ l. length (lexeme_front g.M.Marks.class l)) (take_rest t c.args.at) in
    rw (take_rest t c.args.at) (lexeme_here g.M.Marks.class t c.args.at c.lexeme_length-count.result c.requires.within c.requires.ordinary e)

pub returns-clause-within : goal.returns-clause-within
returns-clause-within g c =
    let t = c.args.text.now in
    let e = ap (λ l. length (lexeme_front g.M.Marks.class l)) (take_rest t c.args.at) in
    omega (arith, e, c.lexeme_length-count.ensures, front_within g.M.Marks.class (drop c.args.at t), length-drop c.args.at t)

pub returns-clause-on : goal.returns-clause-on
returns-clause-on g c =
    let t = c.args.text.now in
    let e = ap (λ l. length (lexeme_front g.M.Marks.class l)) (take_rest t c.args.at) in
    omega (arith, e, c.lexeme_length-count.ensures, front_some g.M.Marks.class t c.args.at c.requires.within c.requires.ordinary)

pub returns-clause-ends : goal.returns-clause-ends
returns-clause-ends g c =
    let t = c.args.text.now in
    let e = ap (λ l. length (lexeme_front g.M.Marks.class l)) (take_rest t c.args.at) in
    let n : length (take c.lexeme_length-count.result (take (length t - c.args.at) (drop c.args.at t))) ≡ c.lexeme_length-count.result = omega (arith, e, c.lexeme_length-count.ensures, front_within g.M.Marks.class (drop c.args.at t), length-drop c.args.at t, ap length (take_rest t c.args.at), length-take c.lexeme_length-count.result (take (length t - c.args.at) (drop c.args.at t))) in
    omega (arith, n)
