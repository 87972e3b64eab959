use Rattle.std.proofs.Common.{Bool, map, sym, ◌∙◌, ap}
use Rattle.lf_terms.specs.Encoding.{form_encoding}
use Rattle.view_marks.specs.Hints.{missing_parts}
use Rattle.view_marks.proofs.hints.parts_in.Goals as goal

pub returns-then-all-clause-exact : goal.returns-then-all-clause-exact
returns-then-all-clause-exact c = λ Γ A g q.
    c.in_ok-hard.ensures.exact Γ A g q
    ∙ ap (λ (b : Bool). map form_encoding (missing_parts b c.args.wanted.counted Γ A)) (sym c.if-all.true)

pub returns-clause-exact : goal.returns-clause-exact
returns-clause-exact c = λ Γ A g q.
    c.in_ok-first.ensures.exact Γ A g q
    ∙ ap (λ (b : Bool). map form_encoding (missing_parts b c.args.wanted.counted Γ A)) (sym c.if-all.false)
