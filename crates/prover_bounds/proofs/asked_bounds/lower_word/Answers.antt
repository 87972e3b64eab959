use Rattle.std.proofs.Common.{Bool, sym, ◌∙◌, ap}
use Rattle.prover_class.specs.Bounds.{WordBound, lower_bound}
use Rattle.prover_bounds.proofs.Choosing.{lower_uncounted}
use Rattle.prover_bounds.proofs.asked_bounds.lower_word.Goals as goal

pub returns-clause-exact : goal.returns-clause-exact
returns-clause-exact c = λ Γ x g q.
    let choice = c.choice_alone-choice.ensures Γ x g q in
    choice.value
    ∙ ap (λ (w : WordBound). w.value) (lower_uncounted Γ x)
    ∙ ap (λ (b : Bool). (lower_bound b Γ x).value) (sym c.if-counted.false)
