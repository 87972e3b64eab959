use Rattle.std.proofs.Common.{IfOk, Bool, sym, ◌∙◌, ap, subst}
use Rattle.prover_class.specs.Bounds.{WordBound, lower_bound}
use Rattle.prover_bounds.specs.BoundIds.{IsWordBound}
use Rattle.prover_bounds.proofs.Choosing.{lower_uncounted}
use Rattle.prover_bounds.proofs.asked_bounds.lower_bound.Goals as goal

pub returns-clause-exact : goal.returns-clause-exact
returns-clause-exact c = λ Γ x g q.
    let choice = c.choice_alone-choice.ensures Γ x g q in
    let r = c.made.result in
    let u = c.made.new.table in
    subst (λ (w : WordBound). IfOk r (IsWordBound u w))
    (choice.is ∙ lower_uncounted Γ x
    ∙ ap (λ (b : Bool). lower_bound b Γ x) (sym c.if-counted.false)) (c.made.ensures.exact Γ x g q)
