use Rattle.std.proofs.Common.{List, sym, ◌∙◌, subst}
use Rattle.prover_ids.specs.Hypotheses.{AreHyps}
use Rattle.prover_ids.specs.declared.hypotheses.Hypothesis.{Hypothesis}
use Rattle.prover_ids.proofs.HypRows.{hyps-after}
use Rattle.prover_bounds.proofs.BoundRows.{bound-more}
use Rattle.prover_goals.proofs.WordRows.{after_twice}
use Rattle.prover_goals.proofs.words.bounds_of.Goals as goal

pub returns-clause-exact : goal.returns-clause-exact
returns-clause-exact c = λ Γ x y g qa qb.
    let e1 = c.in_ok-upper.ensures.extends in
    let u = c.upper.new.table in
    let h = hyps-after c.args.table.now u c.args.context.now.hyps Γ c.requires.context.hyps e1 g in
    let k = subst (λ (l : List Hypothesis). AreHyps u l Γ) (sym c.in_ok-upper.ensures.after.hyps) h in
    (bound-more (c.in_ok-upper.ensures.exact Γ x g qa) c.in_ok-lower.ensures.extends, c.in_ok-lower.ensures.exact Γ y k (e1.same c.args.b c.requires.b ∙ qb))

pub returns-clause-after : goal.returns-clause-after
returns-clause-after c =
    after_twice c.upper.new.table c.lower.new.table c.upper.new.search c.lower.new.search c.args.context.now
    c.upper.new.context c.lower.new.context c.in_ok-upper.ensures.after c.in_ok-lower.ensures.after
