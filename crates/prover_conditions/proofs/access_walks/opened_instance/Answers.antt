use Rattle.std.proofs.Common.{Option, Some, sym, ◌∙◌, subst}
use Rattle.term_table.specs.Subst.{bind}
use Rattle.formula_tree.specs.Formulas.{Exp}
use Rattle.prover_class.specs.Access.{without_access, instance_of, opened_with}
use Rattle.prover_ids.proofs.HypRows.{hyps-after}
use Rattle.prover_sums.specs.Sums.{IsExpOption}
use Rattle.prover_conditions.specs.Inside.AccessIds.{IfOpened}
use Rattle.prover_goals.proofs.Kept.{context-more}
use Rattle.prover_goals.proofs.WordRows.{after_now}
use Rattle.prover_conditions.proofs.AccessRows.{option_some}
use Rattle.prover_conditions.proofs.access_walks.opened_instance.Goals as goal

pub opened_with-requires-clause-context : goal.opened_with-requires-clause-context
opened_with-requires-clause-context c = context-more c.args.context.now c.args.table.now c.instance_of.new.table c.requires.context c.in_ok-instance_of.ensures.extends

pub returns-in-None-clause-after : goal.returns-in-None-clause-after
returns-in-None-clause-after c =
    let u = c.instance_of.new.table in
    let n = c.args.context.now in
    after_now u c.instance_of.new.search n c.in_ok-instance_of.ensures.search (context-more n c.args.table.now u c.requires.context c.in_ok-instance_of.ensures.extends)

pub returns-in_ok-opening-in-Some-clause-exact : goal.returns-in_ok-opening-in-Some-clause-exact
returns-in_ok-opening-in-Some-clause-exact c = λ Γ w P x g qa qp qx.
    let t = c.args.table.now in
    let u = c.instance_of.new.table in
    let n = c.args.context.now in
    let e = c.in_ok-instance_of.ensures.extends in
    let o = instance_of n.outside w x in
    let there : IsExpOption u o (Some c.in-Some.put) = subst (λ (r : Option _). IsExpOption u o r) c.in-Some.is (c.in_ok-instance_of.ensures.exact w x qa qx) in
    let y = option_some u o c.in-Some.put there in
    let made =
    c.in_ok-opening-in-Some.ensures.exact Γ w P x y.0 (hyps-after t u n.hyps Γ c.requires.context.hyps e g) (e.same c.args.a c.requires.a ∙ qa) (e.same c.args.premise c.requires.premise ∙ qp) (e.same c.args.address c.requires.address ∙ qx) y.2.is in
    subst (λ (z : Option Exp). IfOpened c.opened_with.new.table (bind z (opened_with (without_access c.args.counted) n.outside Γ w P x)) c.in_ok-opening-in-Some.opening) (sym y.1) made
