use Rattle.std.proofs.Common.{◌≡◌, Bool, true, None, cond, option_map, sym, ◌∙◌, subst}
use Rattle.prover_class.specs.Access.{without_access, same_address, opening_of}
use Rattle.prover_ids.proofs.HypRows.{hyps-after}
use Rattle.prover_conditions.specs.Inside.AccessIds.{IfOpened}
use Rattle.prover_goals.proofs.Kept.{context-more}
use Rattle.prover_goals.proofs.WordRows.{after_now}
use Rattle.prover_conditions.proofs.access_walks.opened_by.Goals as goal

pub returns-then-not-branch-clause-after : goal.returns-then-not-branch-clause-after
returns-then-not-branch-clause-after c =
    let u = c.same_address.new.table in
    let n = c.args.context.now in
    after_now u c.same_address.new.search n c.in_ok-same_address.ensures.search (context-more n c.args.table.now u c.requires.context c.in_ok-same_address.ensures.extends)

pub opened-requires-clause-context : goal.opened-requires-clause-context
opened-requires-clause-context c = context-more c.args.context.now c.args.table.now c.same_address.new.table c.requires.context c.in_ok-same_address.ensures.extends

pub returns-clause-exact : goal.returns-clause-exact
returns-clause-exact c = λ Γ w P x g qa qp qx.
    let n = c.args.context.now in
    let e = c.in_ok-same_address.ensures.extends in
    let same : same_address n.outside x w ≡ true = sym (c.in_ok-same_address.ensures.exact x w qx qa) ∙ c.if-not-branch.false in
    let z = e.same c.args.address c.requires.address ∙ qx in
    let made = c.in_ok-opening.ensures.exact Γ P x x (hyps-after c.args.table.now c.same_address.new.table n.hyps Γ c.requires.context.hyps e g) (e.same c.args.premise c.requires.premise ∙ qp) z z in
    subst (λ (b : Bool). IfOpened c.opened.new.table (cond b (option_map (opening_of x x) (without_access c.args.counted n.outside Γ P)) None) c.in_ok-opening.opening) (sym same) made
