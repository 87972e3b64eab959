use Rattle.std.proofs.Common.{◌≡◌, Bool, true, None, cond, option_map, sym, ◌∙◌, subst}
use Rattle.term_table.specs.Table.{IsKnown, tree_at}
use Rattle.formula_tree.specs.Variables.{PExp, subst_var_exp, subst_var}
use Rattle.lf_terms.specs.Encoding.{exp_encoding, form_encoding}
use Rattle.prover_class.specs.Access.{without_access, same_address, opening_of}
use Rattle.prover_ids.proofs.Standing.{twice}
use Rattle.prover_ids.proofs.HypRows.{hyps-after}
use Rattle.prover_conditions.specs.Inside.AccessIds.{IfOpened}
use Rattle.prover_goals.proofs.Kept.{context-more}
use Rattle.prover_goals.proofs.WordRows.{after_now}
use Rattle.prover_conditions.proofs.access_walks.opened_with.Goals as goal

pub returns-then-not-branch-clause-after : goal.returns-then-not-branch-clause-after
returns-then-not-branch-clause-after c =
    let u = c.same_address.new.table in
    let n = c.args.context.now in
    let x = twice c.in_ok-there.ensures.extends c.in_ok-same_address.ensures.extends in
    after_now u c.same_address.new.search n c.in_ok-same_address.ensures.search (context-more n c.args.table.now u c.requires.context x)

pub opened-requires-clause-context : goal.opened-requires-clause-context
opened-requires-clause-context c =
    let x = twice c.in_ok-there.ensures.extends (twice c.in_ok-same_address.ensures.extends c.in_ok-wanted.ensures.extends) in
    context-more c.args.context.now c.args.table.now c.form_with.new.table c.requires.context x

pub returns-clause-exact : goal.returns-clause-exact
returns-clause-exact c = λ Γ w P x y g qa qp qx qy.
    let t = c.args.table.now in
    let t1 = c.exp_with.new.table in
    let t2 = c.same_address.new.table in
    let t3 = c.form_with.new.table in
    let n = c.args.context.now in
    let e1 = c.in_ok-there.ensures.extends in
    let e2 = c.in_ok-same_address.ensures.extends in
    let e3 = c.in_ok-wanted.ensures.extends in
    let x2 = twice e1 e2 in
    let x3 = twice x2 e3 in
    let z = subst_var_exp x 0 (PExp y) in
    let R = subst_var P 0 (PExp y) in
    let there : tree_at t1 c.in_ok-there.there ≡ exp_encoding z = c.in_ok-there.ensures.put.is x y qx qy in
    let known : IsKnown t1 c.in_ok-there.there = c.in_ok-there.ensures.put.known in
    let same : same_address n.outside z w ≡ true = sym (c.in_ok-same_address.ensures.exact z w there (e1.same c.args.a c.requires.a ∙ qa)) ∙ c.if-not-branch.false in
    let wanted : tree_at t3 c.in_ok-wanted.wanted ≡ form_encoding R = c.in_ok-wanted.ensures.put.is P y (x2.same c.args.premise c.requires.premise ∙ qp) (x2.same c.args.put c.requires.put ∙ qy) in
    let later : tree_at t3 c.in_ok-there.there ≡ exp_encoding z = (twice e2 e3).same c.in_ok-there.there known ∙ there in
    let made = c.in_ok-opening.ensures.exact Γ R z y (hyps-after t t3 n.hyps Γ c.requires.context.hyps x3 g) wanted later (x3.same c.args.put c.requires.put ∙ qy) in
    subst (λ (b : Bool). IfOpened c.opened.new.table (cond b (option_map (opening_of z y) (without_access c.args.counted n.outside Γ R)) None) c.in_ok-opening.opening) (sym same) made
