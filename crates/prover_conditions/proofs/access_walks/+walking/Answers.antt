use Rattle.std.proofs.Common.{rules, ◌≡◌, ◌==◌, ℕ, Option, Some, None, sym, ◌∙◌, ap, subst, arith}
use Rattle.std.specs.Ordering.{eq_by_cmp}
use Rattle.term_table.specs.Table.{IsKnown}
use Rattle.formula_tree.specs.Formulas.{Exp}
use Rattle.prover_class.specs.Access.{Opened, opened_at, from_side, first_opened}
use Rattle.prover_class.specs.Access as class
use Rattle.prover_conditions.specs.Inside.AccessIds.{access_of, IfFound, IsWalk}
use Rattle.prover_conditions.specs.declared.access_walks.Found.{Found}
use Rattle.prover_conditions.specs.declared.access_walks.Part.{Part}
use Rattle.prover_conditions.specs.contracts.access_walks.PartOrd.TheImpl as block
use Rattle.prover_conditions.specs.contracts.access_walks.PartPartialEq.TheImpl as equality
use Rattle.prover_conditions.proofs.AccessRows.{meant-after, walk-after, misses-after, misses-insert, if_found-at, first-right}
use Rattle.prover_conditions.proofs.access_walks.+walking.Goals as goal

equal : (a b : Part) → equality.ghosts.eq a b ≡ (a.form == b.form)
equal a b = search rules

agrees : (a b : Part) → equality.ghosts.eq a b ≡ eq_by_cmp block.ghosts.cmp a b
agrees a b = search rules

pub walk-returns-in_ok-insert-in-None-clause-misses : goal.walk-returns-in_ok-insert-in-None-clause-misses
walk-returns-in_ok-insert-in-None-clause-misses g c =
    let t = c.args.table.now in
    let u = c.walk_parts.new.table in
    let n = c.args.context.now in
    let d = c.walk_parts.new.context in
    let asked = c.args.asked.now in
    let grant = c.args.grant.now in
    let part = c.part_of-part.result in
    let done = c.in_ok-found.ensures in
    let none : IsWalk t u n.hyps n.outside asked grant c.args.form None = subst (λ (z : Option Found). IsWalk t u n.hyps n.outside asked grant c.args.form z) c.in-None.is done.exact in
    let now = walk-after t u c.walk_parts.new.search n d asked grant c.args.form c.requires.context c.requires.asked c.requires.grant c.requires.form done.extends done.after none in
    let of = subst (λ (z : ℕ). IsWalk u u d.hyps d.outside asked grant z None) (sym c.part_of-part.ensures) now in
    let known : IsKnown u part.form = omega (arith, c.part_of-part.ensures, c.requires.form, done.extends.longer) in
    misses-insert u d.hyps d.outside asked grant c.walk_parts.new.misses c.insert.new.self (eq_by_cmp block.ghosts.cmp part) part (λ k. sym (agrees part k) ∙ equal part k) known of done.misses c.in_ok-insert-in-None.ensures.updates.0

pub walk_both-returns-in_ok-further-in-Some-2-clause-exact :
    goal.walk_both-returns-in_ok-further-in-Some-2-clause-exact
walk_both-returns-in_ok-further-in-Some-2-clause-exact g c = λ Γ w P A B m qa qb.
    let t = c.args.table.now in
    let t1 = c.walk.new.table in
    let u = c.walk-in-None.new.table in
    let n = c.args.context.now in
    let d = c.walk.new.context in
    let asked = c.args.asked.now in
    let grant = c.args.grant.now in
    let k = access_of asked.access in
    let one = c.in_ok-found.ensures in
    let f : Exp → Option Opened = opened_at (class.without_access asked.counted) grant.quantified n.outside Γ w P in
    let none : first_opened k f A ≡ None = if_found-at t1 (first_opened k f A) c.in_ok-found.field-0 None c.in-None.is (one.exact Γ w P A m qa) in
    let later = meant-after t t1 c.walk.new.search n d asked grant Γ w P c.requires.context c.requires.asked c.requires.grant one.extends one.after m in
    let kb : IsKnown t c.args.b = omega (arith, c.requires.below.1, c.requires.form) in
    let right = c.in_ok-found-in-None.ensures.exact Γ w P B later (one.extends.same c.args.b kb ∙ qb) in
    let same : IfFound u (first_opened k f B) c.in_ok-found-in-None.field-0 = subst (λ (z : ℕ). IfFound u (first_opened k (opened_at (class.without_access asked.counted) grant.quantified z Γ w P) B) c.in_ok-found-in-None.field-0) one.after.outside right in
    let found = if_found-at u (first_opened k f B) c.in_ok-found-in-None.field-0 (Some c.in-Some-2.found) c.in-Some-2.is same in
    first-right u (first_opened k f A) (first_opened k f B) c.in_ok-further-in-Some-2.further none (c.in_ok-further-in-Some-2.ensures.exact u (first_opened k f B) found)

pub walk_both-returns-in-None-2-clause-exact : goal.walk_both-returns-in-None-2-clause-exact
walk_both-returns-in-None-2-clause-exact g c = λ Γ w P A B m qa qb.
    let t = c.args.table.now in
    let t1 = c.walk.new.table in
    let u = c.walk-in-None.new.table in
    let n = c.args.context.now in
    let d = c.walk.new.context in
    let asked = c.args.asked.now in
    let grant = c.args.grant.now in
    let k = access_of asked.access in
    let one = c.in_ok-found.ensures in
    let f : Exp → Option Opened = opened_at (class.without_access asked.counted) grant.quantified n.outside Γ w P in
    let none : first_opened k f A ≡ None = if_found-at t1 (first_opened k f A) c.in_ok-found.field-0 None c.in-None.is (one.exact Γ w P A m qa) in
    let later = meant-after t t1 c.walk.new.search n d asked grant Γ w P c.requires.context c.requires.asked c.requires.grant one.extends one.after m in
    let kb : IsKnown t c.args.b = omega (arith, c.requires.below.1, c.requires.form) in
    let right = c.in_ok-found-in-None.ensures.exact Γ w P B later (one.extends.same c.args.b kb ∙ qb) in
    let same : IfFound u (first_opened k f B) c.in_ok-found-in-None.field-0 = subst (λ (z : ℕ). IfFound u (first_opened k (opened_at (class.without_access asked.counted) grant.quantified z Γ w P) B) c.in_ok-found-in-None.field-0) one.after.outside right in
    let no_right : first_opened k f B ≡ None = if_found-at u (first_opened k f B) c.in_ok-found-in-None.field-0 None c.in-None-2.is same in
    first-right u (first_opened k f A) (first_opened k f B) None none (ap (from_side class.Right) no_right)

pub walk_parts-returns-in_ok-found-in-Right-clause-misses :
    goal.walk_parts-returns-in_ok-found-in-Right-clause-misses
walk_parts-returns-in_ok-found-in-Right-clause-misses g c =
    let done = c.in_ok-found-in-Right.ensures in
    misses-after c.args.table.now c.found_at.new.table c.found_at.new.search c.args.context.now c.found_at.new.context c.args.asked.now c.args.grant.now c.args.misses.now c.requires.context c.requires.asked c.requires.grant done.extends done.after c.requires.misses
