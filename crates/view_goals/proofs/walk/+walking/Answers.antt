use Rattle.std.proofs.Common.{◌≡◌, ◌+◌, ◌-◌, suc, true, false, IfOk, sym, ◌∙◌, subst, arith}
use Rattle.std.specs.Prelude.{slice_get}
use Rattle.term_table.specs.Table.{tree_at}
use Rattle.view_goals.specs.declared.rows.Why.TheVariants.{Step}
use Rattle.view_goals.specs.Inside.Outlines.{Outline, One, Behind, outline_of, outline_within, rows_by}
use Rattle.view_goals.specs.Inside.Appended.{IsAppended}
use Rattle.view_goals.proofs.Appending.{two, side}
use Rattle.view_goals.proofs.Outlines.{within-marked, within-unmarked}
use Rattle.view_goals.proofs.walk.+walking.Goals as goal

pub walk-returns-then-marked : goal.walk-returns-then-marked
walk-returns-then-marked t c =
    let p = c.args.program.now in
    let u = p.table.now in
    let cut = p.cut.now in
    let there = within-marked cut.code cut.marks p.counted c.args.fuel c.args.index c.args.to (sym c.marked.ensures ∙ c.if-marked.true) in
    let tree = tree_at u c.args.id in
    subst
    (λ (z : Outline). IfOk c.push_goal.result (λ _. IsAppended u c.args.out.now.items (rows_by c.args.depth z tree) c.push_goal.new.out.items))
    (sym there) c.push_goal.ensures

pub walk-returns : goal.walk-returns
walk-returns t c =
    let p = c.args.program.now in
    let u = p.table.now in
    let cut = p.cut.now in
    let more : c.args.fuel ≡ suc (c.args.fuel - 1) = omega (arith, c.if-fuel-eq0.false) in
    let unmarked = sym c.marked.ensures ∙ c.if-marked.false in
    let there = within-unmarked cut.code cut.marks p.counted c.args.fuel (c.args.fuel - 1) c.args.index c.args.to more unmarked in
    let tree = tree_at u c.args.id in
    subst
    (λ (z : Outline). IfOk c.walk_from.result (λ _. IsAppended u c.args.out.now.items (rows_by c.args.depth z tree) c.walk_from.new.out.items))
    (sym there) c.walk_from.ensures

pub walk_behind-returns : goal.walk_behind-returns
walk_behind-returns t c =
    let p = c.args.program.now in
    let u = p.table.now in
    let cut = p.cut.now in
    let i = c.args.index in
    two u c.args.out.now.items c.push.new.out.items c.push_goal.new.out.items c.walk.new.out.items c.args.depth
    (One i c.args.why) (outline_within cut.code cut.marks p.counted c.args.fuel i (i + 1)) (tree_at u c.args.id)
    (tree_at u c.left-first.result) (tree_at u c.right-rest.result) c.walk.result
    c.left-first.ensures.is c.right-rest.ensures.is c.in_ok-push.ensures c.in_ok-push_goal.ensures c.walk.ensures

pub walk_both-returns : goal.walk_both-returns
walk_both-returns t c =
    let p = c.args.program.now in
    let u = p.table.now in
    let cut = p.cut.now in
    let i = c.args.index in
    two u c.args.out.now.items c.push.new.out.items c.walk_side.new.out.items c.walk_side-2.new.out.items c.args.depth
    (Behind i true (outline_within cut.code cut.marks p.counted c.args.fuel i c.args.to))
    (Behind i false (outline_within cut.code cut.marks p.counted c.args.fuel i (i + 1))) (tree_at u c.args.id)
    (tree_at u c.left-first.result) (tree_at u c.right-rest.result) c.walk_side-2.result
    c.left-first.ensures.is c.right-rest.ensures.is c.in_ok-push.ensures c.in_ok-walk_side.ensures c.walk_side-2.ensures

pub walk_counted-returns : goal.walk_counted-returns
walk_counted-returns t c =
    let p = c.args.program.now in
    let u = p.table.now in
    let cut = p.cut.now in
    let i = c.args.index in
    two u c.args.out.now.items c.push.new.out.items c.push_goal.new.out.items c.walk_insn.new.out.items c.args.depth
    (One i Step) (outline_of false (outline_within cut.code cut.marks p.counted c.args.fuel i) i (slice_get cut.code i)) (tree_at u c.args.id)
    (tree_at u c.left-first.result) (tree_at u c.right-rest.result) c.walk_insn.result
    c.left-first.ensures.is c.right-rest.ensures.is c.in_ok-push.ensures c.in_ok-push_goal.ensures c.walk_insn.ensures

pub walk_side-returns : goal.walk_side-returns
walk_side-returns t c =
    let p = c.args.program.now in
    let u = p.table.now in
    let cut = p.cut.now in
    side u c.args.out.now.items c.push.new.out.items c.walk.new.out.items c.args.depth c.args.index c.args.taken
    (outline_within cut.code cut.marks p.counted c.args.fuel c.args.index c.args.to) (tree_at u c.args.id)
    (tree_at u c.left-known.result) (tree_at u c.right-rest.result) c.walk.result
    c.left-known.ensures.is c.right-rest.ensures.is c.in_ok-push.ensures c.walk.ensures
