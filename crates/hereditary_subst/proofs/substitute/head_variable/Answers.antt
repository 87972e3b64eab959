use Rattle.std.proofs.Common.{rules, ◌≡◌, ◌<◌, ◌-◌, arith, sym, le_refl}
use Rattle.term_table.specs.Subst.{erase}
use Rattle.term_table.specs.Table.{tree_at}
use Rattle.hereditary_subst.proofs.Spots.{spot_below, spot_above, walk_here, walk_other}
use Rattle.hereditary_subst.proofs.substitute.head_variable.Goals as goal

pub returns-then-from-x-clause-tree : goal.returns-then-from-x-clause-tree
returns-then-from-x-clause-tree c =
    let t = c.args.table.now in
    let here : c.args.n ≡ c.args.x = search rules in
    (c.requires.known_m, (c.requires.known_ty, le_refl _, walk_here (erase (tree_at t c.args.ty)) (tree_at t c.args.m) c.args.x c.args.n (tree_at t c.args.id) c.requires.is here))

pub returns-then-from-x-2-clause-tree : goal.returns-then-from-x-2-clause-tree
returns-then-from-x-2-clause-tree c =
    let t = c.args.table.now in
    let below : c.args.n < c.args.x = omega arith in
    (c.requires.known, walk_other (erase (tree_at t c.args.ty)) (tree_at t c.args.m) c.args.x c.args.n c.args.n (tree_at t c.args.id) (tree_at t c.args.id) c.requires.is (spot_below c.args.x c.args.n below) (sym c.requires.is))

pub returns-clause-tree : goal.returns-clause-tree
returns-clause-tree c =
    let t = c.args.table.now in
    let made = c.in_ok-term.ensures.id in
    let apart : c.args.n ≡ c.args.x → ⊥ = search rules in
    let above : c.args.x < c.args.n = grind arith in
    (made.0, walk_other (erase (tree_at t c.args.ty)) (tree_at t c.args.m) c.args.x c.args.n (c.args.n - 1) (tree_at t c.args.id) _ c.requires.is (spot_above c.args.x c.args.n above) made.1)
