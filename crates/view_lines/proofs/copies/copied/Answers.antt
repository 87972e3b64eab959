use Rattle.std.proofs.Common.{drop, length, ◌<◌, sym, ◌∙◌, ap, subst}
use Rattle.term_table.specs.Table.{tree_in, tree_at}
use Rattle.proof_container.specs.Inside.Walked.{left_trees}
use Rattle.view_lines.proofs.Copying.{place-begun, listed-begun}
use Rattle.view_lines.proofs.copies.copied.Goals as goal

pub number-place-requires-clause-listed : goal.number-place-requires-clause-listed
number-place-requires-clause-listed c =
    let es = left_trees c.args.table.now c.args.walk.now in
    let ts = c.args.copy.now.trees in
    listed-begun ts (drop (length ts) es) es (tree_at c.args.table.now c.args.part)
    c.requires.begun.begins c.requires.listed

pub id-requires : goal.id-requires
id-requires c =
    let es = left_trees c.args.table.now c.args.walk.now in
    let ts = c.args.copy.now.trees in
    (place-begun ts (drop (length ts) es) es (tree_at c.args.table.now c.args.part)
    c.number-place.result c.requires.begun.begins c.requires.listed c.number-place.ensures).0

pub returns-clause-known : goal.returns-clause-known
returns-clause-known c =
    let es = left_trees c.args.table.now c.args.walk.now in
    let ts = c.args.copy.now.trees in
    let found = place-begun ts (drop (length ts) es) es (tree_at c.args.table.now c.args.part)
    c.number-place.result c.requires.begun.begins c.requires.listed c.number-place.ensures in
    subst (λ k. k < length ts) (sym c.id.ensures) found.0

pub returns-clause-tree : goal.returns-clause-tree
returns-clause-tree c =
    let es = left_trees c.args.table.now c.args.walk.now in
    let ts = c.args.copy.now.trees in
    let found = place-begun ts (drop (length ts) es) es (tree_at c.args.table.now c.args.part)
    c.number-place.result c.requires.begun.begins c.requires.listed c.number-place.ensures in
    ap (tree_in ts) c.id.ensures ∙ found.1
