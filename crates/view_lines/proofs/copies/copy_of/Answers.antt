use Rattle.std.proofs.Common.{◌<◌, ◌≤◌, ◌++◌, ◌∷◌, [], length, take, rules, sym, ◌∙◌, subst, take_all, arith}
use Rattle.std.proofs.lemmas.List.{take_more, length-map}
use Rattle.term_table.specs.Tree.{Var}
use Rattle.term_table.specs.Table.{IsKnown, tree_at}
use Rattle.proof_container.specs.Postorder.{is_emitted, HasPartsFirst}
use Rattle.proof_container.specs.Inside.Walked.{left_trees}
use Rattle.proof_container.proofs.Ordering.{known-get}
use Rattle.view_lines.proofs.Copying.{next-tree, begins, left-at, left-within}
use Rattle.view_lines.proofs.copies.copy_of.Goals as goal

pub copy_tree-requires-clause-begun : goal.copy_tree-requires-clause-begun
copy_tree-requires-clause-begun c =
    let t = c.args.table.now in
    let w = c.args.walk.now in
    let i = c.loop-index.index in
    let lt : i < length w.left.items = search rules in
    let most : i ≤ length (left_trees t w) = omega (arith, left-within t w i lt) in record {
      left = c.requires.left;
      begins = begins (left_trees t w) c.loop-index.copy.trees i c.loop-index.invariant most;
    }

pub copy_tree-requires-clause-known : goal.copy_tree-requires-clause-known
copy_tree-requires-clause-known c =
    let w = c.args.walk.now in
    let i = c.loop-index.index in
    let lt : i < length w.left.items = search rules in
    subst (IsKnown c.args.table.now) (sym c.index-id.ensures)
    (known-get c.args.table.now w.left.items i c.index-id.result.now c.requires.left.known lt)

pub copy_tree-requires-clause-parts : goal.copy_tree-requires-clause-parts
copy_tree-requires-clause-parts c =
    let t = c.args.table.now in
    let w = c.args.walk.now in
    let i = c.loop-index.index in
    let lt : i < length w.left.items = search rules in
    let same = left-at t w i c.index-id.result.now lt c.index-id.ensures in
    let next = next-tree (left_trees t w) i c.requires.order (left-within t w i lt) in
    subst (λ ts. HasPartsFirst ts (tree_at t c.index-id.result.now)) (sym c.loop-index.invariant)
    (subst (HasPartsFirst (take i (left_trees t w))) same next.0)

pub copy_tree-requires-clause-new : goal.copy_tree-requires-clause-new
copy_tree-requires-clause-new c =
    let t = c.args.table.now in
    let w = c.args.walk.now in
    let i = c.loop-index.index in
    let lt : i < length w.left.items = search rules in
    let same = left-at t w i c.index-id.result.now lt c.index-id.ensures in
    let next = next-tree (left_trees t w) i c.requires.order (left-within t w i lt) in
    (λ k. is_emitted (sym same k) (c.loop-index.invariant k)) ∙ next.1

pub loop-index-preserved : goal.loop-index-preserved
loop-index-preserved c =
    let t = c.args.table.now in
    let w = c.args.walk.now in
    let i = c.loop-index.index in
    let lt : i < length w.left.items = search rules in
    let same = left-at t w i c.index-id.result.now lt c.index-id.ensures in
    c.in_ok-copy_tree.ensures
    ∙ (λ k. c.loop-index.invariant k ++ sym same k ∷ [])
    ∙ sym (take_more (left_trees t w) i (Var 0) (left-within t w i lt))

pub returns : goal.returns
returns c =
    let t = c.args.table.now in
    let w = c.args.walk.now in
    let i = c.loop-index.index in
    let past : length w.left.items ≤ i = search rules in
    c.loop-index.invariant
    ∙ take_all i (left_trees t w) (omega (arith, past, length-map w.left.items (tree_at t)))
