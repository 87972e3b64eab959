use Rattle.std.proofs.Common.{◌≡◌, ◌<◌, [], ◌∷◌, ◌++◌, length, sym, ◌∙◌, ap, subst, arith}
use Rattle.std.proofs.lemmas.List.{map_more}
use Rattle.term_table.specs.Tree.{Var}
use Rattle.term_table.specs.Table.{tree_at, PartsBelow}
use Rattle.view_entries.specs.Sizes.{tree_size}
use Rattle.view_entries.specs.Inside.NodeSizes.{node_size}
use Rattle.view_entries.proofs.Sized.{node_is}
use Rattle.view_entries.proofs.tree_sizes.sizes.Goals as goal

pub loop-index-preserved : goal.loop-index-preserved
loop-index-preserved c =
    let trees = c.args.table.now.trees in
    let n = c.loop-index.index in
    let test = c.loop-index-test.true in
    let within : n < length trees = omega (arith, c.count-index-end.ensures, test) in
    let below : PartsBelow n c.node-node.result =
    subst (λ k. PartsBelow k c.node-node.result) c.id.ensures c.node-node.ensures.parts in
    let size : c.node_size-size.result ≡ tree_size (tree_at c.args.table.now n) =
    c.node_size-size.ensures
    ∙ ap (λ l. node_size l c.node-node.result) (c.as_slice.ensures.value ∙ c.loop-index.invariant)
    ∙ node_is trees n c.node-node.result within below
    ∙ ap tree_size (c.node-node.ensures.tree ∙ ap (tree_at c.args.table.now) c.id.ensures) in
    c.in_ok-push.ensures.items
    ∙ (λ i. c.loop-index.invariant i ++ size i ∷ [])
    ∙ sym (map_more tree_size trees n (Var 0) within)
