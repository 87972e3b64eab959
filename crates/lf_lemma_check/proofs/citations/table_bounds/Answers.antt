use Rattle.std.proofs.Common.{◌≡◌, ◌<◌, [], ◌∷◌, ◌++◌, length, map, take, get_or, sym, ◌∙◌, ap, subst, arith}
use Rattle.std.proofs.lemmas.List.{take_more, map-append}
use Rattle.term_table.specs.Tree.{Var}
use Rattle.term_table.specs.Table.{tree_at, PartsBelow}
use Rattle.lf_lemma_check.specs.Inside.Bounds.{cited, node_cited}
use Rattle.lf_lemma_check.proofs.Citing.{node_is}
use Rattle.lf_lemma_check.proofs.citations.table_bounds.Goals as goal

pub loop-index-preserved : goal.loop-index-preserved
loop-index-preserved c =
    let trees = c.args.table.now.trees in
    let n = c.loop-index.index in
    let test = c.loop-index-test.true in
    let within : n < length trees = omega (arith, c.count-index-end.ensures, test) in
    let below : PartsBelow n c.node-node.result =
    subst (λ k. PartsBelow k c.node-node.result) c.id.ensures c.node-node.ensures.parts in
    let bound : c.node_bound-bound.result ≡ cited (tree_at c.args.table.now n) =
    c.node_bound-bound.ensures
    ∙ ap (λ l. node_cited l c.node-node.result) (c.as_slice.ensures.value ∙ c.loop-index.invariant)
    ∙ node_is trees n c.node-node.result below
    ∙ ap cited (c.node-node.ensures.tree ∙ ap (tree_at c.args.table.now) c.id.ensures) in
    c.in_ok-push.ensures.items
    ∙ (λ i. c.loop-index.invariant i ++ bound i ∷ [])
    ∙ sym (map-append cited (take n trees) (get_or trees n (Var 0) ∷ []))
    ∙ ap (map cited) (sym (take_more trees n (Var 0) within))
