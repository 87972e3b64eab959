use Rattle.std.proofs.Common.{◌≡◌, ◌++◌, ◌∷◌, [], ◌∙◌, ap}
use Rattle.term_table.specs.Table.{tree_at, node_tree}
use Rattle.proof_container.specs.Postorder.{is_emitted}
use Rattle.view_lines.proofs.Copying.{added-new}
use Rattle.view_lines.proofs.copies.copy_tree.Goals as goal

pub returns : goal.returns
returns c =
    let copy = c.args.copy.now in
    let tree = node_tree copy c.copied_node-node.result in
    let same : tree ≡ tree_at c.args.table.now c.args.id =
    c.copied_node-node.ensures.tree ∙ c.node.ensures.tree in
    added-new copy c.intern.new.self tree c.in_ok-intern.field-0
    (ap (λ t. is_emitted t copy.trees) same ∙ c.requires.new)
    c.in_ok-intern.ensures.adds c.in_ok-intern.ensures.id.1
    ∙ ap (λ t. copy.trees ++ t ∷ []) same
