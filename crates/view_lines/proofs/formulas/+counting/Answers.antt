use Rattle.std.proofs.Common.{◌∙◌, ap, arith}
use Rattle.view_lines.specs.Inside.Nodes.{rest_after_tree}
use Rattle.view_lines.proofs.Nodes.{node-rest}
use Rattle.view_lines.proofs.formulas.+counting.Goals as goal

pub rest_of-returns-clause-exact : goal.rest_of-returns-clause-exact
rest_of-returns-clause-exact t c =
    c.rest_of_node.ensures.exact
    ∙ node-rest c.args.table.now c.args.budget c.node-node.result (omega arith)
    ∙ ap (rest_after_tree c.args.budget) c.node-node.ensures.tree
