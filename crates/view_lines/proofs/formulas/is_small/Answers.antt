use Rattle.std.proofs.Common.{is_some, ◌∙◌, ap}
use Rattle.term_table.specs.Table.{tree_at}
use Rattle.view_lines.proofs.Nodes.{small-is}
use Rattle.view_lines.proofs.formulas.is_small.Goals as goal

pub returns : goal.returns
returns c =
    c.is_some.ensures ∙ ap is_some c.rest_of.ensures.exact
    ∙ small-is 2040 (tree_at c.args.table.now c.args.id)
