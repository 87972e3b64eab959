use Rattle.term_table.specs.Table.{tree_at}
use Rattle.gate_match.proofs.Lacking.{scoped-lacks}
use Rattle.gate_match.proofs.uses.+lacking.Goals as goal

pub lacks-returns-then-is_within-clause-lacks : goal.lacks-returns-then-is_within-clause-lacks
lacks-returns-then-is_within-clause-lacks t c b = scoped-lacks c.args.variable (tree_at c.args.table.now c.args.id) (c.is_within.ensures c.if-is_within.true)
