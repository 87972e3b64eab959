use Rattle.std.proofs.Common.{None, sym}
use Rattle.term_table.specs.Table.{tree_at}
use Rattle.gate_match.proofs.Sides.{closed-by}
use Rattle.gate_match.proofs.goals.closed_sides.Goals as goal

pub returns-in-None : goal.returns-in-None
returns-in-None c = closed-by c.args.bound c.args.table.now (tree_at c.args.table.now c.args.id) None c.machine_sides.result (sym c.in-None.is) c.machine_sides.ensures

pub returns-in-Some : goal.returns-in-Some
returns-in-Some c = closed-by c.args.bound c.args.table.now (tree_at c.args.table.now c.args.id) _ c.counted_sides.result (sym c.in-Some.is) c.counted_sides.ensures
