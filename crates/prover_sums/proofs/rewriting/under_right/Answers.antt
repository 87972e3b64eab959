use Rattle.prover_sums.proofs.Rewrites.{under_right_is}
use Rattle.prover_sums.proofs.rewriting.under_right.Goals as goal

pub returns-clause-exact : goal.returns-clause-exact
returns-clause-exact c =
    under_right_is c.args.table.now c.oper.new.table c.oper-2.new.table c.args.op c.args.left c.args.above c.args.step c.in_ok-into.into c.in_ok-after.after c.requires.left c.requires.step c.in_ok-into.ensures.extends c.in_ok-after.ensures.extends c.in_ok-into.ensures.id c.in_ok-after.ensures.id
