use Rattle.prover_sums.proofs.Rounds.{three_after_is}
use Rattle.prover_sums.proofs.equations.after_steps.Goals as goal

pub returns-in_ok-two-in-Three-clause-exact : goal.returns-in_ok-two-in-Three-clause-exact
returns-in_ok-two-in-Three-clause-exact c =
    three_after_is c.args.table.now c.after_step-in-Three.new.table c.after_step-in-Three-2.new.table c.after_step-in-Three-3.new.table c.args.above c.args.steps c.in-Three.first c.in-Three.second c.in-Three.third c.args.here
    c.in_ok-one-in-Three.one c.in_ok-two-in-Three.two c.after_step-in-Three-3.result c.in-Three.is c.requires.above c.requires.steps c.in_ok-one-in-Three.ensures.extends c.in_ok-two-in-Three.ensures.extends c.in_ok-one-in-Three.ensures.exact
    c.in_ok-two-in-Three.ensures.exact c.after_step-in-Three-3.ensures.exact
