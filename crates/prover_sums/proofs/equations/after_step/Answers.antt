use Rattle.prover_sums.proofs.Rounds.{after_step_is}
use Rattle.prover_sums.proofs.equations.after_step.Goals as goal

pub returns-clause-exact : goal.returns-clause-exact
returns-clause-exact c =
    after_step_is c.args.table.now c.relation.new.table c.moved.new.table c.args.above c.args.step c.args.here c.in_ok-form.form c.in_ok-proof.proof c.requires.step c.requires.here c.in_ok-form.ensures.extends c.in_ok-proof.ensures.extends
    c.in_ok-form.ensures.id c.in_ok-proof.ensures.is
