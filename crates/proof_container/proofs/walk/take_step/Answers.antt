use Rattle.std.proofs.Common.{◌++◌, ◌∷◌, [], subst}
use Rattle.std.proofs.lemmas.Result.{on_ok_weaker}
use Rattle.proof_container.specs.Inside.Walked.{IsUnderWay}
use Rattle.proof_container.proofs.Walking.{cost_off}
use Rattle.proof_container.proofs.walk.take_step.Goals as goal

pub returns-in-Leave-clause-goes : goal.returns-in-Leave-clause-goes
returns-in-Leave-clause-goes c =
    on_ok_weaker c.leave.result
    (λ h goal u. h goal c.args.steps.now.items (subst (λ s. IsUnderWay c.args.table.now goal c.args.walk.now (c.args.steps.now.items ++ s ∷ [])) c.in-Leave.is u))
    c.leave.ensures

pub returns-in-Leave-clause-falls : goal.returns-in-Leave-clause-falls
returns-in-Leave-clause-falls c =
    on_ok_weaker c.leave.result (λ h. cost_off c.args.table.now c.args.steps.now.items c.args.step) c.leave.ensures
