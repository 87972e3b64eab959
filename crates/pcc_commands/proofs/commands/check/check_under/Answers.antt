use Rattle.std.proofs.Common.{Ok, Err, refl}
use Rattle.pcc_gate.specs.Views.{AcceptedView}
use Rattle.pcc_lines.specs.Fixed.{accepted_line}
use Rattle.pcc_stages.specs.Stages.Common.{printing}
use Rattle.pcc_stages.proofs.StageLemmas.{lifted, stops_first, gives_then}
use Rattle.pcc_commands.specs.Stages.Judging.{accepted_of}
use Rattle.pcc_commands.specs.Reports.{effect_of}
use Rattle.pcc_commands.specs.declared.report.Report.TheVariants.{Accepted}
use Rattle.pcc_commands.proofs.commands.check.check_under.Goals as goal

pub returns-in-Err : goal.returns-in-Err
returns-in-Err g c =
    stops_first (λ accepted. printing accepted_line) (λ (a : AcceptedView). tt) effect_of (accepted_of c.args.policy.now c.args.name.now) _ _ _ _ c.in-Err.stop (Err c.in-Err.stop)
    c.in-Err.ensures.exact refl

pub returns-in-Ok : goal.returns-in-Ok
returns-in-Ok g c =
    gives_then (λ accepted. printing accepted_line) (λ (a : AcceptedView). tt) effect_of (accepted_of c.args.policy.now c.args.name.now) _ _ _ _ _ _ c.in-Ok.accepted (Ok Accepted) c.in-Ok.ensures.exact
    (lifted effect_of (printing accepted_line) _ _ (Ok Accepted) refl)
