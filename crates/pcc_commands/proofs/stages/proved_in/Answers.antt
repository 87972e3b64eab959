use Rattle.std.proofs.Common.{◌≡◌, Err, ap, ◌∙◌}
use Rattle.bounds_prover.specs.Proving.{proved_container}
use Rattle.pcc_commands.specs.Stages.Proving.{container_proved, proved_in}
use Rattle.pcc_commands.proofs.stages.proved_in.Goals as goal

pub returns-in-Ok : goal.returns-in-Ok
unfolding proved_in
returns-in-Ok c = ap container_proved c.in-Ok.ensures.exact

pub returns-in-Err-At-Refused : goal.returns-in-Err-At-Refused
unfolding proved_in
returns-in-Err-At-Refused c =
    let made : proved_container c.args.policy.now c.args.bytes.now ≡ Err c.in-Err-At-Refused.field-0-0 = rw c.in-Err-At-Refused.field-0-is at c.in-Err-At-Refused.ensures.exact in
    ap container_proved (made ∙ ap Err c.in-Err-At-Refused.field-0-0-is)

pub returns-in-Err-At-NotEasy : goal.returns-in-Err-At-NotEasy
unfolding proved_in
returns-in-Err-At-NotEasy c =
    let made : proved_container c.args.policy.now c.args.bytes.now ≡ Err c.in-Err-At-NotEasy.field-0-0 = rw c.in-Err-At-NotEasy.field-0-is at c.in-Err-At-NotEasy.ensures.exact in
    ap container_proved (made ∙ ap Err c.in-Err-At-NotEasy.field-0-0-is)

pub returns-in-Err-At-TooBig : goal.returns-in-Err-At-TooBig
unfolding proved_in
returns-in-Err-At-TooBig c =
    let made : proved_container c.args.policy.now c.args.bytes.now ≡ Err c.in-Err-At-TooBig.field-0-0 = rw c.in-Err-At-TooBig.field-0-is at c.in-Err-At-TooBig.ensures.exact in
    ap container_proved (made ∙ ap Err c.in-Err-At-TooBig.field-0-0-is)
