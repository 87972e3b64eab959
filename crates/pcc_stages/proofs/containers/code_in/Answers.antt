use Rattle.std.proofs.Common.{◌≡◌, Err}
use Rattle.alpha_cfg.specs.CodeDecoding.{decoded_code}
use Rattle.proof_container.specs.Versions.{profile_of}
use Rattle.pcc_stages.specs.Stages.Containers.{code_found, code_in, container_in}
use Rattle.pcc_stages.proofs.StageLemmas.{pure_stops}
use Rattle.pcc_stages.proofs.ReadingLemmas.{code-read}
use Rattle.pcc_stages.proofs.containers.code_in.Goals as goal

pub returns-in-Err : goal.returns-in-Err
unfolding code_in
returns-in-Err c =
    pure_stops
    (λ container. code_found (decoded_code (profile_of container.version) container.code))
    (container_in c.args.policy.now c.args.bytes.now) c.in-Err.stop c.in-Err.ensures.exact

pub returns-in-Ok-of : goal.returns-in-Ok-of
returns-in-Ok-of c =
    code-read c.args.policy.now c.args.bytes.now _ c.profile_of-profile.result _
    c.in-Ok.ensures.exact c.profile_of-profile.ensures.exact c.in-Ok-of.ensures.exact

pub returns-in-Err-At : goal.returns-in-Err-At
returns-in-Err-At c =
    let profile = c.profile_of-profile.result in
    let read : Err c.in-Err-At.flaw ≡ decoded_code profile c.in-Ok.container.code.now =
    rw c.in-Err-At.field-0-is at c.in-Err-At.ensures.exact in
    code-read c.args.policy.now c.args.bytes.now _ profile _ c.in-Ok.ensures.exact
    c.profile_of-profile.ensures.exact read
