use Rattle.std.proofs.Common.{ℕ, List, Ok, Err, Vec, Global, subst, string_bytes}
use Rattle.pcc_gate.specs.Views.{AcceptedView}
use Rattle.pcc_lines.specs.Agents.{agent_line}
use Rattle.pcc_lines.specs.Fixed.{container_too_long_line}
use Rattle.pcc_stages.specs.Stage.{Stage, reads, gives}
use Rattle.pcc_stages.specs.declared.files.TheConstants.{MAX_FILE}
use Rattle.pcc_stages.specs.Stages.Common.{refused}
use Rattle.pcc_stages.specs.Answers.{GivesPure}
use Rattle.pcc_stages.proofs.StageLemmas.{lifted, stops_first, gives_then}
use Rattle.pcc_commands.specs.Stages.Judging.{accepted_code_in, accepted_code_of}
use Rattle.pcc_commands.specs.Stages.Hosting.{for_agent}
use Rattle.pcc_commands.proofs.AgentLemmas.{told-gives, told-stops}
use Rattle.pcc_commands.proofs.commands.host.agent_code.Goals as goal

-- the bytes of the agent's container
abbrev bytes_stage : ℕ → List ℕ → Stage (List ℕ)
bytes_stage a name = reads name MAX_FILE (refused (agent_line a container_too_long_line)) gives

pub returns-in_err-bytes-clause-code : goal.returns-in_err-bytes-clause-code
unfolding accepted_code_of
returns-in_err-bytes-clause-code g c =
    stops_first (λ b. for_agent c.args.agent (accepted_code_in c.args.policy.now b)) (λ (v : Vec ℕ Global). v.items) (λ (a : AcceptedView). a.code) (bytes_stage c.args.agent (string_bytes c.args.name)) _ _ _ _
    c.in_err-bytes.field-0.0 c.from_residual.result c.in_err-bytes.ensures c.from_residual.ensures.1

pub returns-in-Ok-clause-code : goal.returns-in-Ok-clause-code
unfolding accepted_code_of
returns-in-Ok-clause-code g c =
    let bytes = c.in_ok-bytes.bytes in
    let accepted = c.in-Ok.accepted in
    let stage = accepted_code_in c.args.policy.now bytes.items in
    gives_then (λ b. for_agent c.args.agent (accepted_code_in c.args.policy.now b)) (λ (v : Vec ℕ Global). v.items) (λ (a : AcceptedView). a.code) (bytes_stage c.args.agent (string_bytes c.args.name)) _ _ _ _ _ _ bytes (Ok accepted)
    c.in_ok-bytes.ensures
    (lifted (λ (a : AcceptedView). a.code) (for_agent c.args.agent stage) _ _ (Ok accepted) (told-gives c.args.agent stage accepted.code
    (subst (λ (b : List ℕ). GivesPure (λ (a : AcceptedView). a.code) (accepted_code_in c.args.policy.now b) (Ok accepted)) c.deref.ensures.value c.in-Ok.ensures.code)))

pub returns-clause-code : goal.returns-clause-code
unfolding accepted_code_of
returns-clause-code g c =
    let bytes = c.in_ok-bytes.bytes in
    let stop = c.in-Err.stop in
    let told = c.told_of.result in
    let stage = accepted_code_in c.args.policy.now bytes.items in
    gives_then (λ b. for_agent c.args.agent (accepted_code_in c.args.policy.now b)) (λ (v : Vec ℕ Global). v.items) (λ (a : AcceptedView). a.code) (bytes_stage c.args.agent (string_bytes c.args.name)) _ _ _ _ _ _ bytes (Err told)
    c.in_ok-bytes.ensures
    (lifted (λ (a : AcceptedView). a.code) (for_agent c.args.agent stage) _ _ (Err told) (told-stops c.args.agent stage stop told
    (subst (λ (b : List ℕ). GivesPure (λ (a : AcceptedView). a.code) (accepted_code_in c.args.policy.now b) (Err stop)) c.deref.ensures.value c.in-Err.ensures.code) c.told_of.ensures))
