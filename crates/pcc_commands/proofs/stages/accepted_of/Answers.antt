use Rattle.std.proofs.Common.{ℕ, List, Vec, Global, subst}
use Rattle.pcc_gate.specs.Views.{AcceptedView}
use Rattle.pcc_stages.specs.Stages.Containers.{container_bytes_of}
use Rattle.pcc_stages.specs.Answers.{GivesPure}
use Rattle.pcc_stages.proofs.StageLemmas.{lifted, stops_first, gives_then}
use Rattle.pcc_commands.specs.Stages.Judging.{accepted_in, accepted_of, accepted_code_in, accepted_code_of}
use Rattle.pcc_commands.proofs.stages.accepted_of.Goals as goal

pub returns-in_err-bytes-clause-exact : goal.returns-in_err-bytes-clause-exact
unfolding accepted_of
returns-in_err-bytes-clause-exact g c =
    stops_first (accepted_in c.args.policy.now) (λ (v : Vec ℕ Global). v.items) (λ (a : AcceptedView). tt) (container_bytes_of c.args.name.now) _ _ _ _ c.in_err-bytes.field-0.0 c.from_residual.result
    c.in_err-bytes.ensures c.from_residual.ensures.1

pub returns-in_err-bytes-clause-code : goal.returns-in_err-bytes-clause-code
unfolding accepted_code_of
returns-in_err-bytes-clause-code g c =
    stops_first (accepted_code_in c.args.policy.now) (λ (v : Vec ℕ Global). v.items) (λ (a : AcceptedView). a.code) (container_bytes_of c.args.name.now) _ _ _ _ c.in_err-bytes.field-0.0 c.from_residual.result
    c.in_err-bytes.ensures c.from_residual.ensures.1

pub returns-clause-exact : goal.returns-clause-exact
unfolding accepted_of
returns-clause-exact g c =
    let bytes = c.in_ok-bytes.bytes.items in
    gives_then (accepted_in c.args.policy.now) (λ (v : Vec ℕ Global). v.items) (λ (a : AcceptedView). tt) (container_bytes_of c.args.name.now) _ _ _ _ _ _ c.in_ok-bytes.bytes c.accepted_in.result c.in_ok-bytes.ensures
    (lifted (λ (a : AcceptedView). tt) (accepted_in c.args.policy.now bytes) _ _ c.accepted_in.result
    (subst (λ (b : List ℕ). GivesPure (λ (a : AcceptedView). tt) (accepted_in c.args.policy.now b) c.accepted_in.result) c.deref.ensures.value c.accepted_in.ensures.exact))

pub returns-clause-code : goal.returns-clause-code
unfolding accepted_code_of
returns-clause-code g c =
    let bytes = c.in_ok-bytes.bytes.items in
    gives_then (accepted_code_in c.args.policy.now) (λ (v : Vec ℕ Global). v.items) (λ (a : AcceptedView). a.code) (container_bytes_of c.args.name.now) _ _ _ _ _ _ c.in_ok-bytes.bytes c.accepted_in.result c.in_ok-bytes.ensures
    (lifted (λ (a : AcceptedView). a.code) (accepted_code_in c.args.policy.now bytes) _ _ c.accepted_in.result
    (subst (λ (b : List ℕ). GivesPure (λ (a : AcceptedView). a.code) (accepted_code_in c.args.policy.now b) c.accepted_in.result) c.deref.ensures.value c.accepted_in.ensures.code))
