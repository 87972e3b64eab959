use Rattle.std.proofs.Common.{ℕ, List, Vec, Global, subst}
use Rattle.pcc_stages.specs.Stages.Containers.{container_bytes_of}
use Rattle.pcc_stages.specs.Answers.{GivesPure}
use Rattle.pcc_stages.proofs.StageLemmas.{lifted, stops_first, gives_then}
use Rattle.pcc_commands.specs.Stages.Proving.{proved_in, proved_of}
use Rattle.pcc_commands.proofs.stages.proved_of.Goals as goal

pub returns-in_err-bytes : goal.returns-in_err-bytes
unfolding proved_of
returns-in_err-bytes g c =
    stops_first (proved_in c.args.policy.now) (λ (v : Vec ℕ Global). v.items) (λ (v : Vec ℕ Global). v.items) (container_bytes_of c.args.name.now) _ _ _ _ c.in_err-bytes.field-0.0 c.from_residual.result
    c.in_err-bytes.ensures c.from_residual.ensures.1

pub returns : goal.returns
unfolding proved_of
returns g c =
    let bytes = c.in_ok-bytes.bytes.items in
    gives_then (proved_in c.args.policy.now) (λ (v : Vec ℕ Global). v.items) (λ (v : Vec ℕ Global). v.items) (container_bytes_of c.args.name.now) _ _ _ _ _ _ c.in_ok-bytes.bytes c.proved_in.result c.in_ok-bytes.ensures
    (lifted (λ (v : Vec ℕ Global). v.items) (proved_in c.args.policy.now bytes) _ _ c.proved_in.result
    (subst (λ (b : List ℕ). GivesPure (λ (v : Vec ℕ Global). v.items) (proved_in c.args.policy.now b) c.proved_in.result) c.deref.ensures.value c.proved_in.ensures))
