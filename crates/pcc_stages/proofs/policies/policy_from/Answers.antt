use Rattle.std.proofs.Common.{ℕ, List, Vec, Global, subst}
use Rattle.policy_set.specs.Views.{PolicyView}
use Rattle.pcc_stages.specs.Stages.Policies.{policy_bytes_of, policy_in, policy_from}
use Rattle.pcc_stages.specs.Answers.{GivesPure}
use Rattle.pcc_stages.proofs.StageLemmas.{lifted, stops_first, gives_then}
use Rattle.pcc_stages.proofs.policies.policy_from.Goals as goal

pub returns-in_err-bytes : goal.returns-in_err-bytes
unfolding policy_from
returns-in_err-bytes g c =
    stops_first (λ bytes. policy_in bytes) (λ (v : Vec ℕ Global). v.items)
    (λ (policy : PolicyView). policy) (policy_bytes_of c.args.name.now) _ _ _ _
    c.in_err-bytes.field-0.0 c.from_residual.result c.in_err-bytes.ensures.exact
    c.from_residual.ensures.1

pub returns : goal.returns
unfolding policy_from
returns g c =
    let bytes = c.in_ok-bytes.bytes.items in
    gives_then (λ bytes. policy_in bytes) (λ (v : Vec ℕ Global). v.items)
    (λ (policy : PolicyView). policy) (policy_bytes_of c.args.name.now) _ _ _ _ _ _
    c.in_ok-bytes.bytes c.policy_in.result c.in_ok-bytes.ensures.exact
    (lifted (λ (policy : PolicyView). policy) (policy_in bytes) _ _ c.policy_in.result
    (subst
    (λ (b : List ℕ). GivesPure (λ (policy : PolicyView). policy) (policy_in b) c.policy_in.result)
    c.deref.ensures.value c.policy_in.ensures))
