use Rattle.std.proofs.Common.{ℕ, List, Vec, Global, subst}
use Rattle.pcc_stages.specs.Stages.Containers.{container_bytes_of}
use Rattle.pcc_stages.specs.Answers.{GivesPure}
use Rattle.pcc_stages.proofs.StageLemmas.{lifted, stops_first, gives_then}
use Rattle.pcc_commands.specs.Stages.Upgrading.{upgraded_in, upgraded_of}
use Rattle.pcc_commands.proofs.stages.upgraded_of.Goals as goal

pub returns-in_err-bytes : goal.returns-in_err-bytes
unfolding upgraded_of
returns-in_err-bytes g c =
    stops_first (λ bytes. upgraded_in bytes) (λ (v : Vec ℕ Global). v.items)
    (λ (v : Vec ℕ Global). v.items) (container_bytes_of c.args.name.now) _ _ _ _
    c.in_err-bytes.field-0.0 c.from_residual.result c.in_err-bytes.ensures
    c.from_residual.ensures.1

pub returns : goal.returns
unfolding upgraded_of
returns g c =
    let bytes = c.in_ok-bytes.bytes.items in
    gives_then (λ bytes. upgraded_in bytes) (λ (v : Vec ℕ Global). v.items)
    (λ (v : Vec ℕ Global). v.items) (container_bytes_of c.args.name.now) _ _ _ _ _ _
    c.in_ok-bytes.bytes c.upgraded_in.result c.in_ok-bytes.ensures
    (lifted (λ (v : Vec ℕ Global). v.items) (upgraded_in bytes) _ _ c.upgraded_in.result
    (subst
    (λ (b : List ℕ). GivesPure (λ (v : Vec ℕ Global). v.items) (upgraded_in b)
    c.upgraded_in.result) c.deref.ensures.value c.upgraded_in.ensures))
