use Rattle.policy_set.specs.Views.{PolicyView}
use Rattle.pcc_stages.specs.Stages.Common.{policy_named}
use Rattle.pcc_stages.proofs.StageLemmas.{lifted}
use Rattle.pcc_stages.proofs.policies.policy_told.Goals as goal

pub returns-in-Named : goal.returns-in-Named
returns-in-Named g c =
    rw c.in-Named.is
    (lifted (λ (policy : PolicyView). policy) (policy_named c.in-Named.name.now)
    (g.F.Files.log c.args.files.now) (g.F.Files.state c.args.files.now) c.policy_named.result
    c.policy_named.ensures)
