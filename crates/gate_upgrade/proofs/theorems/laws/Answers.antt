use Rattle.gate_upgrade.proofs.Exactly.{upgraded-exactly}
use Rattle.gate_upgrade.proofs.Acceptance.{upgraded-accepted}
use Rattle.gate_upgrade.proofs.UpgradeFlaws.{upgrade-refused}
use Rattle.gate_upgrade.proofs.theorems.laws.Goals as goal

pub returns : goal.returns
returns c = record {
  exactly = upgraded-exactly c.laws.ensures.decided;
  refused = upgrade-refused c.laws.ensures.decided c.laws.ensures.faulty c.laws.ensures.nothing c.laws.ensures.one_content;
  accepted =
      upgraded-accepted c.profile_laws.ensures.code c.longer_laws.ensures.checks
      c.longer_laws.ensures.weighs c.laws.ensures.one_content;
}
