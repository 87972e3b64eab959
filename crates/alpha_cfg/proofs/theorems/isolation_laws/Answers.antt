use Rattle.alpha_cfg.proofs.Changing.{changes_writable}
use Rattle.alpha_cfg.proofs.Depending.{depends_on_readable}
use Rattle.alpha_cfg.proofs.Joining.{runs_join}
use Rattle.alpha_cfg.proofs.theorems.isolation_laws.Goals as goal

pub returns : goal.returns
returns c = record { changes = changes_writable; depends = depends_on_readable; joins = runs_join }
