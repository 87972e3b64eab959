use Rattle.std.proofs.Common.{◌-◌, length}
use Rattle.view_goals.proofs.parts.+push_inv_parts.Given as goal

abbrev pub decreases-push_inv_parts : goal.decreases-push_inv_parts
decreases-push_inv_parts l = length l.invs.now - l.from
