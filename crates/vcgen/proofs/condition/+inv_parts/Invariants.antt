use Rattle.std.proofs.Common.{◌-◌, length}
use Rattle.vcgen.proofs.condition.+inv_parts.Given as goal

abbrev pub decreases-inv_parts : goal.decreases-inv_parts
decreases-inv_parts l = length l.program.now.invs.now - l.from
