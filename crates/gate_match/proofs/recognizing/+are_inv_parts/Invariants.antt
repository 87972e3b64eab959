use Rattle.std.proofs.Common.{◌-◌, length}
use Rattle.gate_match.proofs.recognizing.+are_inv_parts.Given as goal

abbrev pub decreases-are_inv_parts : goal.decreases-are_inv_parts
decreases-are_inv_parts l = length l.program.now.invs.now - l.from
