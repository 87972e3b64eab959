use Rattle.gate_upgrade.proofs.Profiles.{encodes-later, decoded-later, code-later}
use Rattle.gate_upgrade.proofs.theorems.profile_laws.Goals as goal

pub returns : goal.returns
returns c = record { words = encodes-later; reads = decoded-later; code = code-later }
