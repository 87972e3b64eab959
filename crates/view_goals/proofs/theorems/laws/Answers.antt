use Rattle.view_goals.proofs.Asked.{asked-within, entry-is, inv-is}
use Rattle.view_goals.proofs.theorems.laws.Goals as goal

pub returns : goal.returns
returns c = record { conditions = asked-within; entry = entry-is; invs = inv-is }
