use Rattle.view_goal_text.proofs.PartLists.{first-named}
use Rattle.view_goal_text.proofs.theorems.laws.Goals as goal

pub returns : goal.returns
returns c = record {
  first = first-named c.laws.ensures.entry c.laws.ensures.invs c.mark_laws.ensures.first;
}
