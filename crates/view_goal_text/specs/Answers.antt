-- What `list_goals` answers.
use Rattle.std.specs.Prelude.{◌≡◌, ℕ, List, Result, Ok, Err, Vec}
use Rattle.std.specs.Global.{Global}
use Rattle.policy_set.specs.Views.{PolicyView}
use Rattle.view_goal_text.specs.declared.fault.GoalsFault.{GoalsFault}
use Rattle.view_goal_text.specs.declared.fault.GoalsFault.TheVariants.{Refused, Memory, Results}
use Rattle.view_goal_text.specs.Listing.{goals_of_bytes}
use Rattle.view_goal_text.specs.Styles.{StyleView}

-- The answer is the listing of the bytes' goals, or the refusal in its place; where memory or the
-- results that may be kept ran out, it says nothing.
abbrev pub IsGoalsAnswer : StyleView → PolicyView → List ℕ → Result (Vec ℕ Global) GoalsFault → Type 0
IsGoalsAnswer s policy bytes (Ok out) = goals_of_bytes s policy bytes ≡ Ok out.items
IsGoalsAnswer s policy bytes (Err (Refused r)) = goals_of_bytes s policy bytes ≡ Err r
IsGoalsAnswer s policy bytes (Err Memory) = Unit {0}
IsGoalsAnswer s policy bytes (Err Results) = Unit {0}
