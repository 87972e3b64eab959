-- The stages that commands share: a policy by its name, and what is printed.
use Rattle.std.specs.Prelude.{ℕ, ◌==◌, if◌then◌else◌, List, Option, Some, None}
use Rattle.policy_set.specs.Views.{PolicyView}
use Rattle.policy_set.specs.Names.{policy_of}
use Rattle.pcc_lines.specs.Fixed.{unknown_policy_line}
use Rattle.pcc_stages.specs.Exits.{Exit}
use Rattle.pcc_stages.specs.Stage.{Stage, stops, gives}
use Rattle.pcc_stages.specs.Runs.{Effect}

-- the command is refused
abbrev pub refused : List ℕ → Exit
refused text = record { status = 1; text = text }

-- the policy that was found
abbrev pub policy_found : Option PolicyView → Stage PolicyView
policy_found (Some policy) = gives policy
policy_found None = stops (refused unknown_policy_line)

-- the policy of the name
abbrev pub policy_named : List ℕ → Stage PolicyView
policy_named name = policy_found (policy_of name)

-- it prints, and writes nothing
abbrev pub printing : List ℕ → Stage Effect
printing text = gives (record { text = text; change = None })

-- it ends with the exit: it prints the text of one whose status is 0, and stops at any other
abbrev pub ending : Exit → Stage Effect
ending exit = if exit.status == 0 then printing exit.text else stops exit
