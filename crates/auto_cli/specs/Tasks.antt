-- What the arguments of pcc_auto ask for, with what the search comes to as a parameter.
use Rattle.std.specs.Prelude.{ℕ, true, List, [], ◌∷◌, ◌++◌, length, Option, Some, None, Result, Ok, Err}
use Rattle.policy_set.specs.Views.{PolicyView}
use Rattle.pcc_gate.specs.declared.refusal.Refusal.{Refusal}
use Rattle.pcc_lines.specs.Refusals.{refusal_line}
use Rattle.pcc_stages.specs.Exits.{Exit}
use Rattle.pcc_stages.specs.Requests.{Request, Standing, no_command, command, usage_exit}
use Rattle.pcc_stages.specs.Runs.{Effect, Task, request_of_task}
use Rattle.pcc_stages.specs.Stage.{Stage, stops, gives, ◌>>=◌}
use Rattle.pcc_stages.specs.Stages.Common.{refused, printing}
use Rattle.pcc_stages.specs.Told.{word_files, standing_of_word}
use Rattle.view_goal_text.specs.Listing.{goals_of_bytes}
use Rattle.view_goal_text.specs.Styles.{StyleView}
use Rattle.auto_search.specs.Outcomes.{OutcomeView, found, unfound}
use Rattle.auto_cli.specs.Arguments.{AutoArgs, AutoInvocation, find, help, version, auto_command_of}
use Rattle.auto_cli.specs.Drafts.{DraftView, draft_of}
use Rattle.auto_cli.specs.Texts.{auto_texts, auto_help_text, auto_version_text, found_line}

-- the goals that aren't easy, with all that is missing, without the lines of a source
abbrev pub left_style : StyleView
left_style = record { lines = []; only_missing = true; all = true }

-- the goals, or the line of the check that keeps a container from having any
abbrev pub left_exit : Result (List ℕ) Refusal → Exit
left_exit (Ok text) = refused text
left_exit (Err r) = refused (refusal_line r)

-- the goals that are left of what is kept, as `pcc_view goals POLICY FILE --only-missing --all`
-- prints them
unfoldable pub left_goals : PolicyView → List ℕ → Exit
left_goals policy kept = left_exit (goals_of_bytes left_style policy kept)

-- what is found is written; else the goals that are left are printed
unfoldable pub settled : List ℕ → PolicyView → OutcomeView → Stage Effect
settled output policy (found out invariants) =
    gives (record { text = found_line (length out) invariants; change = Some (output, out) })
settled output policy (unfound kept) = stops (left_goals policy kept)

-- the same behind a draft
abbrev pub settled_draft : List ℕ → OutcomeView → DraftView → Stage Effect
settled_draft output outcome draft = settled output draft.policy outcome

-- the policy, IN, and then what the search comes to
unfoldable pub find_command : AutoArgs → OutcomeView → Stage Effect
find_command args outcome = draft_of args >>= settled_draft args.output outcome

-- what the arguments come to, if they are a command
abbrev pub auto_stage : Option AutoInvocation → OutcomeView → Stage Effect
auto_stage None outcome = stops (usage_exit auto_texts)
auto_stage (Some (find args)) outcome = find_command args outcome
auto_stage (Some help) outcome = printing auto_help_text
auto_stage (Some version) outcome = printing auto_version_text

-- what the arguments are
abbrev pub auto_standing : Option AutoInvocation → Standing
auto_standing None = no_command
auto_standing (Some (find args)) = standing_of_word args.policy
auto_standing (Some help) = command
auto_standing (Some version) = command

-- the files that are read
abbrev pub auto_files : Option AutoInvocation → List (List ℕ)
auto_files (Some (find args)) = word_files args.policy ++ args.input ∷ []
auto_files other = []

-- what arguments ask for where the search comes to this
abbrev pub auto_task : OutcomeView → List (List ℕ) → Task
auto_task outcome args =
    let asked = auto_command_of args in
    record {
      standing = auto_standing asked;
      names = Some (auto_files asked);
      stage = auto_stage asked outcome;
    }

-- the request that this is, over files that are known
abbrev pub auto_request : OutcomeView → List (List ℕ) → Request
auto_request outcome args = request_of_task auto_texts (auto_task outcome args)
