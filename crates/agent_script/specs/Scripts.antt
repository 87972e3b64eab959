-- What a script says, or its first fault: the first line that is wrong, and the first test that it
-- fails.
use Rattle.std.specs.Prelude.{◌≡◌, ◌≤◌, ◌<◌, ℕ, suc, nat_le, nat_lt, if◌then◌else◌, List, [], ◌∷◌}
use Rattle.std.specs.Prelude.{◌++◌, length, map, All, Result, Ok, Err, string_bytes}
use Rattle.alpha_turns.specs.declared.turns.Turn.{Turn}
use Rattle.agent_script.specs.declared.script.TheConstants.{MAX_LOADS, MAX_TURN}
use Rattle.agent_script.specs.declared.script.Load.{Load}
use Rattle.agent_script.specs.declared.script.Script.{Script}
use Rattle.agent_script.specs.declared.fault.ScriptFlaw.{ScriptFlaw}
use Rattle.agent_script.specs.declared.fault.ScriptFlaw.TheVariants as flaws
use Rattle.agent_script.specs.declared.fault.ScriptFault.{ScriptFault}
use Rattle.agent_script.specs.declared.fault.ScriptFault.TheVariants as faults
use Rattle.agent_script.specs.Lines.{script_lines, line_words}
use Rattle.agent_script.specs.Statements.{LoadView, ScriptLine, load, turn, statement_of}

-- the agents that are loaded, numbered from 0, and then their turns
pub record ScriptView : Type 0 where
  pub loads : List LoadView
  pub turns : List Turn

-- no line yet
abbrev pub no_lines : ScriptView
no_lines = record { loads = []; turns = [] }

-- with a load more
abbrev pub load_added : ScriptView → LoadView → ScriptView
load_added script one = record script { loads = script.loads ++ one ∷ [] }

-- with a turn more
abbrev pub turn_added : ScriptView → Turn → ScriptView
turn_added script one = record script { turns = script.turns ++ one ∷ [] }

-- a load behind a script, which has no turns yet and may have one more
abbrev pub with_load : ScriptView → LoadView → Result ScriptView ScriptFlaw
with_load script one =
    if nat_lt 0 (length script.turns) then Err flaws.Late else
    if nat_le MAX_LOADS (length script.loads) then Err flaws.Many else
    Ok (load_added script one)

-- a turn behind a script, of an agent that it loads
abbrev pub with_turn : ScriptView → ℕ → ℕ → Result ScriptView ScriptFlaw
with_turn script agent budget =
    if nat_lt agent (length script.loads)
    then Ok (turn_added script (record { agent = agent; budget = budget }))
    else Err flaws.Agent

-- a line behind a script, or the first test that it fails
abbrev pub with_statement : ScriptView → Result ScriptLine ScriptFlaw → Result ScriptView ScriptFlaw
with_statement script (Err flaw) = Err flaw
with_statement script (Ok (load one)) = with_load script one
with_statement script (Ok (turn agent budget)) = with_turn script agent budget

-- a script with loads
abbrev pub with_agents : ScriptView → List LoadView → Result ScriptView (ℕ × ScriptFlaw)
with_agents script [] = Err (0, flaws.Empty)
with_agents script (one ∷ loads) = Ok script

-- what comes of lines behind the one of a number, which is in the script or is wrong
abbrev pub behind_line : ℕ → (ScriptView → Result ScriptView (ℕ × ScriptFlaw))
    → Result ScriptView ScriptFlaw → Result ScriptView (ℕ × ScriptFlaw)
behind_line number rest (Err flaw) = Err (number, flaw)
behind_line number rest (Ok script) = rest script

-- the lines from a number on behind a script
abbrev pub script_from : ℕ → ScriptView → List (List ℕ) → Result ScriptView (ℕ × ScriptFlaw)
script_from number script [] = with_agents script script.loads
script_from number script (line ∷ lines) =
    behind_line number (λ said. script_from (suc number) said lines)
    (with_statement script (statement_of (line_words line)))

-- what a text says as a script, or its first fault and that line's number, from 1 on; 0 where no
-- agent is loaded
unfoldable pub parsed_script : List ℕ → Result ScriptView (ℕ × ScriptFlaw)
parsed_script text = script_from 1 no_lines (script_lines text)

-- ---- a script in memory

-- a load without where its names lie
abbrev pub load_view : Load → LoadView
load_view one =
    record {
      policy = string_bytes one.policy;
      file = string_bytes one.file;
      packets =
          string_bytes one.packets;
    }

-- what it says
abbrev pub script_view : Script → ScriptView
script_view script = record { loads = map load_view script.loads.items; turns = script.turns.items }

-- a script has 1 to 16 agents, and each turn is one of theirs, of 1 to 1,000,000,000 steps
pub record IsScript (script : ScriptView) : Type 0 where
  pub some : 1 ≤ length script.loads
  pub few : length script.loads ≤ MAX_LOADS
  pub agents : All (λ one. one.agent < length script.loads) script.turns
  pub budgets : All (λ one. (1 ≤ one.budget) × (one.budget ≤ MAX_TURN)) script.turns

-- what is said is this fault; want of memory says nothing
abbrev pub IsScriptFault : Result ScriptView (ℕ × ScriptFlaw) → ScriptFault → Type 0
IsScriptFault said (faults.At line flaw) = said ≡ Err (line, flaw)
IsScriptFault said faults.Memory = Unit {0}

-- an answer is what the text says
abbrev pub IsScriptRead : List ℕ → Result Script ScriptFault → Type 0
IsScriptRead text (Ok script) = parsed_script text ≡ Ok (script_view script)
IsScriptRead text (Err fault) = IsScriptFault (parsed_script text) fault
