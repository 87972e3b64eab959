-- What the calls that read a line answer.
use Rattle.std.specs.Prelude.{◌≡◌, ℕ, Option, Some, None, Result, Ok, Err}
use Rattle.agent_script.specs.declared.fault.ScriptFlaw.{ScriptFlaw}
use Rattle.agent_script.specs.declared.fault.ScriptFlaw.TheVariants as flaws
use Rattle.agent_script.specs.declared.fault.ScriptFault.{ScriptFault}
use Rattle.agent_script.specs.declared.fault.ScriptFault.TheVariants as faults
use Rattle.agent_script.specs.declared.statement.Statement as code
use Rattle.agent_script.specs.declared.statement.Statement.TheVariants as statements
use Rattle.agent_script.specs.Statements.{ScriptLine, load, turn, load_named}
use Rattle.agent_script.specs.Scripts.{ScriptView}

-- a statement without where its words lie
abbrev pub script_line_view : code.Statement → ScriptLine
script_line_view (statements.Load policy file packets) =
    load (load_named policy.now file.now packets.now)
script_line_view (statements.Turn agent budget) = turn agent budget

-- the statement that operands are, and none where they don't have the form
abbrev pub IsStatement : Result ScriptLine ScriptFlaw → Option code.Statement → Type 0
IsStatement made (Some statement) = made ≡ Ok (script_line_view statement)
IsStatement made None = made ≡ Err flaws.Form

-- the statement, or the flaw
abbrev pub IsStatementRead : Result ScriptLine ScriptFlaw → Result code.Statement ScriptFlaw
    → Type 0
IsStatementRead made (Ok statement) = made ≡ Ok (script_line_view statement)
IsStatementRead made (Err flaw) = made ≡ Err flaw

-- a line of a number is wrong; or memory ran out
abbrev pub IsFaultOf : ℕ → Result ScriptView ScriptFlaw → ScriptFault → Type 0
IsFaultOf number made (faults.At line flaw) = (line ≡ number) × (made ≡ Err flaw)
IsFaultOf number made faults.Memory = Unit {0}

-- the line of a number was taken, or there is a fault
abbrev pub IsTaken : {A : Type 0} → ℕ → Result ScriptView ScriptFlaw → ScriptView
    → Result A ScriptFault → Type 0
IsTaken number made new (Ok taken) = made ≡ Ok new
IsTaken number made new (Err fault) = IsFaultOf number made fault
