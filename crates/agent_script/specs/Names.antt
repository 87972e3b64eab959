-- The names of the kinds of faults, as lines show them.
use Rattle.std.specs.Prelude.{ℕ, List, codes}
use Rattle.agent_script.specs.declared.fault.ScriptFlaw.{ScriptFlaw}
use Rattle.agent_script.specs.declared.fault.ScriptFlaw.TheVariants.{Word, Form, Late, Many, Agent}
use Rattle.agent_script.specs.declared.fault.ScriptFlaw.TheVariants.{Empty}

-- what is wrong with a line, in one name
abbrev pub script_flaw_name : ScriptFlaw → List ℕ
script_flaw_name Word = codes "Word"
script_flaw_name Form = codes "Form"
script_flaw_name Late = codes "Late"
script_flaw_name Many = codes "Many"
script_flaw_name Agent = codes "Agent"
script_flaw_name Empty = codes "Empty"
