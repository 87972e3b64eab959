use Rattle.std.proofs.Common.{Result, refl, sym, ap, subst}
use Rattle.agent_script.specs.declared.fault.ScriptFlaw.{ScriptFlaw}
use Rattle.agent_script.specs.Statements.{ScriptLine}
use Rattle.agent_script.specs.Scripts.{script_view, with_statement}
use Rattle.agent_script.specs.Inside.Reading.{IsTaken}
use Rattle.agent_script.proofs.reader.add_line.Goals as goal

pub returns-in-Ok : goal.returns-in-Ok
returns-in-Ok c =
    subst (λ (made : Result ScriptLine ScriptFlaw). IsTaken c.args.number
    (with_statement (script_view c.args.script.now) made)
    (script_view c.add.new.script) c.add.result) (sym c.in-Ok.ensures) c.add.ensures

pub returns-in-Err : goal.returns-in-Err
returns-in-Err c = (refl, ap (with_statement (script_view c.args.script.now)) c.in-Err.ensures)
