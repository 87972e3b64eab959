use Rattle.std.proofs.Common.{List, Result, Ok, refl, sym, ap, ◌∙◌, arith}
use Rattle.alpha_turns.specs.declared.turns.Turn.{Turn}
use Rattle.agent_script.specs.declared.fault.ScriptFlaw.{ScriptFlaw}
use Rattle.agent_script.specs.Scripts.{ScriptView, script_view}
use Rattle.agent_script.proofs.Adding.{turn-none, turn-taken, load-views}
use Rattle.agent_script.proofs.reader.add_turn.Goals as goal

pub returns-then-agent-len : goal.returns-then-agent-len
returns-then-agent-len c =
    let script = c.args.script.now in (
      refl,
      turn-none (script_view script) c.args.agent c.args.budget
          (omega (
            arith,
            load-views script.loads.items,
            c.len.ensures,
            script.loads.ok.0,
            c.if-agent-len.true,
          )),
    )

pub overflow_cast-agent : goal.overflow_cast-agent
overflow_cast-agent c = let script = c.args.script.now in
    omega (arith, c.requires, c.len.ensures, script.loads.ok.0, c.if-agent-len.false)

pub returns : goal.returns
returns c =
    let script = c.args.script.now in
    let made : List Turn
    → Result ScriptView ScriptFlaw =
    λ l. Ok (record { loads = (script_view script).loads; turns = l }) in
    turn-taken (script_view script) c.args.agent c.args.budget
    (omega (
      arith,
      load-views script.loads.items,
      c.len.ensures,
      script.loads.ok.0,
      c.if-agent-len.false,
    ))
    ∙ ap made (sym c.in_ok-push.ensures.items)
