use Rattle.std.proofs.Common.{◌≡◌, ◌+◌, List, [], ◌∷◌, ◌++◌, map, Result, Ok}
use Rattle.std.proofs.Common.{refl, sym, ap, ◌∙◌, arith}
use Rattle.std.proofs.lemmas.Bool.{eqb-true, eqb-false}
use Rattle.agent_script.specs.declared.script.Load.{Load}
use Rattle.agent_script.specs.declared.fault.ScriptFlaw.{ScriptFlaw}
use Rattle.agent_script.specs.Statements.{LoadView, load_named}
use Rattle.agent_script.specs.Scripts.{ScriptView, load_view, script_view}
use Rattle.agent_script.proofs.Adding.{load-late, load-many, load-taken, load-views, loads-more}
use Rattle.agent_script.proofs.Adding.{named-same}
use Rattle.agent_script.proofs.reader.add_load.Goals as goal

pub returns-then-not-is_empty : goal.returns-then-not-is_empty
returns-then-not-is_empty c =
    let script = c.args.script.now in
    let view : LoadView = load_named c.args.policy.now c.args.file.now c.args.packets.now in
    let some = eqb-false script.turns.len 0 (sym c.if-not-is_empty.ensures) in
    (refl, load-late (script_view script) view (omega (arith, some, script.turns.ok.0)))

pub returns-then-len-ge-MAX_LOADS : goal.returns-then-len-ge-MAX_LOADS
returns-then-len-ge-MAX_LOADS c =
    let script = c.args.script.now in
    let view : LoadView = load_named c.args.policy.now c.args.file.now c.args.packets.now in
    let none = eqb-true script.turns.len 0 (sym c.if-not-is_empty.ensures) in (
      refl,
      load-many (script_view script) view (omega (arith, none, script.turns.ok.0))
          (omega (
            arith,
            load-views script.loads.items,
            c.len.ensures,
            script.loads.ok.0,
            c.if-len-ge-MAX_LOADS.true,
          )),
    )

pub returns : goal.returns
returns c =
    let script = c.args.script.now in
    let view : LoadView = load_named c.args.policy.now c.args.file.now c.args.packets.now in
    let none = eqb-true script.turns.len 0 (sym c.if-not-is_empty.ensures) in
    let one : Load =
    record {
      policy = c.in_ok-policy.policy;
      file = c.in_ok-file.file;
      packets =
          c.in_ok-packets.packets;
    } in
    let viewed : load_view one ≡ view =
    named-same _ _ _ _ _ _ c.in_ok-policy.ensures.ok c.in_ok-file.ensures.ok
    c.in_ok-packets.ensures.ok in
    let more : map load_view script.loads.items ++ view ∷ [] ≡ map load_view c.push.new.self.items =
    loads-more script.loads.items c.push.new.self.items one view c.in_ok-push.ensures.items viewed
    in
    let made : List LoadView
    → Result ScriptView ScriptFlaw =
    λ l. Ok (record { loads = l; turns = script.turns.items }) in
    load-taken (script_view script) view (omega (arith, none, script.turns.ok.0))
    (omega (
      arith,
      load-views script.loads.items,
      c.len.ensures,
      script.loads.ok.0,
      c.if-len-ge-MAX_LOADS.false,
    ))
    ∙ ap made more
