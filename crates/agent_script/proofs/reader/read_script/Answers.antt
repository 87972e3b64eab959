use Rattle.std.proofs.Common.{◌+◌, refl, sym, ◌∙◌, subst, arith}
use Rattle.std.proofs.lemmas.Bool.{eqb-true, eqb-false}
use Rattle.agent_script.specs.Lines.{script_lines}
use Rattle.agent_script.specs.Scripts.{script_view, parsed_script}
use Rattle.agent_script.proofs.Cuts.{no_lines_in}
use Rattle.agent_script.proofs.Adding.{IsSound, sound-none, sound-line, sound-script, lines-begin}
use Rattle.agent_script.proofs.Adding.{lines-turn, lines-stop, ends-empty, ends-well, load-views}
use Rattle.agent_script.proofs.reader.read_script.Goals as goal

pub lines-init : goal.lines-init
lines-init c = record {
  sound = subst IsSound (sym c.no_lines-script.ensures) sound-none;
  near = omega arith;
  taken = lines-begin c.args.text.now 0 (script_view c.no_lines-script.result) refl
      c.no_lines-script.ensures;
}

pub add_line-requires : goal.add_line-requires
add_line-requires c =
    omega (arith, c.lines.invariant.sound.few, load-views c.lines.script.loads.items)

pub returns-in-Err-clause-exact : goal.returns-in-Err-clause-exact
returns-in-Err-clause-exact c =
    lines-stop c.lines.number c.split_line.result.0.now (script_lines c.lines.rest.now)
    (script_lines c.split_line.result.1.now) (script_view c.lines.script)
    (script_view c.add_line.new.script) c.split_line.ensures.line (parsed_script c.args.text.now)
    c.in-Err.fault c.in-Err.ensures c.lines.invariant.taken

pub lines-preserved : goal.lines-preserved
lines-preserved c = record {
  sound = sound-line (script_view c.lines.script) c.lines.invariant.sound c.split_line.result.0.now
      (script_view c.add_line.new.script) c.in-Ok.ensures;
  near = omega (arith, c.lines.invariant.near, c.split_line.ensures.shorter);
  taken = lines-turn c.lines.number c.split_line.result.0.now (script_lines c.lines.rest.now)
      (script_lines c.split_line.result.1.now) (script_view c.lines.script)
      (script_view c.add_line.new.script) c.split_line.ensures.line (parsed_script c.args.text.now)
      c.in-Ok.ensures c.lines.invariant.taken;
}

pub returns-then-is_empty-clause-exact : goal.returns-then-is_empty-clause-exact
returns-then-is_empty-clause-exact c =
    let script = c.lines.script in
    let none = eqb-true script.loads.len 0 (sym c.is_empty-2.ensures ∙ c.if-is_empty.true) in
    ends-empty (c.lines.number + 1) (script_lines c.lines.rest.now) (script_view script)
    (parsed_script c.args.text.now)
    (no_lines_in c.lines.rest.now (sym c.lines-test.ensures)) c.lines.invariant.taken
    (omega (arith, none, script.loads.ok.0, load-views script.loads.items))

pub returns-clause-exact : goal.returns-clause-exact
returns-clause-exact c =
    let script = c.lines.script in
    let some = eqb-false script.loads.len 0 (sym c.is_empty-2.ensures ∙ c.if-is_empty.false) in
    ends-well (c.lines.number + 1) (script_lines c.lines.rest.now) (script_view script)
    (parsed_script c.args.text.now)
    (no_lines_in c.lines.rest.now (sym c.lines-test.ensures)) c.lines.invariant.taken
    (omega (arith, some, script.loads.ok.0, load-views script.loads.items))

pub returns-clause-script : goal.returns-clause-script
returns-clause-script c =
    let script = c.lines.script in
    let some = eqb-false script.loads.len 0 (sym c.is_empty-2.ensures ∙ c.if-is_empty.false) in
    sound-script (script_view script) c.lines.invariant.sound
    (omega (arith, some, script.loads.ok.0, load-views script.loads.items))
