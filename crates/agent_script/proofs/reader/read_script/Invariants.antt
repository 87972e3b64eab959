use Rattle.std.proofs.Common.{◌≡◌, ◌+◌, ◌≤◌, length}
use Rattle.agent_script.specs.Lines.{script_lines}
use Rattle.agent_script.specs.Scripts.{script_from, script_view, parsed_script}
use Rattle.agent_script.proofs.Adding.{IsSound}
use Rattle.agent_script.proofs.reader.read_script.Given as goal

abbrev pub invariant-lines : goal.invariant-lines
invariant-lines l = record {
  sound : IsSound (script_view l.script);
  near : l.number + length l.rest ≤ length l.fn.text;
  taken : script_from (l.number + 1) (script_view l.script) (script_lines l.rest) ≡ parsed_script
      l.fn.text;
}

abbrev pub decreases-lines : goal.decreases-lines
decreases-lines l = length l.rest
