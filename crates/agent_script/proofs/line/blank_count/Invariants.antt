use Rattle.std.proofs.Common.{take}
use Rattle.agent_script.specs.Inside.Words.{IsBlank}
use Rattle.agent_script.proofs.line.blank_count.Given as goal

abbrev pub invariant-loop-i : goal.invariant-loop-i
invariant-loop-i l = IsBlank (take l.i l.line)
