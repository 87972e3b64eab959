use Rattle.std.proofs.Common.{take}
use Rattle.agent_script.specs.Inside.Words.{HasNoEnd}
use Rattle.agent_script.proofs.line.line_length.Given as goal

abbrev pub invariant-loop-i : goal.invariant-loop-i
invariant-loop-i l = HasNoEnd (take l.i l.text)
