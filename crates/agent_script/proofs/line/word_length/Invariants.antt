use Rattle.std.proofs.Common.{take}
use Rattle.agent_script.specs.Inside.Words.{HasNoBlank}
use Rattle.agent_script.proofs.line.word_length.Given as goal

abbrev pub invariant-loop-i : goal.invariant-loop-i
invariant-loop-i l = HasNoBlank (take l.i l.line)
