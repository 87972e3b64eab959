use Rattle.std.proofs.Common.{take}
use Rattle.text_tokens.specs.Lines.{IsLine}
use Rattle.text_tokens.proofs.lines.line_length.Given as goal

abbrev pub invariant-loop-i : goal.invariant-loop-i
invariant-loop-i l = IsLine (take l.i l.text)
