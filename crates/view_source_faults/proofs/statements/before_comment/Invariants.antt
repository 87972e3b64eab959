use Rattle.std.proofs.Common.{◌≡◌, ◌++◌, take, drop}
use Rattle.asm_text.specs.Statements.{before_comment}
use Rattle.view_source_faults.proofs.statements.before_comment.Given as goal

abbrev pub invariant-loop-i : goal.invariant-loop-i
invariant-loop-i l = take l.i l.line ++ before_comment (drop l.i l.line) ≡ before_comment l.line
