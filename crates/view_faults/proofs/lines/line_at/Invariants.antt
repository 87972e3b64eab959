use Rattle.std.proofs.Common.{◌≡◌, length}
use Rattle.std.specs.Prelude.{slice_get}
use Rattle.text_tokens.specs.Lines.{lines_of}
use Rattle.view_faults.proofs.lines.line_at.Given as goal

abbrev pub invariant-lines : goal.invariant-lines
invariant-lines l =
    slice_get (lines_of l.rest) l.left ≡ slice_get (lines_of l.text) l.index

abbrev pub decreases-lines : goal.decreases-lines
decreases-lines l = length l.rest
