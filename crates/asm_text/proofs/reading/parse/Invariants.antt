use Rattle.std.proofs.Common.{◌≡◌, ◌+◌, ◌≤◌, length}
use Rattle.text_tokens.specs.Lines.{lines_of}
use Rattle.asm_text.specs.SourceParsing.{take_lines, parsed_source}
use Rattle.asm_text.specs.Inside.Views.{progress_view, IsSoundProgress}
use Rattle.asm_text.proofs.reading.parse.Given as goal

abbrev pub invariant-lines : goal.invariant-lines
invariant-lines l = record {
  sound : IsSoundProgress l.progress;
  near : l.n + length l.rest ≤ length l.fn.text + 1;
  taken : take_lines l.fn.profile l.fn.left l.n (lines_of l.rest) (progress_view l.progress) ≡ parsed_source l.fn.profile l.fn.left l.fn.text;
}

abbrev pub decreases-lines : goal.decreases-lines
decreases-lines l = length l.rest
