use Rattle.std.proofs.Common.{◌≡◌, map}
use Rattle.std.specs.List.{range_with_len}
use Rattle.view_container.specs.Words.{word_hint}
use Rattle.view_container.proofs.words.hints.Given as goal

abbrev pub invariant-loop-i : goal.invariant-loop-i
invariant-loop-i l = l.hints.items ≡ map (word_hint l.code) (range_with_len 0 l.i)
