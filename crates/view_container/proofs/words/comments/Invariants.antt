use Rattle.std.proofs.Common.{◌≡◌, map}
use Rattle.std.specs.List.{range_with_len}
use Rattle.view_container.specs.Words.{word_comment}
use Rattle.view_container.proofs.words.comments.Given as goal

abbrev pub invariant-loop-i : goal.invariant-loop-i
invariant-loop-i l =
    map (λ c. c.items) l.comments.items ≡ map (word_comment l.code l.lines) (range_with_len 0 l.i)
