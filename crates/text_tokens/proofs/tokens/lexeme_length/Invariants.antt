use Rattle.std.proofs.Common.{◌≡◌, ◌+◌, drop, length}
use Rattle.text_tokens.specs.Inside.Fronts.{lexeme_front}
use Rattle.text_tokens.proofs.tokens.lexeme_length.Given as goal

abbrev pub invariant-loop-i : goal.invariant-loop-i
invariant-loop-i g l = l.i + length (lexeme_front g.M.Marks.class (drop l.i l.text)) ≡ length (lexeme_front g.M.Marks.class l.text)
