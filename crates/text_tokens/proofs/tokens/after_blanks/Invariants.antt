use Rattle.std.proofs.Common.{◌≡◌, drop}
use Rattle.text_tokens.specs.Tokens.{tokens_at}
use Rattle.text_tokens.proofs.tokens.after_blanks.Given as goal

abbrev pub invariant-loop-at : goal.invariant-loop-at
invariant-loop-at g l = tokens_at g.M.Marks.class l.at (drop l.at l.text) ≡ tokens_at g.M.Marks.class l.from (drop l.from l.text)
