use Rattle.std.proofs.Common.{◌≡◌, drop}
use Rattle.formula_text.specs.Keywords.{keyword_in}
use Rattle.formula_text.proofs.keywords.keyword_in.Given as goal

abbrev pub invariant-loop-i : goal.invariant-loop-i
invariant-loop-i l = keyword_in (drop l.i l.keywords) l.lexeme ≡ keyword_in l.keywords l.lexeme
