-- The tokens of a text whose marks are parentheses.
use Rattle.std.specs.Prelude.{ℕ, ◌==◌, if◌then◌else◌}
use Rattle.text_tokens.specs.declared.tokens.Class.{Class}
use Rattle.text_tokens.specs.declared.tokens.Class.TheVariants as C
use Rattle.text_tokens.specs.declared.parens.Paren.{Paren}
use Rattle.text_tokens.specs.declared.parens.Paren.TheVariants as P

-- blank and tab stand between tokens, parentheses are marks, and all other bytes stand in lexemes
unfoldable pub paren_class : ℕ → Class Paren
paren_class b = if b == 32 then C.Blank else if b == 9 then C.Blank else if b == 40 then C.Mark P.Open else if b == 41 then C.Mark P.Close else C.Ordinary
