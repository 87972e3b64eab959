-- The tokens of a row whose marks are brackets.
use Rattle.std.specs.Prelude.{ℕ, ◌==◌, if◌then◌else◌}
use Rattle.text_tokens.specs.declared.tokens.Class.{Class}
use Rattle.text_tokens.specs.declared.tokens.Class.TheVariants as C
use Rattle.test_inputs.specs.declared.cursors.Bracket.{Bracket}
use Rattle.test_inputs.specs.declared.cursors.Bracket.TheVariants as B

-- blank, tab and the end of a line stand between tokens, brackets are marks, and all other bytes stand in lexemes
unfoldable pub bracket_class : ℕ → Class Bracket
bracket_class b =
    if b == 32 then C.Blank else if b == 9 then C.Blank else if b == 10 then C.Blank else if b == 40 then C.Mark B.Open else if b == 41 then C.Mark B.Close else if b == 91 then C.Mark B.OpenSquare else if b == 93 then C.Mark B.CloseSquare else if b == 123 then C.Mark B.OpenCurly else if b == 125 then C.Mark B.CloseCurly else C.Ordinary
