-- The statements of a source's lines.
use Rattle.std.specs.Prelude.{ℕ, ◌-◌, List, [], ◌∷◌, length}
use Rattle.text_tokens.specs.Tokens.{Mark, Lexeme, Placed, tokens_at}
use Rattle.asm_text.specs.declared.marks.Punct.{Punct}
use Rattle.asm_text.specs.Marks.{source_class}
use Rattle.asm_text.specs.Statements.{before_comment}
use Rattle.asm_text.specs.SourceParsing.{label_split, behind_label}

-- what stands behind the label and before the comment
unfoldable pub statement_text : List ℕ → List ℕ
statement_text line = behind_label (before_comment line) (label_split (before_comment line))

-- where in its line the statement begins: at the line's begin, or behind the label's colon
abbrev pub statement_place : List ℕ → ℕ
statement_place line = length (before_comment line) - length (statement_text line)

-- the tokens of a line's statement, with their places in it
abbrev pub statement_tokens : List ℕ → List (Placed Punct)
statement_tokens line = tokens_at source_class 0 (statement_text line)

-- a lexeme and its place
abbrev pub PlacedLexeme : Type 0
PlacedLexeme = ℕ × List ℕ

-- the lexemes among tokens, with their places
abbrev pub lexemes_of : List (Placed Punct) → List PlacedLexeme
lexemes_of [] = []
lexemes_of ((p, Mark m) ∷ ts) = lexemes_of ts
lexemes_of ((p, Lexeme w) ∷ ts) = (p, w) ∷ lexemes_of ts
