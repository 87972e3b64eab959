-- The bytes of a source line: blank and tab stand between tokens, commas, parentheses and colons are marks, and all other bytes stand in lexemes.
use Rattle.std.specs.Prelude.{◌≡◌, ℕ, ◌==◌, if◌then◌else◌, Bool, true, false, List}
use Rattle.std.specs.List.{AllByRecursion}
use Rattle.text_tokens.specs.declared.tokens.Class.{Class}
use Rattle.text_tokens.specs.declared.tokens.Class.TheVariants as C
use Rattle.asm_text.specs.declared.marks.Punct.{Punct}
use Rattle.asm_text.specs.declared.marks.Punct.TheVariants as M

-- blank and tab stand between tokens, `,`, `(`, `)` and `:` are marks, and all other bytes stand in lexemes
unfoldable pub source_class : ℕ → Class Punct
source_class b =
    if b == 32 then C.Blank else
    if b == 9 then C.Blank else
    if b == 44 then C.Mark M.Comma else
    if b == 40 then C.Mark M.Open else
    if b == 41 then C.Mark M.Close else
    if b == 58 then C.Mark M.Colon else
    C.Ordinary

-- blanks and tabs
abbrev pub AreBlanks : List ℕ → Type 0
AreBlanks bs = AllByRecursion (λ b. source_class b ≡ C.Blank) bs

-- whether two marks are the same
abbrev pub same_mark : Punct → Punct → Bool
same_mark M.Comma M.Comma = true
same_mark M.Open M.Open = true
same_mark M.Close M.Close = true
same_mark M.Colon M.Colon = true
same_mark a b = false
