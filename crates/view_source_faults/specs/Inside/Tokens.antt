-- The tokens of a source line as the code sees them, and as asm_text does.
use Rattle.std.specs.Prelude.{ℕ, ◌==◌, if◌then◌else◌}
use Rattle.text_tokens.specs.declared.tokens.Class.{Class}
use Rattle.text_tokens.specs.declared.tokens.Class.TheVariants as C
use Rattle.text_tokens.specs.Tokens.{Token, Mark, Lexeme}
use Rattle.asm_text.specs.declared.marks.Punct.{Punct}
use Rattle.asm_text.specs.declared.marks.Punct.TheVariants as M
use Rattle.view_source_faults.specs.declared.tokens.Punct as code
use Rattle.view_source_faults.specs.declared.tokens.Punct.TheVariants as P

-- what a byte does, as the code sees it
unfoldable pub punct_class : ℕ → Class code.Punct
punct_class b =
    if b == 32 then C.Blank else
    if b == 9 then C.Blank else
    if b == 44 then C.Mark P.Comma else
    if b == 40 then C.Mark P.Open else
    if b == 41 then C.Mark P.Close else
    if b == 58 then C.Mark P.Colon else
    C.Ordinary

-- the mark as asm_text has it
abbrev pub source_mark : code.Punct → Punct
source_mark P.Comma = M.Comma
source_mark P.Open = M.Open
source_mark P.Close = M.Close
source_mark P.Colon = M.Colon

-- the token as asm_text has it
abbrev pub source_token : Token code.Punct → Token Punct
source_token (Mark m) = Mark (source_mark m)
source_token (Lexeme w) = Lexeme w
