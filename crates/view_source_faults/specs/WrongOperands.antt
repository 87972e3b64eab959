-- Which operand of a statement is wrong: the first, from the left, that isn't what has to stand
-- there. It is asked of statements whose tokens have the form of their mnemonic's operands.
use Rattle.std.specs.Prelude.{ℕ, Bool, false, ◌==◌, nat_le, nat_lt, is_some, if◌then◌else◌, List, [], ◌∷◌, length, Option, Some, None}
use Rattle.word_ops.specs.declared.Profile.{Profile}
use Rattle.text_tokens.specs.Registers.{register_of}
use Rattle.text_tokens.specs.Tokens.{Mark, Lexeme, Placed}
use Rattle.asm_text.specs.declared.marks.Punct.{Punct}
use Rattle.asm_text.specs.declared.mnemonics.Mnemonic.{Mnemonic}
use Rattle.asm_text.specs.declared.mnemonics.Mnemonic.TheVariants as N
use Rattle.asm_text.specs.Integers.{Integer, lexeme_integer}
use Rattle.asm_text.specs.Mnemonics.{mnemonic_of}
use Rattle.view_source_faults.specs.declared.operands.Wanted.{Wanted}
use Rattle.view_source_faults.specs.declared.operands.Wanted.TheVariants as W
use Rattle.view_source_faults.specs.declared.forms.OperandForm.{OperandForm}
use Rattle.view_source_faults.specs.declared.forms.OperandForm.TheVariants as O
use Rattle.view_faults.specs.Marking.{Span, Limits}
use Rattle.view_source_faults.specs.SourceLines.{PlacedLexeme, lexemes_of}

-- ---- what has to stand in an operand's place

-- the form of the operands behind a mnemonic
abbrev pub mnemonic_form : Option Mnemonic → OperandForm
mnemonic_form (Some (N.Memory o)) = O.Memory
mnemonic_form (Some (N.Oper o)) = O.Operate
mnemonic_form (Some (N.Branch j)) = O.Branch
mnemonic_form (Some N.Br) = O.Br
mnemonic_form (Some N.Ret) = O.Return
mnemonic_form (Some N.Nop) = O.Nothing
mnemonic_form None = O.Nothing

-- what has to stand at the lexemes of such operands, of which there are so many; a label isn't
-- among them
abbrev pub wanted_by : OperandForm → ℕ → List Wanted
wanted_by O.Memory count =
    if count == 2 then W.Register ∷ W.Register ∷ [] else
    W.Register ∷ W.Number 32768 32768 ∷ W.Register ∷ []
wanted_by O.Operate count = W.Register ∷ W.Right ∷ W.Register ∷ []
wanted_by O.Branch count = W.Register ∷ []
wanted_by O.Br count = W.Fixed 31 ∷ []
wanted_by O.Return count = W.Fixed 31 ∷ W.Fixed 26 ∷ W.Number 0 16384 ∷ []
wanted_by O.Nothing count = []

-- ---- whether it stands there

-- from as far below 0 on as that, and below the limit
abbrev pub is_within : ℕ → ℕ → Integer → Bool
is_within low limit z = if z.0 then nat_le z.1 low else nat_lt z.1 limit

-- the same of a lexeme that may be no integer
abbrev pub is_number_within : ℕ → ℕ → Option Integer → Bool
is_number_within low limit None = false
is_number_within low limit (Some z) = is_within low limit z

-- whether it is this register
abbrev pub is_register : ℕ → Option ℕ → Bool
is_register k None = false
is_register k (Some r) = r == k

-- a register, or a number from 0 to 255
abbrev pub is_second : List ℕ → Option Integer → Bool
is_second w None = is_some (register_of w)
is_second w (Some z) = is_within 0 256 z

-- whether the lexeme is what has to stand there
abbrev pub is_right : Wanted → List ℕ → Bool
is_right W.Register w = is_some (register_of w)
is_right (W.Fixed k) w = is_register k (register_of w)
is_right (W.Number low limit) w = is_number_within low limit (lexeme_integer w)
is_right W.Right w = is_second w (lexeme_integer w)

-- the first of the lexemes that isn't
abbrev pub first_wrong : List Wanted → List PlacedLexeme → Option Span
first_wrong [] ws = None
first_wrong (k ∷ ks) [] = None
first_wrong (k ∷ ks) (w ∷ ws) =
    if is_right k w.1 then first_wrong ks ws else Some (w.0, length w.1)

-- what has to stand in the place of the first of the lexemes that isn't that
abbrev pub first_missed : List Wanted → List PlacedLexeme → Option Wanted
first_missed [] ws = None
first_missed (k ∷ ks) [] = None
first_missed (k ∷ ks) (w ∷ ws) = if is_right k w.1 then first_missed ks ws else Some k

-- the first of the operands behind the mnemonic that is wrong
abbrev pub wrong_operand : Profile → List (Placed Punct) → Option Span
wrong_operand profile [] = None
wrong_operand profile ((p, Mark m) ∷ ts) = None
wrong_operand profile ((p, Lexeme w) ∷ ts) =
    first_wrong (wanted_by (mnemonic_form (mnemonic_of profile w)) (length (lexemes_of ts)))
    (lexemes_of ts)

-- what has to stand in its place
abbrev pub missed_operand : Profile → List (Placed Punct) → Option Wanted
missed_operand profile [] = None
missed_operand profile ((p, Mark m) ∷ ts) = None
missed_operand profile ((p, Lexeme w) ∷ ts) =
    first_missed (wanted_by (mnemonic_form (mnemonic_of profile w)) (length (lexemes_of ts)))
    (lexemes_of ts)

-- the numbers that may stand in a place, if some may
abbrev pub wanted_limits : Wanted → Option Limits
wanted_limits W.Register = None
wanted_limits (W.Fixed k) = None
wanted_limits (W.Number low limit) = Some (low, limit)
wanted_limits W.Right = Some (0, 256)
