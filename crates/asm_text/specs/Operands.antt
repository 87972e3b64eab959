-- The operands that tokens have behind a mnemonic, and what is wrong with one.
use Rattle.std.specs.Prelude.{◌≡◌, ℕ, ◌⊎◌, true, if◌then◌else◌, List, [], ◌∷◌}
use Rattle.alpha_words.specs.declared.insn.Rhs.{Rhs}
use Rattle.text_tokens.specs.Tokens.{Token, Mark, Lexeme}
use Rattle.text_tokens.specs.Registers.{IsRegister}
use Rattle.asm_text.specs.declared.fault.LineFlaw.{LineFlaw}
use Rattle.asm_text.specs.declared.fault.LineFlaw.TheVariants as L
use Rattle.asm_text.specs.declared.marks.Punct.{Punct}
use Rattle.asm_text.specs.declared.marks.Punct.TheVariants as M
use Rattle.asm_text.specs.declared.mnemonics.Mnemonic.{Mnemonic}
use Rattle.asm_text.specs.declared.mnemonics.Mnemonic.TheVariants as N
use Rattle.asm_text.specs.Labels.{is_label}
use Rattle.asm_text.specs.Integers.{Integer, IsInteger, is_integer}
use Rattle.asm_text.specs.Insns.{IsDisplacement, IsCount, SpellsRhs}

-- A lexeme in the place of an operand, by what has to stand there: a register; this register; a displacement; a register or a
-- number below 256; a number below the limit.
pub data Operand : Type 0 where
  ARegister : List ℕ → Operand
  TheRegister : ℕ → List ℕ → Operand
  ADisplacement : List ℕ → Operand
  ARhs : List ℕ → Operand
  ACount : ℕ → List ℕ → Operand

-- `ra,disp(rb)` with an integer, or `ra,(rb)`
abbrev pub HasMemoryForm : List Operand → List (Token Punct) → Type 0
HasMemoryForm os ts =
    (x y : List ℕ) ×
    (((os ≡ ARegister x ∷ ARegister y ∷ []) × (ts ≡ Lexeme x ∷ Mark M.Comma ∷ Mark M.Open ∷ Lexeme y ∷ Mark M.Close ∷ []))
    ⊎ ((d : List ℕ) × (is_integer d ≡ true) × (os ≡ ARegister x ∷ ADisplacement d ∷ ARegister y ∷ []) ×
    (ts ≡ Lexeme x ∷ Mark M.Comma ∷ Lexeme d ∷ Mark M.Open ∷ Lexeme y ∷ Mark M.Close ∷ [])))

-- `ra,rb,rc`
abbrev pub HasOperateForm : List Operand → List (Token Punct) → Type 0
HasOperateForm os ts =
    (x y z : List ℕ) × (os ≡ ARegister x ∷ ARhs y ∷ ARegister z ∷ []) × (ts ≡ Lexeme x ∷ Mark M.Comma ∷ Lexeme y ∷ Mark M.Comma ∷ Lexeme z ∷ [])

-- `ra,label`
abbrev pub HasBranchForm : List Operand → List (Token Punct) → Type 0
HasBranchForm os ts = (x l : List ℕ) × (is_label l ≡ true) × (os ≡ ARegister x ∷ []) × (ts ≡ Lexeme x ∷ Mark M.Comma ∷ Lexeme l ∷ [])

-- `label` or `$31,label`
abbrev pub HasBrForm : List Operand → List (Token Punct) → Type 0
HasBrForm os ts =
    (l : List ℕ) × (is_label l ≡ true) ×
    (((os ≡ []) × (ts ≡ Lexeme l ∷ [])) ⊎ ((x : List ℕ) × (os ≡ TheRegister 31 x ∷ []) × (ts ≡ Lexeme x ∷ Mark M.Comma ∷ Lexeme l ∷ [])))

-- nothing, or `$31,($26),n` with an integer
abbrev pub HasReturnForm : List Operand → List (Token Punct) → Type 0
HasReturnForm os ts =
    ((os ≡ []) × (ts ≡ []))
    ⊎ ((x y d : List ℕ) × (is_integer d ≡ true) × (os ≡ TheRegister 31 x ∷ TheRegister 26 y ∷ ACount 16384 d ∷ [])
    × (ts ≡ Lexeme x ∷ Mark M.Comma ∷ Mark M.Open ∷ Lexeme y ∷ Mark M.Close ∷ Mark M.Comma ∷ Lexeme d ∷ []))

-- the tokens have the form of the mnemonic's operands, which are these
abbrev pub HasOperandForm : Mnemonic → List Operand → List (Token Punct) → Type 0
HasOperandForm (N.Memory op) os ts = HasMemoryForm os ts
HasOperandForm (N.Oper op) os ts = HasOperateForm os ts
HasOperandForm (N.Branch j) os ts = HasBranchForm os ts
HasOperandForm N.Br os ts = HasBrForm os ts
HasOperandForm N.Ret os ts = HasReturnForm os ts
HasOperandForm N.Nop os ts = (os ≡ []) × (ts ≡ [])

-- the operand is what has to stand there
abbrev pub IsRightOperand : Operand → Type 0
IsRightOperand (ARegister w) = (r : ℕ) × IsRegister r w
IsRightOperand (TheRegister r w) = IsRegister r w
IsRightOperand (ADisplacement w) = (z : Integer) × IsInteger w z × IsDisplacement z
IsRightOperand (ARhs w) = (rhs : Rhs) × SpellsRhs rhs w
IsRightOperand (ACount limit w) = (z : Integer) × (n : ℕ) × IsInteger w z × IsCount limit z n

-- what an operand is told as that isn't: a number out of its range, or no register
abbrev pub operand_flaw : Operand → LineFlaw
operand_flaw (ARegister w) = L.Register
operand_flaw (TheRegister r w) = L.Register
operand_flaw (ADisplacement w) = L.Range
operand_flaw (ARhs w) = if is_integer w then L.Range else L.Register
operand_flaw (ACount limit w) = L.Range

-- the first of the operands that isn't right is told as this
abbrev pub FirstWrong : List Operand → LineFlaw → Type 0
FirstWrong [] flaw = ⊥
FirstWrong (o ∷ os) flaw = ((IsRightOperand o → ⊥) × (operand_flaw o ≡ flaw)) ⊎ (IsRightOperand o × FirstWrong os flaw)

-- The tokens are no operands of the mnemonic, and why: they haven't its form, or one of the operands isn't right.
abbrev pub AreNoOperands : Mnemonic → List (Token Punct) → LineFlaw → Type 0
AreNoOperands m ts flaw =
    (((os : List Operand) → HasOperandForm m os ts → ⊥) × (L.Operand ≡ flaw))
    ⊎ ((os : List Operand) × HasOperandForm m os ts × FirstWrong os flaw)
