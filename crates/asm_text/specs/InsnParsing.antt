-- Parsing tokens as an instruction: first the form, then the operands from the left. The first test that fails is the flaw.
use Rattle.std.specs.Prelude.{ℕ, Bool, ◌==◌, nat_le, nat_lt, if◌then◌else◌, List, [], ◌∷◌, Option, Some, None, Result, Ok, Err, ℤ, pos}
use Rattle.word_ops.specs.declared.Op.{Op}
use Rattle.word_ops.specs.declared.Op.TheVariants as O
use Rattle.word_ops.specs.declared.Profile.{Profile}
use Rattle.alpha_words.specs.declared.memory.MemoryOp.{MemoryOp}
use Rattle.alpha_words.specs.declared.conditions.Cond.{Cond}
use Rattle.alpha_words.specs.declared.insn.Insn.TheVariants as I
use Rattle.alpha_words.specs.declared.insn.Rhs.{Rhs}
use Rattle.alpha_words.specs.declared.insn.Rhs.TheVariants as R
use Rattle.alpha_words.specs.Formats.{memory_insn}
use Rattle.text_tokens.specs.Tokens.{Token, Mark, Lexeme}
use Rattle.text_tokens.specs.Registers.{register_of}
use Rattle.term_table.specs.Steps.{◌>>=◌}
use Rattle.asm_text.specs.declared.fault.LineFlaw.{LineFlaw}
use Rattle.asm_text.specs.declared.fault.LineFlaw.TheVariants as L
use Rattle.asm_text.specs.declared.marks.Punct.{Punct}
use Rattle.asm_text.specs.declared.marks.Punct.TheVariants as M
use Rattle.asm_text.specs.declared.mnemonics.Mnemonic.{Mnemonic}
use Rattle.asm_text.specs.declared.mnemonics.Mnemonic.TheVariants as N
use Rattle.asm_text.specs.Marks.{same_mark}
use Rattle.asm_text.specs.Labels.{is_label}
use Rattle.asm_text.specs.Integers.{Integer, lexeme_integer, is_integer, integer_value}
use Rattle.asm_text.specs.Mnemonics.{mnemonic_of}
use Rattle.asm_text.specs.Insns.{SourceInsn, Plain, BranchTo, BrTo}

-- ---- forms

-- the lexeme that stands next, and what is behind it
abbrev pub next_lexeme : List (Token Punct) → Result (List ℕ × List (Token Punct)) LineFlaw
next_lexeme (Lexeme w ∷ ts) = Ok (w, ts)
next_lexeme ts = Err L.Operand

-- what is behind this mark
abbrev pub behind : Punct → List (Token Punct) → Result (List (Token Punct)) LineFlaw
behind m (Mark k ∷ ts) = if same_mark k m then Ok ts else Err L.Operand
behind m ts = Err L.Operand

-- x, where no token is left
abbrev pub at_end : {A : Type 0} → A → List (Token Punct) → Result A LineFlaw
at_end x [] = Ok x
at_end x (t ∷ ts) = Err L.Operand

-- an integer, if a lexeme stands next, and what is behind it
abbrev pub displacement_at : List (Token Punct) → Result (Option (List ℕ) × List (Token Punct)) LineFlaw
displacement_at (Lexeme w ∷ ts) = if is_integer w then Ok (Some w, ts) else Err L.Operand
displacement_at ts = Ok (None, ts)

-- `ra,disp(rb)` and `ra,(rb)`
unfoldable pub memory_form : List (Token Punct) → Result (List ℕ × Option (List ℕ) × List ℕ) LineFlaw
memory_form ts = do
  x ← next_lexeme ts
  a ← behind M.Comma x.1
  d ← displacement_at a
  b ← behind M.Open d.1
  y ← next_lexeme b
  c ← behind M.Close y.1
  at_end (x.0, d.0, y.0) c

-- `ra,rb,rc`
unfoldable pub operate_form : List (Token Punct) → Result (List ℕ × List ℕ × List ℕ) LineFlaw
operate_form ts = do
  x ← next_lexeme ts
  a ← behind M.Comma x.1
  y ← next_lexeme a
  b ← behind M.Comma y.1
  z ← next_lexeme b
  at_end (x.0, y.0, z.0) z.1

-- a label, where no token is left
abbrev pub last_label : List ℕ × List (Token Punct) → Result (List ℕ) LineFlaw
last_label l = if is_label l.0 then at_end l.0 l.1 else Err L.Operand

-- `ra,label`
unfoldable pub branch_form : List (Token Punct) → Result (List ℕ × List ℕ) LineFlaw
branch_form ts = do
  x ← next_lexeme ts
  a ← behind M.Comma x.1
  l ← next_lexeme a
  label ← last_label l
  Ok (x.0, label)

-- `,label`
unfoldable pub label_form : List (Token Punct) → Result (List ℕ) LineFlaw
label_form ts = do
  a ← behind M.Comma ts
  l ← next_lexeme a
  last_label l

-- a lexeme that is an integer
abbrev pub integer_or_flaw : List ℕ → Result (List ℕ) LineFlaw
integer_or_flaw w = if is_integer w then Ok w else Err L.Operand

-- `$31,($26),n`
unfoldable pub return_form : List (Token Punct) → Result (List ℕ × List ℕ × List ℕ) LineFlaw
return_form ts = do
  x ← next_lexeme ts
  a ← behind M.Comma x.1
  b ← behind M.Open a
  y ← next_lexeme b
  c ← behind M.Close y.1
  d ← behind M.Comma c
  n ← next_lexeme d
  w ← integer_or_flaw n.0
  at_end (x.0, y.0, w) n.1

-- ---- operands

-- a register that was found
abbrev pub some_register : Option ℕ → Result ℕ LineFlaw
some_register None = Err L.Register
some_register (Some r) = Ok r

-- the register that a lexeme names
abbrev pub register_at : List ℕ → Result ℕ LineFlaw
register_at w = some_register (register_of w)

-- this register and no other
abbrev pub fixed_register : ℕ → List ℕ → Result ℕ LineFlaw
fixed_register k w = register_at w >>= λ r. if r == k then Ok r else Err L.Register

-- from -32,768 to 32,767
abbrev pub is_displacement : Integer → Bool
is_displacement z = if z.0 then nat_le z.1 32768 else nat_lt z.1 32768

-- a displacement in its range
abbrev pub in_displacement : Option Integer → Result ℤ LineFlaw
in_displacement None = Err L.Operand
in_displacement (Some z) = if is_displacement z then Ok (integer_value z) else Err L.Range

-- the displacement that a lexeme is, and 0 for none
abbrev pub displacement_of : Option (List ℕ) → Result ℤ LineFlaw
displacement_of None = Ok (pos 0)
displacement_of (Some w) = in_displacement (lexeme_integer w)

-- a number from 0 on and below the limit
abbrev pub in_count : ℕ → Integer → Result ℕ LineFlaw
in_count limit z = if z.0 then (if nat_le z.1 0 then Ok 0 else Err L.Range) else (if nat_lt z.1 limit then Ok z.1 else Err L.Range)

-- the same of a lexeme that may be no integer
abbrev pub count_of : ℕ → Option Integer → Result ℕ LineFlaw
count_of limit None = Err L.Operand
count_of limit (Some z) = in_count limit z

-- ---- instructions, behind their mnemonics

-- the operands of a memory instruction: ra, the displacement and rb
unfoldable pub memory_operands : List (Token Punct) → Result (ℕ × ℤ × ℕ) LineFlaw
memory_operands ts = do
  f ← memory_form ts
  ra ← register_at f.0
  disp ← displacement_of f.1
  rb ← register_at f.2
  Ok (ra, disp, rb)

-- a memory instruction
abbrev pub parsed_memory : MemoryOp → List (Token Punct) → Result SourceInsn LineFlaw
parsed_memory op ts = memory_operands ts >>= λ m. Ok (Plain (memory_insn op m.0 m.2 m.1))

-- a number where the lexeme is an integer, else a register
abbrev pub rhs_by : List ℕ → Option Integer → Result Rhs LineFlaw
rhs_by y None = register_at y >>= λ r. Ok (R.Reg r)
rhs_by y (Some z) = in_count 256 z >>= λ n. Ok (R.Lit n)

-- an operate instruction
unfoldable pub parsed_operate : Op → List (Token Punct) → Result SourceInsn LineFlaw
parsed_operate op ts = do
  f ← operate_form ts
  ra ← register_at f.0
  rhs ← rhs_by f.1 (lexeme_integer f.1)
  rc ← register_at f.2
  Ok (Plain (I.Oper op ra rhs rc))

-- a conditional branch
unfoldable pub parsed_branch : Cond → List (Token Punct) → Result SourceInsn LineFlaw
parsed_branch j ts = do
  f ← branch_form ts
  ra ← register_at f.0
  Ok (BranchTo j ra f.1)

-- What the first lexeme after `br` and the tokens after that give: a branch to the label, which is this lexeme or
-- follows $31 and a comma, or the first flaw.
abbrev pub br_by : List ℕ → List (Token Punct) → Result SourceInsn LineFlaw
br_by x [] = last_label (x, []) >>= λ label. Ok (BrTo label)
br_by x (Lexeme w ∷ ts) = Err L.Operand
br_by x (Mark m ∷ ts) = do
  label ← label_form (Mark m ∷ ts)
  r ← fixed_register 31 x
  Ok (BrTo label)

-- What the tokens after `br` give, or the first flaw: `loop` and `$31,loop` give a branch to the label loop; `$5,loop`
-- doesn't, since `br` may not save a return address.
unfoldable pub parsed_br : List (Token Punct) → Result SourceInsn LineFlaw
parsed_br ts = next_lexeme ts >>= λ x. br_by x.0 x.1

-- `ret`, its operands left out or given
unfoldable pub parsed_return : List (Token Punct) → Result SourceInsn LineFlaw
parsed_return [] = Ok (Plain I.Ret)
parsed_return (t ∷ ts) = do
  f ← return_form (t ∷ ts)
  r ← fixed_register 31 f.0
  s ← fixed_register 26 f.1
  k ← count_of 16384 (lexeme_integer f.2)
  Ok (Plain I.Ret)

-- bis $31,$31,$31
abbrev pub nop : SourceInsn
nop = Plain (I.Oper O.Bis 31 (R.Reg 31) 31)

-- the tokens behind a mnemonic
abbrev pub parsed_operands : Mnemonic → List (Token Punct) → Result SourceInsn LineFlaw
parsed_operands (N.Memory op) ts = parsed_memory op ts
parsed_operands (N.Oper op) ts = parsed_operate op ts
parsed_operands (N.Branch j) ts = parsed_branch j ts
parsed_operands N.Br ts = parsed_br ts
parsed_operands N.Ret ts = parsed_return ts
parsed_operands N.Nop ts = at_end nop ts

-- the tokens behind the mnemonic that was found
abbrev pub by_mnemonic : Option Mnemonic → List (Token Punct) → Result SourceInsn LineFlaw
by_mnemonic None ts = Err L.Mnemonic
by_mnemonic (Some m) ts = parsed_operands m ts

-- the profile's instruction that the tokens are parsed as, or the first flaw
unfoldable pub parsed_insn : Profile → List (Token Punct) → Result SourceInsn LineFlaw
parsed_insn profile (Lexeme w ∷ ts) = by_mnemonic (mnemonic_of profile w) ts
parsed_insn profile ts = Err L.Mnemonic
