-- Which tokens spell an instruction of a source.
use Rattle.std.specs.Prelude.{◌≡◌, ℕ, ◌≤◌, ◌<◌, ◌⊎◌, true, false, List, [], ◌∷◌, codes, ℤ, pos}
use Rattle.word_ops.specs.declared.Op.{Op}
use Rattle.word_ops.specs.declared.Op.TheVariants as O
use Rattle.alpha_words.specs.declared.conditions.Cond.{Cond}
use Rattle.alpha_words.specs.declared.insn.Insn.{Insn}
use Rattle.alpha_words.specs.declared.insn.Format.{Format}
use Rattle.alpha_words.specs.declared.insn.Format.TheVariants as F
use Rattle.alpha_words.specs.declared.insn.Rhs.{Rhs}
use Rattle.alpha_words.specs.declared.insn.Rhs.TheVariants as R
use Rattle.text_tokens.specs.Tokens.{Token, Mark, Lexeme}
use Rattle.text_tokens.specs.Registers.{IsRegister}
use Rattle.asm_text.specs.declared.marks.Punct.{Punct}
use Rattle.asm_text.specs.declared.marks.Punct.TheVariants as M
use Rattle.asm_text.specs.Labels.{is_label}
use Rattle.asm_text.specs.Integers.{Integer, IsInteger, integer_value}
use Rattle.word_ops.specs.declared.Profile.{Profile}
use Rattle.word_ops.specs.Operators.{op_mnemonic, has_op}
use Rattle.alpha_words.specs.MemoryOps.{memory_mnemonic, has_memory_op}
use Rattle.alpha_words.specs.Formats.{format_of}
use Rattle.alpha_words.specs.Conditions.{cond_mnemonic}

-- an instruction of a source; a branch goes to a label
pub data SourceInsn : Type 0 where
  Plain : Insn → SourceInsn
  BranchTo : Cond → ℕ → List ℕ → SourceInsn
  BrTo : List ℕ → SourceInsn

-- from -32,768 to 32,767
abbrev pub IsDisplacement : Integer → Type 0
IsDisplacement z = ((z.0 ≡ true) × (z.1 ≤ 32768)) ⊎ ((z.0 ≡ false) × (z.1 < 32768))

-- not below 0, and below the limit
abbrev pub IsCount : ℕ → Integer → ℕ → Type 0
IsCount limit z n = ((z.0 ≡ false) ⊎ (z.1 ≡ 0)) × (z.1 ≡ n) × (n < limit)

-- `ra,disp(rb)`, or `ra,(rb)` for a displacement of 0
abbrev pub SpellsMemory : ℕ → ℕ → ℤ → List (Token Punct) → Type 0
SpellsMemory ra rb disp ts =
    (x y : List ℕ) × IsRegister ra x × IsRegister rb y ×
    (((ts ≡ Lexeme x ∷ Mark M.Comma ∷ Mark M.Open ∷ Lexeme y ∷ Mark M.Close ∷ []) × (disp ≡ pos 0))
    ⊎ ((d : List ℕ) × (z : Integer) × IsInteger d z × IsDisplacement z × (disp ≡ integer_value z) × (ts ≡ Lexeme x ∷ Mark M.Comma ∷ Lexeme d ∷ Mark M.Open ∷ Lexeme y ∷ Mark M.Close ∷ [])))

-- a register, or a number from 0 to 255
abbrev pub SpellsRhs : Rhs → List ℕ → Type 0
SpellsRhs (R.Reg r) y = IsRegister r y
SpellsRhs (R.Lit n) y = (z : Integer) × IsInteger y z × IsCount 256 z n

-- `ra,rb,rc` or `ra,n,rc`
abbrev pub SpellsOperate : ℕ → Rhs → ℕ → List (Token Punct) → Type 0
SpellsOperate ra rhs rc ts =
    (x y z : List ℕ) × IsRegister ra x × SpellsRhs rhs y × IsRegister rc z × (ts ≡ Lexeme x ∷ Mark M.Comma ∷ Lexeme y ∷ Mark M.Comma ∷ Lexeme z ∷ [])

-- `ra,label`
abbrev pub SpellsBranch : ℕ → List ℕ → List (Token Punct) → Type 0
SpellsBranch ra l ts = (x : List ℕ) × IsRegister ra x × (is_label l ≡ true) × (ts ≡ Lexeme x ∷ Mark M.Comma ∷ Lexeme l ∷ [])

-- `label` or `$31,label`
abbrev pub SpellsBr : List ℕ → List (Token Punct) → Type 0
SpellsBr l ts = (is_label l ≡ true) × ((ts ≡ Lexeme l ∷ []) ⊎ ((x : List ℕ) × IsRegister 31 x × (ts ≡ Lexeme x ∷ Mark M.Comma ∷ Lexeme l ∷ [])))

-- nothing, or `$31,($26),n` with n from 0 to 16,383, which isn't kept
abbrev pub SpellsReturn : List (Token Punct) → Type 0
SpellsReturn ts =
    (ts ≡ [])
    ⊎ ((x y d : List ℕ) × (z : Integer) × (n : ℕ) × IsRegister 31 x × IsRegister 26 y × IsInteger d z × IsCount 16384 z n
    × (ts ≡ Lexeme x ∷ Mark M.Comma ∷ Mark M.Open ∷ Lexeme y ∷ Mark M.Close ∷ Mark M.Comma ∷ Lexeme d ∷ []))

-- `nop` is bis $31,$31,$31
abbrev pub IsNop : Op → ℕ → Rhs → ℕ → Type 0
IsNop op ra rhs rc = (op ≡ O.Bis) × (ra ≡ 31) × (rhs ≡ R.Reg 31) × (rc ≡ 31)

-- a mnemonic, and tokens that spell its operands
abbrev pub Begins : List ℕ → (List (Token Punct) → Type 0) → List (Token Punct) → Type 0
Begins name P ts = (us : List (Token Punct)) × P us × (ts ≡ Lexeme name ∷ us)

-- The tokens spell what has this format, and the profile has it. No tokens spell a branch by its displacement, since sources go by
-- labels.
abbrev pub SpellsFormat : Profile → Format → List (Token Punct) → Type 0
SpellsFormat profile (F.Memory op ra rb disp) ts = (has_memory_op profile op ≡ true) × Begins (memory_mnemonic op) (SpellsMemory ra rb disp) ts
SpellsFormat profile (F.Operate op ra rhs rc) ts =
    ((has_op profile op ≡ true) × Begins (op_mnemonic op) (SpellsOperate ra rhs rc) ts) ⊎ (IsNop op ra rhs rc × (ts ≡ Lexeme (codes "nop") ∷ []))
SpellsFormat profile (F.Branch j ra disp) ts = ⊥
SpellsFormat profile (F.Br disp) ts = ⊥
SpellsFormat profile F.Ret ts = Begins (codes "ret") SpellsReturn ts

-- the tokens spell the instruction, which the profile has
abbrev pub SpellsInsn : Profile → SourceInsn → List (Token Punct) → Type 0
SpellsInsn profile (Plain i) ts = SpellsFormat profile (format_of i) ts
SpellsInsn profile (BranchTo j ra l) ts = Begins (cond_mnemonic j) (SpellsBranch ra l) ts
SpellsInsn profile (BrTo l) ts = Begins (codes "br") (SpellsBr l) ts
