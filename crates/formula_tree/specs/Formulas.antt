-- Formulas as plain data: over registers, the memory m, the steps that are left, and bound variables.
-- Necula, POPL 1997, and Necula and Lee, OSDI 1996 (the logic of safety predicates).
use Rattle.std.specs.Prelude.{ℕ, suc}
use Rattle.term_table.specs.Tree.{raise}
use Rattle.word_ops.specs.declared.Op.{Op}
use Rattle.word_ops.specs.declared.Rel.{Rel}

-- Bound variables are numbered, 0 the nearest binder's, words and memories counted together.
mutual
  -- a word: a register, the steps that are left, a bound variable, a literal, an operator at two words, or what a memory has at an address
  pub data Exp : Type 0 where
    EReg : ℕ → Exp
    ELeft : Exp
    EVar : ℕ → Exp
    ELit : ℕ → Exp
    EOp : Op → Exp → Exp → Exp
    ESel : MemExp → Exp → Exp

  -- a memory: m, a bound variable, or a memory after a store of a word at an address
  pub data MemExp : Type 0 where
    MMem : MemExp
    MVar : ℕ → MemExp
    MUpd : MemExp → Exp → Exp → MemExp

-- tt, ff, a relation of two words, the right to load or store at an address, connectives, and quantifiers over words and memories
pub data Form : Type 0 where
  FTrue FFalse : Form
  FRel : Rel → Exp → Exp → Form
  FRd FWr : Exp → Form
  FAnd FOr FImp : Form → Form → Form
  FAll FAllm : Form → Form

-- an expression, and a memory, once k binders more stand outside the c nearest
abbrev mutual
  pub shift_exp : ℕ → ℕ → Exp → Exp
  shift_exp k c (EReg r) = EReg r
  shift_exp k c ELeft = ELeft
  shift_exp k c (EVar n) = EVar (raise k c n)
  shift_exp k c (ELit w) = ELit w
  shift_exp k c (EOp o a b) = EOp o (shift_exp k c a) (shift_exp k c b)
  shift_exp k c (ESel m a) = ESel (shift_mem k c m) (shift_exp k c a)

  pub shift_mem : ℕ → ℕ → MemExp → MemExp
  shift_mem k c MMem = MMem
  shift_mem k c (MVar n) = MVar (raise k c n)
  shift_mem k c (MUpd m a v) = MUpd (shift_mem k c m) (shift_exp k c a) (shift_exp k c v)

-- the same of a formula
abbrev pub shift_form : ℕ → ℕ → Form → Form
shift_form k c FTrue = FTrue
shift_form k c FFalse = FFalse
shift_form k c (FRel p a b) = FRel p (shift_exp k c a) (shift_exp k c b)
shift_form k c (FRd a) = FRd (shift_exp k c a)
shift_form k c (FWr a) = FWr (shift_exp k c a)
shift_form k c (FAnd A B) = FAnd (shift_form k c A) (shift_form k c B)
shift_form k c (FOr A B) = FOr (shift_form k c A) (shift_form k c B)
shift_form k c (FImp A B) = FImp (shift_form k c A) (shift_form k c B)
shift_form k c (FAll A) = FAll (shift_form k (suc c) A)
shift_form k c (FAllm A) = FAllm (shift_form k (suc c) A)
