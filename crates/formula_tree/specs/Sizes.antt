-- The height of a formula, how deep its binders stand, and which shifts leave variables below 2 ^ 32.
use Rattle.std.specs.Prelude.{ℕ, suc, ◌+◌, ◌<◌, ◌^◌, max, List, [], ◌∷◌}
use Rattle.formula_tree.specs.Formulas.{Exp, EReg, ELeft, EVar, ELit, EOp, ESel, MemExp, MMem, MVar, MUpd, Form, FTrue, FFalse, FRel, FRd, FWr, FAnd, FOr, FImp, FAll, FAllm}
use Rattle.term_table.specs.Tree.{raise}
use Rattle.formula_tree.specs.Substitution.{Substitution}

-- 1 for what has no parts, else one more than the highest part
abbrev mutual
  pub exp_height : Exp → ℕ
  exp_height (EReg r) = 1
  exp_height ELeft = 1
  exp_height (EVar n) = 1
  exp_height (ELit w) = 1
  exp_height (EOp o a b) = 1 + max (exp_height a) (exp_height b)
  exp_height (ESel m a) = 1 + max (mem_height m) (exp_height a)

  pub mem_height : MemExp → ℕ
  mem_height MMem = 1
  mem_height (MVar n) = 1
  mem_height (MUpd m a v) = 1 + max (mem_height m) (max (exp_height a) (exp_height v))

-- the same of a formula
abbrev pub form_height : Form → ℕ
form_height FTrue = 1
form_height FFalse = 1
form_height (FRel p a b) = 1 + max (exp_height a) (exp_height b)
form_height (FRd a) = 1 + exp_height a
form_height (FWr a) = 1 + exp_height a
form_height (FAnd A B) = 1 + max (form_height A) (form_height B)
form_height (FOr A B) = 1 + max (form_height A) (form_height B)
form_height (FImp A B) = 1 + max (form_height A) (form_height B)
form_height (FAll A) = 1 + form_height A
form_height (FAllm A) = 1 + form_height A

-- how many binders stand one within the other at most
abbrev pub binders : Form → ℕ
binders FTrue = 0
binders FFalse = 0
binders (FRel p a b) = 0
binders (FRd a) = 0
binders (FWr a) = 0
binders (FAnd A B) = max (binders A) (binders B)
binders (FOr A B) = max (binders A) (binders B)
binders (FImp A B) = max (binders A) (binders B)
binders (FAll A) = suc (binders A)
binders (FAllm A) = suc (binders A)

-- no variable reaches 2 ^ 32 once k binders more stand outside the c nearest
abbrev mutual
  pub HasRoomExp : ℕ → ℕ → Exp → Type 0
  HasRoomExp k c (EReg r) = Unit {0}
  HasRoomExp k c ELeft = Unit {0}
  HasRoomExp k c (EVar n) = raise k c n < 2 ^ 32
  HasRoomExp k c (ELit w) = Unit {0}
  HasRoomExp k c (EOp o a b) = HasRoomExp k c a × HasRoomExp k c b
  HasRoomExp k c (ESel m a) = HasRoomMem k c m × HasRoomExp k c a

  pub HasRoomMem : ℕ → ℕ → MemExp → Type 0
  HasRoomMem k c MMem = Unit {0}
  HasRoomMem k c (MVar n) = raise k c n < 2 ^ 32
  HasRoomMem k c (MUpd m a v) = HasRoomMem k c m × HasRoomExp k c a × HasRoomExp k c v

-- the same of a formula
abbrev pub HasRoom : ℕ → ℕ → Form → Type 0
HasRoom k c FTrue = Unit {0}
HasRoom k c FFalse = Unit {0}
HasRoom k c (FRel p a b) = HasRoomExp k c a × HasRoomExp k c b
HasRoom k c (FRd a) = HasRoomExp k c a
HasRoom k c (FWr a) = HasRoomExp k c a
HasRoom k c (FAnd A B) = HasRoom k c A × HasRoom k c B
HasRoom k c (FOr A B) = HasRoom k c A × HasRoom k c B
HasRoom k c (FImp A B) = HasRoom k c A × HasRoom k c B
HasRoom k c (FAll A) = HasRoom k (suc c) A
HasRoom k c (FAllm A) = HasRoom k (suc c) A

-- the same of several expressions
abbrev pub HaveRoom : ℕ → ℕ → List Exp → Type 0
HaveRoom k c [] = Unit {0}
HaveRoom k c (e ∷ l) = HasRoomExp k c e × HaveRoom k c l

-- no variable of what is put for registers, m and the steps that are left reaches 2 ^ 32 under k binders
pub record HasRoomSubstitution (k : ℕ) (s : Substitution) : Type 0 where
  pub regs : HaveRoom k 0 s.regs
  pub memory : HasRoomMem k 0 s.memory
  pub left : HasRoomExp k 0 s.left
