-- A formula is stored as a tree of numbers and pairs, which is read back. No contract says anything
-- of this tree.
use Rattle.std.specs.Prelude.{◌≡◌, ℕ, ◌==◌, if◌then◌else◌, Option, Some, None, refl}
use Rattle.std.specs.Coded.{Coded, code_by}
use mathlib.Core.Path.{ap}
use Rattle.word_ops.specs.declared.Op.{Op}
use Rattle.word_ops.specs.declared.Op.TheVariants.{Add}
use Rattle.word_ops.specs.declared.Rel.{Rel}
use Rattle.word_ops.specs.declared.Rel.TheVariants.{Eq, Ult, Ule, Slt, Sle}
use Rattle.word_ops.specs.Operators.{op_number, op_of}
use Rattle.word_ops.proofs.EachOp.{op_of-op_number}
use Rattle.term_table.specs.Tree.{Tree, Var, Con, App, Lam, Fam, TApp, Pi, Const, Num, Lit}
use Rattle.term_table.specs.Inside.Code.{tree_code}
use Rattle.formula_tree.specs.Formulas.{Exp, EReg, ELeft, EVar, ELit, EOp, ESel, MemExp, MMem, MVar, MUpd, Form, FTrue, FFalse, FRel, FRd, FWr, FAnd, FOr, FImp, FAll, FAllm}

-- ---- numbers

-- the number that a tree is
abbrev tree_number : Tree → ℕ
tree_number (Fam n) = n
tree_number t = 0

-- an operator that was found
abbrev op_or_add : Option Op → Op
op_or_add (Some o) = o
op_or_add None = Add

-- the place of a relation
abbrev rel_place : Rel → ℕ
rel_place Eq = 0
rel_place Ult = 1
rel_place Ule = 2
rel_place Slt = 3
rel_place Sle = 4

-- the relation at a place
abbrev rel_at : ℕ → Rel
rel_at n =
    if n == 0 then Eq else
    if n == 1 then Ult else
    if n == 2 then Ule else
    if n == 3 then Slt else
    Sle

op-back : (o : Op) → op_or_add (op_of (op_number o)) ≡ o
op-back o = ap op_or_add (op_of-op_number o)

rel-back : (r : Rel) → rel_at (rel_place r) ≡ r
rel-back Eq = refl
rel-back Ult = refl
rel-back Ule = refl
rel-back Slt = refl
rel-back Sle = refl

-- ---- expressions and memories

abbrev mutual
  exp_tree : Exp → Tree
  exp_tree (EReg r) = Var r
  exp_tree ELeft = Con (Num 0)
  exp_tree (EVar n) = Fam n
  exp_tree (ELit w) = Con (Lit w)
  exp_tree (EOp o a b) = TApp (Pi (Fam (op_number o)) (exp_tree a)) (exp_tree b)
  exp_tree (ESel m a) = App (mem_tree m) (exp_tree a)

  mem_tree : MemExp → Tree
  mem_tree MMem = Con (Num 0)
  mem_tree (MVar n) = Var n
  mem_tree (MUpd m a v) = TApp (Pi (mem_tree m) (exp_tree a)) (exp_tree v)

-- what a tree is as an expression, as a memory, and as a pair of what stands before an expression
record Parts : Type 0 where
  exp : Exp
  mem : MemExp
  op : Op
  place : MemExp
  first : Exp

-- a constant as an expression
abbrev const_exp : Const → Exp
const_exp (Lit w) = ELit w
const_exp c = ELeft

-- the parts of a tree that is an expression, a memory, and no pair
abbrev parts_of : Exp → MemExp → Parts
parts_of e m = record { exp = e; mem = m; op = Add; place = MMem; first = ELeft }

-- what a tree is
abbrev read_parts : Tree → Parts
read_parts (Var n) = parts_of (EReg n) (MVar n)
read_parts (Con c) = parts_of (const_exp c) MMem
read_parts (App m a) = parts_of (ESel (read_parts m).mem (read_parts a).exp) MMem
read_parts (Lam b) = parts_of ELeft MMem
read_parts (Fam n) = parts_of (EVar n) MMem
read_parts (TApp p b) =
    let front = read_parts p in
    let last = (read_parts b).exp in
    parts_of (EOp front.op front.first last) (MUpd front.place front.first last)
read_parts (Pi a b) = record {
  exp = ELeft;
  mem = MMem;
  op = op_or_add (op_of (tree_number a));
  place = (read_parts a).mem;
  first = (read_parts b).exp;
}

mutual
  exp-back : (e : Exp) → (read_parts (exp_tree e)).exp ≡ e
  exp-back (EReg r) = refl
  exp-back ELeft = refl
  exp-back (EVar n) = refl
  exp-back (ELit w) = refl
  exp-back (EOp o a b) =
      let p = op-back o in let x = exp-back a in let y = exp-back b in λ k. EOp (p k) (x k) (y k)
  exp-back (ESel m a) = let p = mem-back m in let x = exp-back a in λ k. ESel (p k) (x k)

  mem-back : (m : MemExp) → (read_parts (mem_tree m)).mem ≡ m
  mem-back MMem = refl
  mem-back (MVar n) = refl
  mem-back (MUpd m a v) =
      let p = mem-back m in let x = exp-back a in let y = exp-back v in λ k. MUpd (p k) (x k) (y k)

-- ---- formulas

-- a sign and a tree
abbrev signed : ℕ → Tree → Tree
signed n t = App (Fam n) t

abbrev form_tree : Form → Tree
form_tree FTrue = Fam 0
form_tree FFalse = Fam 1
form_tree (FRel p a b) = TApp (Pi (Fam (rel_place p)) (exp_tree a)) (exp_tree b)
form_tree (FRd a) = signed 0 (exp_tree a)
form_tree (FWr a) = signed 1 (exp_tree a)
form_tree (FAnd A B) = Pi (signed 0 (form_tree A)) (form_tree B)
form_tree (FOr A B) = Pi (signed 1 (form_tree A)) (form_tree B)
form_tree (FImp A B) = Pi (signed 2 (form_tree A)) (form_tree B)
form_tree (FAll A) = Lam (form_tree A)
form_tree (FAllm A) = signed 2 (form_tree A)

-- what a tree is as a formula, and what stands behind its sign
record Signed : Type 0 where
  form : Form
  sign : ℕ
  behind : Form

-- a tree that is a formula without a sign
abbrev unsigned : Form → Signed
unsigned F = record { form = F; sign = 0; behind = FTrue }

-- the formula of a sign and one part
abbrev one_part : ℕ → Exp → Form → Form
one_part n a A = if n == 0 then FRd a else if n == 1 then FWr a else FAllm A

-- the formula of a sign and two parts
abbrev two_parts : ℕ → Form → Form → Form
two_parts n A B = if n == 0 then FAnd A B else if n == 1 then FOr A B else FImp A B

-- the relation and the first expression of a pair
abbrev rel_in : Tree → Rel
rel_in (Pi p a) = rel_at (tree_number p)
rel_in t = Eq

-- what a tree is
abbrev read_tree : Tree → Signed
read_tree (Var n) = unsigned FTrue
read_tree (Con c) = unsigned FTrue
read_tree (App s t) = record {
  form = one_part (tree_number s) (read_parts t).exp (read_tree t).form;
  sign = tree_number s;
  behind = (read_tree t).form;
}
read_tree (Lam b) = unsigned (FAll (read_tree b).form)
read_tree (Fam n) = unsigned (if n == 0 then FTrue else FFalse)
read_tree (TApp p b) = unsigned (FRel (rel_in p) (read_parts p).first (read_parts b).exp)
read_tree (Pi a b) =
    let front = read_tree a in unsigned (two_parts front.sign front.behind (read_tree b).form)

-- a formula is told by its tree
pub form-back : (F : Form) → (read_tree (form_tree F)).form ≡ F
form-back FTrue = refl
form-back FFalse = refl
form-back (FRel p a b) =
    let r = rel-back p in let x = exp-back a in let y = exp-back b in λ k. FRel (r k) (x k) (y k)
form-back (FRd a) = ap FRd (exp-back a)
form-back (FWr a) = ap FWr (exp-back a)
form-back (FAnd A B) = let x = form-back A in let y = form-back B in λ k. FAnd (x k) (y k)
form-back (FOr A B) = let x = form-back A in let y = form-back B in λ k. FOr (x k) (y k)
form-back (FImp A B) = let x = form-back A in let y = form-back B in λ k. FImp (x k) (y k)
form-back (FAll A) = ap FAll (form-back A)
form-back (FAllm A) = ap FAllm (form-back A)

-- formulas as they are stored
abbrev pub form_code : Coded Form
form_code = code_by Tree tree_code form_tree (λ t. (read_tree t).form) form-back
