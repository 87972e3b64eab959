-- Encodings are one to one, and shifts of them are encodings of shifts.
use Rattle.word_ops.specs.declared.Op.{Op}
use Rattle.word_ops.specs.declared.Rel.{Rel}
use Rattle.word_ops.specs.declared.Rel.TheVariants.{Eq, Ult, Ule, Slt, Sle}
use Rattle.word_ops.specs.Operators.{op_of_constant, op_constant}
use Rattle.lf_signature.specs.Numbers.{rel_constant}
use Rattle.lf_signature.specs.Terms.{app2}
use Rattle.std.proofs.Common.{◌≡◌, ℕ, zero, suc, Some, List, [], ◌∷◌, refl, ◌∙◌, ap, arith}
use Rattle.term_table.specs.Tree.{Tree, Var, Con, App, Fam, Num, at, shift}
use Rattle.term_table.specs.Tree as tree
use Rattle.formula_tree.specs.Formulas.{Exp, EReg, ELeft, EVar, ELit, EOp, ESel, MemExp, MMem, MVar, MUpd, Form, FTrue, FFalse, FRel, FRd, FWr, FAnd, FOr, FImp, FAll, FAllm, shift_exp, shift_mem}
use Rattle.lf_terms.specs.Encoding.{exp_encoding, mem_encoding, form_encoding}
use Rattle.term_table.specs.Tree.{raise}
use Rattle.formula_tree.specs.Scope.{VarSort, sort_at, OfWord, OfMem, OfProof}
use Rattle.std.proofs.Common.{◌≢◌, ◌==◌, not, ◌≤◌, sym}
use Rattle.std.proofs.lemmas.Bool.{eqb-false, not-true}
use Rattle.lf_signature.specs.declared.numbers.TheConstants.{SEL}
use Rattle.term_table.proofs.Options.{some_injective}
use Rattle.word_ops.proofs.EachOp.{each_op, op_of_constant-op_constant}
use Rattle.lf_terms.specs.Encoding.{var_types}

op_same : (o p : Op) → op_constant o ≡ op_constant p → o ≡ p
op_same o p q = some_injective (sym (op_of_constant-op_constant o) ∙ ap op_of_constant q ∙ op_of_constant-op_constant p)

rel_same : (o p : Rel) → rel_constant o ≡ rel_constant p → o ≡ p
rel_same Eq Eq q = refl
rel_same Eq Ult q = cc
rel_same Eq Ule q = cc
rel_same Eq Slt q = cc
rel_same Eq Sle q = cc
rel_same Ult Eq q = cc
rel_same Ult Ult q = refl
rel_same Ult Ule q = cc
rel_same Ult Slt q = cc
rel_same Ult Sle q = cc
rel_same Ule Eq q = cc
rel_same Ule Ult q = cc
rel_same Ule Ule q = refl
rel_same Ule Slt q = cc
rel_same Ule Sle q = cc
rel_same Slt Eq q = cc
rel_same Slt Ult q = cc
rel_same Slt Ule q = cc
rel_same Slt Slt q = refl
rel_same Slt Sle q = cc
rel_same Sle Eq q = cc
rel_same Sle Ult q = cc
rel_same Sle Ule q = cc
rel_same Sle Slt q = cc
rel_same Sle Sle q = refl

-- no operator's constant is `sel`'s
op_no_sel : (o : Op) → op_constant o ≢ SEL
op_no_sel o = eqb-false (op_constant o) SEL (not-true (op_constant o == SEL) (each_op (λ p. not (op_constant p == SEL)) refl o))

rel_high : (r : Rel) → (15 ≤ rel_constant r) × (rel_constant r ≤ 19)
rel_high Eq = (omega arith, omega arith)
rel_high Ult = (omega arith, omega arith)
rel_high Ule = (omega arith, omega arith)
rel_high Slt = (omega arith, omega arith)
rel_high Sle = (omega arith, omega arith)

-- the number of a constant with up to two arguments
abbrev outer : Tree → ℕ
outer (Con (Num n)) = n
outer (App (Con (Num n)) b) = n
outer (App (App (Con (Num n)) a) b) = n
outer _ = 0

mutual
  pub exp_encoding-injective : (a b : Exp) → exp_encoding a ≡ exp_encoding b → a ≡ b
  exp_encoding-injective (EReg n) (EReg m) q = ap EReg cc
  exp_encoding-injective ELeft ELeft q = refl
  exp_encoding-injective (EVar n) (EVar m) q = ap EVar cc
  exp_encoding-injective (ELit n) (ELit m) q = ap ELit cc
  exp_encoding-injective (EOp o a b) (EOp p c d) q =
      let h = op_same o p cc in let k = exp_encoding-injective a c cc in let l = exp_encoding-injective b d cc in λ i. EOp (h i) (k i) (l i)
  exp_encoding-injective (ESel m a) (ESel n b) q = let h = mem_encoding-injective m n cc in let k = exp_encoding-injective a b cc in λ i. ESel (h i) (k i)
  exp_encoding-injective (EOp o a b) (ESel n c) q = absurd (op_no_sel o (ap outer q))
  exp_encoding-injective (ESel n c) (EOp o a b) q = absurd (op_no_sel o (sym (ap outer q)))
  exp_encoding-injective _ _ q = cc

  pub mem_encoding-injective : (m n : MemExp) → mem_encoding m ≡ mem_encoding n → m ≡ n
  mem_encoding-injective MMem MMem q = refl
  mem_encoding-injective (MVar n) (MVar m) q = ap MVar cc
  mem_encoding-injective (MUpd m a v) (MUpd n b w) q =
      let h = mem_encoding-injective m n cc in let k = exp_encoding-injective a b cc in let l = exp_encoding-injective v w cc in λ i. MUpd (h i) (k i) (l i)
  mem_encoding-injective _ _ q = cc

pub form_encoding-injective : (A B : Form) → form_encoding A ≡ form_encoding B → A ≡ B
form_encoding-injective FTrue FTrue q = refl
form_encoding-injective FFalse FFalse q = refl
form_encoding-injective (FRel p a b) (FRel r c d) q = let h = rel_same p r cc in let k = exp_encoding-injective a c cc in let l = exp_encoding-injective b d cc in λ i. FRel (h i) (k i) (l i)
form_encoding-injective (FRd a) (FRd b) q = ap FRd (exp_encoding-injective a b cc)
form_encoding-injective (FWr a) (FWr b) q = ap FWr (exp_encoding-injective a b cc)
form_encoding-injective (FAnd A B) (FAnd C D) q = let h = form_encoding-injective A C cc in let k = form_encoding-injective B D cc in λ i. FAnd (h i) (k i)
form_encoding-injective (FOr A B) (FOr C D) q = let h = form_encoding-injective A C cc in let k = form_encoding-injective B D cc in λ i. FOr (h i) (k i)
form_encoding-injective (FImp A B) (FImp C D) q = let h = form_encoding-injective A C cc in let k = form_encoding-injective B D cc in λ i. FImp (h i) (k i)
form_encoding-injective (FAll A) (FAll B) q = ap FAll (form_encoding-injective A B cc)
form_encoding-injective (FAllm A) (FAllm B) q = ap FAllm (form_encoding-injective A B cc)
form_encoding-injective (FRel r a b) _ q = let h = rel_high r in absurd (omega (arith, h.0, h.1, ap outer q))
form_encoding-injective _ (FRel r a b) q = let h = rel_high r in absurd (omega (arith, h.0, h.1, ap outer q))
form_encoding-injective _ _ q = absurd (omega (arith, ap outer q))

pub at-word : (G : List VarSort) (n : ℕ) → sort_at G n ≡ Some OfWord → at (var_types G) n ≡ Some (Fam 0)
at-word [] n q = cc
at-word (OfWord ∷ G) zero q = refl
at-word (OfMem ∷ G) zero q = cc
at-word (OfProof ∷ G) zero q = cc
at-word (OfWord ∷ G) (suc n) q = at-word G n q
at-word (OfMem ∷ G) (suc n) q = at-word G n q
at-word (OfProof ∷ G) (suc n) q = at-word G n q

pub at-mem : (G : List VarSort) (n : ℕ) → sort_at G n ≡ Some OfMem → at (var_types G) n ≡ Some (Fam 1)
at-mem [] n q = cc
at-mem (OfMem ∷ G) zero q = refl
at-mem (OfWord ∷ G) zero q = cc
at-mem (OfProof ∷ G) zero q = cc
at-mem (OfWord ∷ G) (suc n) q = at-mem G n q
at-mem (OfMem ∷ G) (suc n) q = at-mem G n q
at-mem (OfProof ∷ G) (suc n) q = at-mem G n q

raise_same : (k c n : ℕ) → tree.raise k c n ≡ raise k c n
raise_same k zero n = refl
raise_same k (suc c) zero = refl
raise_same k (suc c) (suc n) = ap suc (raise_same k c n)

-- shifts
mutual
  pub shift-exp_encoding : (a : Exp) (k c : ℕ) → shift k c (exp_encoding a) ≡ exp_encoding (shift_exp k c a)
  shift-exp_encoding (EReg r) k c = refl
  shift-exp_encoding ELeft k c = refl
  shift-exp_encoding (EVar n) k c = ap Var (raise_same k c n)
  shift-exp_encoding (ELit w) k c = refl
  shift-exp_encoding (EOp o a b) k c = λ i. app2 (op_constant o) (shift-exp_encoding a k c i) (shift-exp_encoding b k c i)
  shift-exp_encoding (ESel m a) k c = λ i. app2 11 (shift-mem_encoding m k c i) (shift-exp_encoding a k c i)

  pub shift-mem_encoding : (m : MemExp) (k c : ℕ) → shift k c (mem_encoding m) ≡ mem_encoding (shift_mem k c m)
  shift-mem_encoding MMem k c = refl
  shift-mem_encoding (MVar n) k c = ap Var (raise_same k c n)
  shift-mem_encoding (MUpd m a v) k c = λ i. App (app2 12 (shift-mem_encoding m k c i) (shift-exp_encoding a k c i)) (shift-exp_encoding v k c i)
