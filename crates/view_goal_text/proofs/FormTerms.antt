-- The terms of parts encode formulas.
use Rattle.std.proofs.Common.{◌≡◌, ℕ, suc, ◌+◌, ◌-◌, Bool, true, false, cond, nat_lt, List, [], ◌∷◌, ◌++◌, map, take, zero, Option, length, refl, sym, ◌∙◌, ap}
use Rattle.std.specs.List.{AllByRecursion}
use Rattle.word_ops.specs.declared.Rel.TheVariants.{Eq, Ult, Ule, Slt, Sle}
use Rattle.word_ops.proofs.EachOp.{op_of_constant-op_constant}
use Rattle.term_table.specs.Tree.{Tree}
use Rattle.formula_tree.specs.Formulas.{Exp, EReg, ELeft, EVar, ELit, EOp, ESel, MemExp, MMem, MVar, MUpd, Form, FTrue, FFalse, FRel, FRd, FWr, FAnd, FOr, FImp, FAll, FAllm}
use Rattle.lf_terms.specs.Encoding.{exp_encoding, mem_encoding, form_encoding}
use Rattle.lf_encode.specs.declared.contexts.Sort as sort
use Rattle.lf_encode.specs.Contexts.{bound_sorts, encoding_in}
use Rattle.lf_encode.specs.Naming.{named_exp, named_mem, named_form}
use Rattle.lf_encode.specs.Reading.{binary, exp_of, mem_of, form_of}
use Rattle.lf_encode.proofs.Naming.{named_form-is}
use Rattle.vcgen.specs.Encoded.{context_of}
use Rattle.view_goals.specs.Goals.{Goals, Goal, Both, Under, PartGoals}
use Rattle.view_goals.specs.Rows.{goal_rows}
use Rattle.view_goal_text.specs.Listing.{view_of}
use Rattle.view_goal_text.specs.Inside.FormTerms.{IsFormTerm, AreFormTerms, IsFormRow, AreFormRows}

-- ---- reading undoes encoding, where the machine's variables stand for its state

register-back : (b : Bool) (n w : ℕ) → exp_of (exp_encoding (cond b (EVar n) (ELit w))) ≡ cond b (EVar n) (ELit w)
register-back true n w = refl
register-back false n w = refl

mutual
  exp-back : (a : Exp) (d : ℕ) → exp_of (exp_encoding (named_exp d a)) ≡ named_exp d a
  exp-back (EReg r) d = register-back (nat_lt r 31) ((30 - r) + d) 0
  exp-back ELeft d = refl
  exp-back (EVar n) d = refl
  exp-back (ELit w) d = refl
  exp-back (EOp o a b) d =
      ap (λ p. binary p (mem_of (exp_encoding (named_exp d a))) (exp_of (exp_encoding (named_exp d a)))
      (exp_of (exp_encoding (named_exp d b)))) (op_of_constant-op_constant o)
      ∙ (λ i. EOp o (exp-back a d i) (exp-back b d i))
  exp-back (ESel m a) d = λ i. ESel (mem-back m d i) (exp-back a d i)

  mem-back : (m : MemExp) (d : ℕ) → mem_of (mem_encoding (named_mem d m)) ≡ named_mem d m
  mem-back MMem d = refl
  mem-back (MVar n) d = refl
  mem-back (MUpd m a v) d = λ i. MUpd (mem-back m d i) (exp-back a d i) (exp-back v d i)

form-back : (F : Form) (d : ℕ) → form_of (form_encoding (named_form d F)) ≡ named_form d F
form-back FTrue d = refl
form-back FFalse d = refl
form-back (FRel Eq a b) d = λ i. FRel Eq (exp-back a d i) (exp-back b d i)
form-back (FRel Ult a b) d = λ i. FRel Ult (exp-back a d i) (exp-back b d i)
form-back (FRel Ule a b) d = λ i. FRel Ule (exp-back a d i) (exp-back b d i)
form-back (FRel Slt a b) d = λ i. FRel Slt (exp-back a d i) (exp-back b d i)
form-back (FRel Sle a b) d = λ i. FRel Sle (exp-back a d i) (exp-back b d i)
form-back (FRd a) d = ap FRd (exp-back a d)
form-back (FWr a) d = ap FWr (exp-back a d)
form-back (FAnd A B) d = λ i. FAnd (form-back A d i) (form-back B d i)
form-back (FOr A B) d = λ i. FOr (form-back A d i) (form-back B d i)
form-back (FImp A B) d = λ i. FImp (form-back A d i) (form-back B d i)
form-back (FAll A) d = ap FAll (form-back A (suc d))
form-back (FAllm A) d = ap FAllm (form-back A (suc d))

term-encoded : (ctx : List sort.Sort) (F : Form) → IsFormTerm (encoding_in ctx F)
term-encoded ctx F =
    let d = length (bound_sorts ctx) in
    let named = ap form_encoding (named_form-is d F) in
    ap (λ t. form_encoding (form_of t)) named ∙ ap form_encoding (form-back F d) ∙ sym named

-- ---- lists

pub all-append : {X : Type 0} (P : X → Type 0) (xs ys : List X) → AllByRecursion P xs
    → AllByRecursion P ys → AllByRecursion P (xs ++ ys)
all-append P [] ys h k = k
all-append P (x ∷ xs) ys h k = (h.0, all-append P xs ys h.1 k)

pub all-taken : {X : Type 0} (P : X → Type 0) (n : ℕ) (xs : List X) → AllByRecursion P xs
    → AllByRecursion P (take n xs)
all-taken P zero xs h = tt
all-taken P (suc n) [] h = tt
all-taken P (suc n) (x ∷ xs) h = (h.0, all-taken P n xs h.1)

-- terms that are read and encoded again
pub forms-back : (ts : List Tree) → AreFormTerms ts → map form_encoding (map form_of ts) ≡ ts
forms-back [] h = refl
forms-back (t ∷ ts) h = let others = forms-back ts h.1 in λ i. h.0 i ∷ others i

-- ---- the terms of a part

rows-encoded : (ctx : List sort.Sort) (d : ℕ) (T : Goals) → AreFormRows (goal_rows (encoding_in ctx) d T)
rows-encoded ctx d (Goal i w A) = (term-encoded ctx A, tt)
rows-encoded ctx d (Both S T) = (
  tt,
  all-append IsFormRow (goal_rows (encoding_in ctx) d S) (goal_rows (encoding_in ctx) d T)
      (rows-encoded ctx d S) (rows-encoded ctx d T),
)
rows-encoded ctx d (Under i taken A T) = (term-encoded ctx A, rows-encoded ctx (d + 1) T)

pub form-known : (bound : Option ℕ) (p : PartGoals) → IsFormTerm (view_of bound p).known
form-known bound p = term-encoded (context_of bound) p.known

pub form-rows : (bound : Option ℕ) (p : PartGoals) → AreFormRows (view_of bound p).rows
form-rows bound p = rows-encoded (context_of bound) 0 p.goals
