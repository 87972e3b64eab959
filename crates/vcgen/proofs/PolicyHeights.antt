-- The terms of formulas that aren't high, as a policy's are, are low.
use Rattle.std.proofs.Common.{◌≡◌, ◌<◌, ◌≤◌, ◌^◌, ◌*◌, ◌+◌, ◌-◌, ℕ, suc, Bool, true, false, cond, ltb, sym, subst, arith}
use Rattle.policy_set.specs.declared.limits.TheConstants.{MAX_FORM_HEIGHT}
use Rattle.term_table.specs.Measures.{height_of}
use Rattle.formula_tree.specs.Formulas.{Exp, EReg, ELeft, EVar, ELit, EOp, ESel, MemExp, MMem, MVar, MUpd, Form, FTrue, FFalse, FRel, FRd, FWr, FAnd, FOr, FImp, FAll, FAllm}
use Rattle.formula_tree.specs.Sizes.{exp_height, mem_height, form_height}
use Rattle.formula_tree.specs.Substitution.{subst_form}
use Rattle.lf_encode.specs.Encoding.{exp_encoding, mem_encoding, form_encoding}
use Rattle.lf_encode.specs.Contexts.{machine_names}
use Rattle.lf_encode.specs.Naming.{named_exp, named_mem, named_form}
use Rattle.vcgen.proofs.WalkTrees.{subst-names}

-- a register is a variable or a literal
reg-height : (b : Bool) (n : ℕ) → height_of (exp_encoding (cond b (EVar n) (ELit 0))) < 3
reg-height true n = omega arith
reg-height false n = omega arith

mutual
  exp-height : (d : ℕ) (e : Exp) → height_of (exp_encoding (named_exp d e)) < 3 * exp_height e
  exp-height d (EReg r) = reg-height (ltb r 31) ((30 - r) + d)
  exp-height d ELeft = omega arith
  exp-height d (EVar n) = omega arith
  exp-height d (ELit w) = omega arith
  exp-height d (EOp o a b) = omega (arith, exp-height d a, exp-height d b)
  exp-height d (ESel m a) = omega (arith, mem-height d m, exp-height d a)

  mem-height : (d : ℕ) (m : MemExp) → height_of (mem_encoding (named_mem d m)) < 3 * mem_height m
  mem-height d MMem = omega arith
  mem-height d (MVar n) = omega arith
  mem-height d (MUpd m a v) = omega (arith, mem-height d m, exp-height d a, exp-height d v)

form-height : (d : ℕ) (F : Form) → height_of (form_encoding (named_form d F)) < 3 * form_height F
form-height d FTrue = omega arith
form-height d FFalse = omega arith
form-height d (FRel p a b) = omega (arith, exp-height d a, exp-height d b)
form-height d (FRd a) = omega (arith, exp-height d a)
form-height d (FWr a) = omega (arith, exp-height d a)
form-height d (FAnd A B) = omega (arith, form-height d A, form-height d B)
form-height d (FOr A B) = omega (arith, form-height d A, form-height d B)
form-height d (FImp A B) = omega (arith, form-height d A, form-height d B)
form-height d (FAll A) = omega (arith, form-height (suc d) A)
form-height d (FAllm A) = omega (arith, form-height (suc d) A)

-- the machine's variables being put for registers and m
pub named-low : (F : Form) → form_height F ≤ MAX_FORM_HEIGHT
    → height_of (form_encoding (subst_form F machine_names)) < 2 ^ 31
named-low F h =
    let high = form-height 0 F in
    let low : height_of (form_encoding (named_form 0 F)) < 2 ^ 31 = omega (arith, high, h) in
    subst (λ E. height_of (form_encoding E) < 2 ^ 31) (sym (subst-names F)) low

-- a formula in memory that is low enough to be encoded
pub encodes-low : (F G : Form) → F ≡ G → form_height G ≤ MAX_FORM_HEIGHT → form_height F < 2 ^ 31
encodes-low F G e h = subst (λ H. form_height H < 2 ^ 31) (sym e) (omega (arith, h))
