-- An encoding is no lower than what it encodes, and the proof of a condition no lower than the condition.
use Rattle.std.proofs.Common.{◌≡◌, ◌≤◌, Bool, ◌^◌, Some, List, [], ◌∷◌, option_map, sym, subst, arith}
use Rattle.term_table.specs.Tree.{Tree}
use Rattle.term_table.specs.Measures.{height_of}
use Rattle.term_table.proofs.Options.{bind_some, map_some}
use Rattle.formula_tree.specs.Formulas.{Exp, EReg, ELeft, EVar, ELit, EOp, ESel, MemExp, MMem, MVar, MUpd, Form, FTrue, FFalse, FRel, FRd, FWr, FAnd, FOr, FImp, FAll, FAllm}
use Rattle.formula_tree.specs.Sizes.{exp_height, mem_height, form_height}
use Rattle.lf_terms.specs.Encoding.{exp_encoding, mem_encoding, form_encoding}
use Rattle.vcgen.specs.declared.condition.TheConstants.{MAX_HEIGHT}
use Rattle.lf_terms.specs.ProofTerms.{and_i}
use Rattle.prover_class.specs.Parts.{conjoined, part_proof, condition_proof}

mutual
  exp-low : (e : Exp) → exp_height e ≤ height_of (exp_encoding e)
  exp-low (EReg r) = omega arith
  exp-low ELeft = omega arith
  exp-low (EVar n) = omega arith
  exp-low (ELit w) = omega arith
  exp-low (EOp o a b) = omega (arith, exp-low a, exp-low b)
  exp-low (ESel m a) = omega (arith, mem-low m, exp-low a)

  mem-low : (m : MemExp) → mem_height m ≤ height_of (mem_encoding m)
  mem-low MMem = omega arith
  mem-low (MVar n) = omega arith
  mem-low (MUpd m a v) = omega (arith, mem-low m, exp-low a, exp-low v)

pub form-low : (A : Form) → form_height A ≤ height_of (form_encoding A)
form-low FTrue = omega arith
form-low FFalse = omega arith
form-low (FRel p a b) = omega (arith, exp-low a, exp-low b)
form-low (FRd a) = omega (arith, exp-low a)
form-low (FWr a) = omega (arith, exp-low a)
form-low (FAnd A B) = omega (arith, form-low A, form-low B)
form-low (FOr A B) = omega (arith, form-low A, form-low B)
form-low (FImp A B) = omega (arith, form-low A, form-low B)
form-low (FAll A) = omega (arith, form-low A)
form-low (FAllm A) = omega (arith, form-low A)

-- what a proof that isn't high proves isn't high
pub parts-low : (counted : Bool) (l : List Form) (p : Tree) → condition_proof counted l ≡ Some p → height_of p ≤ MAX_HEIGHT → form_height (conjoined l) ≤ 2 ^ 29
parts-low counted [] p e low = omega arith
parts-low counted (A ∷ l) p e low =
    let a = bind_some (part_proof counted A) (λ p. option_map (and_i A (conjoined l) p) (condition_proof counted l)) p e in
    let b = map_some (condition_proof counted l) (and_i A (conjoined l) a.0) p a.2 in
    let high : height_of (and_i A (conjoined l) a.0 b.0) ≤ MAX_HEIGHT = subst (λ z. height_of z ≤ MAX_HEIGHT) (sym b.2) low in
    omega (arith, high, form-low A, form-low (conjoined l))
