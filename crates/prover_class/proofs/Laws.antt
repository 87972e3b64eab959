-- The class is sound, and gives a condition a proof exactly where no part is refused.
use Rattle.std.proofs.Common.{◌≡◌, ℕ, suc, ◌^◌, ◌<◌, ◌≤◌, Bool, true, Option, Some, None, List, [], ◌∷◌, ◌↔◌, refl, ap, option_map, arith}
use Rattle.term_table.specs.Tree.{Tree}
use Rattle.term_table.specs.Subst.{bind}
use Rattle.term_table.proofs.Options.{map_some}
use Rattle.lf_signature.specs.Terms.{pf}
use Rattle.lf_signature.specs.Typing.{Checks}
use Rattle.lf_signature.specs.Constants.{size_of, declared}
use Rattle.formula_tree.specs.Formulas.{Exp, EReg, ELeft, EVar, ELit, EOp, ESel, MemExp, MMem, MVar, MUpd, Form, FTrue, FFalse, FRel, FRd, FWr, FAnd, FOr, FImp, FAll, FAllm}
use Rattle.formula_tree.specs.Scope.{VarSort, OfWord, OfMem, IsOverExp, IsOverMem, IsOver}
use Rattle.formula_tree.specs.Sizes.{form_height}
use Rattle.lf_terms.specs.Encoding.{form_encoding, var_types}
use Rattle.lf_terms.proofs.Encoded.{at-word, at-mem}
use Rattle.lf_terms.specs.ProofTerms.{tt_i, and_i}
use Rattle.prover_class.specs.Parts.{conjoined, part_proof, condition_proof, refused_at, first_not_easy}
use Rattle.prover_class.proofs.Scope.{OverExp, OverMem, Over, nesting}
use Rattle.prover_class.proofs.Parts.{class_checks}
use Rattle.prover_class.proofs.Signatures.{declared-operator}
use Rattle.lf_signature.specs.declared.editions.WordSignature.{WordSignature}
use Rattle.lf_signature.specs.Known.{HasOp}
use Rattle.lf_signature.specs.declared.numbers.TheConstants.{SUB_LO}
use Rattle.formula_tree.specs.Operators.{UsesExp, UsesMem, Uses}

module _ (sig : WordSignature) where
  mutual
    over_exp : (a : Exp) (G : List VarSort) → IsOverExp 0 a G → UsesExp (HasOp (declared sig)) a →
        OverExp sig a (var_types G)
    over_exp (EReg r) G h u = absurd (omega (arith, h))
    over_exp ELeft G h u = elim h [ ]
    over_exp (EVar n) G h u = at-word G n h
    over_exp (ELit w) G h u = h
    over_exp (EOp o a b) G h u =
        (over_exp a G h.0 u.1, over_exp b G h.1 u.2, declared-operator sig o u.0)
    over_exp (ESel m a) G h u = (over_mem m G h.0 u.0, over_exp a G h.1 u.1)

    over_mem : (m : MemExp) (G : List VarSort) → IsOverMem 0 m G
        → UsesMem (HasOp (declared sig)) m → OverMem sig m (var_types G)
    over_mem MMem G h u = absurd (omega (arith, h))
    over_mem (MVar n) G h u = at-mem G n h
    over_mem (MUpd m a v) G h u =
        (over_mem m G h.0 u.0, over_exp a G h.1 u.1, over_exp v G h.2 u.2)

  -- a formula over sorts of variables is over their types
  over_form : (A : Form) (G : List VarSort) → IsOver 0 A G → Uses (HasOp (declared sig)) A →
      Over sig A (var_types G)
  over_form FTrue G h u = tt
  over_form FFalse G h u = tt
  over_form (FRel p a b) G h u = (over_exp a G h.0 u.0, over_exp b G h.1 u.1)
  over_form (FRd a) G h u = over_exp a G h u
  over_form (FWr a) G h u = over_exp a G h u
  over_form (FAnd A B) G h u = (over_form A G h.0 u.0, over_form B G h.1 u.1)
  over_form (FOr A B) G h u = (over_form A G h.0 u.0, over_form B G h.1 u.1)
  over_form (FImp A B) G h u = (over_form A G h.0 u.0, over_form B G h.1 u.1)
  over_form (FAll A) G h u = over_form A (OfWord ∷ G) h u
  over_form (FAllm A) G h u = over_form A (OfMem ∷ G) h u

nesting-height : (A : Form) → nesting A ≤ form_height A
nesting-height FTrue = omega arith
nesting-height FFalse = omega arith
nesting-height (FRel p a b) = omega arith
nesting-height (FRd a) = omega arith
nesting-height (FWr a) = omega arith
nesting-height (FAnd A B) = omega (arith, nesting-height A, nesting-height B)
nesting-height (FOr A B) = omega (arith, nesting-height A, nesting-height B)
nesting-height (FImp A B) = omega (arith, nesting-height A, nesting-height B)
nesting-height (FAll A) = omega (arith, nesting-height A)
nesting-height (FAllm A) = omega (arith, nesting-height A)

pub sound : (sig : WordSignature) (counted : Bool) (parts : List Form) (p : Tree)
    → (counted ≡ true → SUB_LO < size_of sig) → IsOver 0 (conjoined parts) []
    → Uses (HasOp (declared sig)) (conjoined parts) → form_height (conjoined parts) ≤ 2 ^ 29
    → condition_proof counted parts ≡ Some p
    → Checks (declared sig) [] p (pf (form_encoding (conjoined parts)))
sound sig counted parts p rule o u r q =
    class_checks sig counted rule parts p (over_form sig (conjoined parts) [] o u)
    (omega (arith, r, nesting-height (conjoined parts))) q

-- the parts' proof is there
abbrev HasProof : Bool → List Form → Type 0
HasProof counted parts = (p : Tree) × (condition_proof counted parts ≡ Some p)

pub exact : (counted : Bool) (parts : List Form) (n : ℕ)
    → (first_not_easy counted n parts ≡ None) ↔ HasProof counted parts
exact counted [] n = (λ q. (tt_i, refl), λ h. refl)
exact counted (A ∷ l) n = go (part_proof counted A) (exact counted l (suc n))
  where
    go : (o : Option Tree) → (first_not_easy counted (suc n) l ≡ None) ↔ HasProof counted l →
        (refused_at n o (first_not_easy counted (suc n) l) ≡ None) ↔ ((p : Tree) × (bind o (λ p. option_map (and_i A (conjoined l) p) (condition_proof counted l)) ≡ Some p))
    go (Some q) h = (
      λ e. let s = h.0 e in (and_i A (conjoined l) q s.0, ap (option_map (and_i A (conjoined l) q)) s.1),
      λ g. let m = map_some (condition_proof counted l) (and_i A (conjoined l) q) g.0 g.1 in h.1 (m.0, m.1),
    )
    go None h = (λ e. cc, λ g. cc)
