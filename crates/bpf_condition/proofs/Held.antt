-- All that stands in formulas and in the class's proofs of them.
use Rattle.std.proofs.Common.{◌≡◌, ℕ, zero, suc, ◌+◌, ◌<◌, ◌≤◌, true, false, List, [], ◌∷◌, ◌++◌, length, length-append, slice_index_or, Option, Some, None, refl, ap, subst, arith}
use Rattle.std.specs.Prelude.{nat_le}
use Rattle.std.proofs.lemmas.Bool.{leb-true}
use Rattle.term_table.specs.Tree.{Tree, Con, Num}
use Rattle.lf_signature.specs.declared.numbers.TheConstants.{AND, AND_I, TT, TT_I}
use Rattle.formula_tree.specs.Formulas.{Form}
use Rattle.lf_terms.specs.Encoding.{form_encoding}
use Rattle.lf_terms.specs.ProofTerms.{tt_i}
use Rattle.lf_encode.specs.Contexts.{machine_names}
use Rattle.proof_container.specs.Postorder.{is_emitted}
use Rattle.proof_container.proofs.Walks.{listed-left, listed-right, listed-last}
use Rattle.prover_class.specs.NormalForms.{normalized}
use Rattle.prover_class.specs.Parts.{part_proof}
use Rattle.bpf_condition.specs.PartForms.{part_forms}
use Rattle.bpf_condition.specs.Parts.{HoldsParts, subtrees, subtree_count}
use Rattle.bpf_condition.proofs.Subtrees.{subtrees-hold, root-listed, length-subtrees, holds-both, holds-one_more}

-- the tree, if there is one, else the proof of truth
abbrev proof_or_truth : Option Tree → Tree
proof_or_truth None = tt_i
proof_or_truth (Some p) = p

-- the class's proof of a formula, if it has one
unfoldable pub class_proof : Form → Tree
class_proof A = proof_or_truth (part_proof false A)

pub class_proof-is : (A : Form) (p : Tree) → part_proof false A ≡ Some p → class_proof A ≡ p
unfolding class_proof
class_proof-is A p e = ap proof_or_truth e

-- truth, conjunction, and the rules of both
abbrev pub constants : List Tree
constants = Con (Num TT) ∷ Con (Num AND) ∷ Con (Num TT_I) ∷ Con (Num AND_I) ∷ []

-- all that stands in these formulas and in the class's proofs of them, and the constants
unfoldable pub held_for : List Form → List Tree
held_for [] = constants
held_for (A ∷ l) = (subtrees (form_encoding A) ++ subtrees (class_proof A)) ++ held_for l

-- how many these are
unfoldable pub held_count : List Form → ℕ
held_count [] = 4
held_count (A ∷ l) = subtree_count (form_encoding A) + subtree_count (class_proof A) + held_count l

pub later : (t u : Tree) (ts : List Tree) → is_emitted u ts ≡ true → is_emitted u (t ∷ ts) ≡ true
later t u ts h = listed-right u (t ∷ []) ts h

pub first-listed : (t : Tree) (ts : List Tree) → is_emitted t (t ∷ ts) ≡ true
first-listed t ts = listed-left t (t ∷ []) ts (listed-last t [])

constants-hold : HoldsParts constants
constants-hold =
    holds-one_more (Con (Num AND) ∷ Con (Num TT_I) ∷ Con (Num AND_I) ∷ []) (Con (Num TT))
    (holds-one_more (Con (Num TT_I) ∷ Con (Num AND_I) ∷ []) (Con (Num AND))
    (holds-one_more (Con (Num AND_I) ∷ []) (Con (Num TT_I)) (holds-one_more [] (Con (Num AND_I)) (λ t e. absurd cc) tt) tt) tt) tt

pub held_for-holds : (l : List Form) → HoldsParts (held_for l)
unfolding held_for
held_for-holds [] = constants-hold
held_for-holds (A ∷ l) =
    holds-both (subtrees (form_encoding A) ++ subtrees (class_proof A)) (held_for l)
    (holds-both (subtrees (form_encoding A)) (subtrees (class_proof A)) (subtrees-hold (form_encoding A)) (subtrees-hold (class_proof A))) (held_for-holds l)

pub constant-held : (l : List Form) (t : Tree) → is_emitted t constants ≡ true → is_emitted t (held_for l) ≡ true
unfolding held_for
constant-held [] t h = h
constant-held (A ∷ l) t h = listed-right t (subtrees (form_encoding A) ++ subtrees (class_proof A)) (held_for l) (constant-held l t h)

-- a formula of the list, and its proof
pub record IsHeld (l : List Form) (A : Form) : Type 0 where
  pub formula : is_emitted (form_encoding A) (held_for l) ≡ true
  pub proof : is_emitted (class_proof A) (held_for l) ≡ true

head-held : (A : Form) (l : List Form) → IsHeld (A ∷ l) A
unfolding held_for
head-held A l =
    let formulas = subtrees (form_encoding A) in
    let proofs = subtrees (class_proof A) in
    record {
      formula = listed-left (form_encoding A) (formulas ++ proofs) (held_for l) (listed-left (form_encoding A) formulas proofs (root-listed (form_encoding A)));
      proof = listed-left (class_proof A) (formulas ++ proofs) (held_for l) (listed-right (class_proof A) formulas proofs (root-listed (class_proof A)));
    }

tail-held : (B : Form) (l : List Form) (A : Form) → IsHeld l A → IsHeld (B ∷ l) A
unfolding held_for
tail-held B l A h =
    let front = subtrees (form_encoding B) ++ subtrees (class_proof B) in
    record {
      formula = listed-right (form_encoding A) front (held_for l) h.formula;
      proof = listed-right (class_proof A) front (held_for l) h.proof;
    }

pub each-held : (l : List Form) (A : Form) (k : ℕ) → k < length l → slice_index_or l k A ≡ A → IsHeld l A
each-held [] A k lt e = absurd (omega (arith, lt))
each-held (B ∷ l) A zero lt e = let same : B ≡ A = e in subst (IsHeld (B ∷ l)) same (head-held B l)
each-held (B ∷ l) A (suc k) lt e = tail-held B l A (each-held l A k (omega (arith, lt)) e)

length-held_for : (l : List Form) → length (held_for l) ≡ held_count l
unfolding held_for held_count
length-held_for [] = refl
length-held_for (A ∷ l) =
    let formulas = subtrees (form_encoding A) in
    let proofs = subtrees (class_proof A) in
    let first = length-append (formulas ++ proofs) (held_for l) in
    let second = length-append formulas proofs in
    let formula = length-subtrees (form_encoding A) in
    let proof = length-subtrees (class_proof A) in
    let rest = length-held_for l in
    omega (arith, first, second, formula, proof, rest)

few-held : nat_le (held_count part_forms) 130000 ≡ true
unfolding held_count class_proof normalized machine_names
few-held = refl

pub part_forms-few : length (held_for part_forms) ≤ 130000
part_forms-few =
    let count = length-held_for part_forms in
    let few = leb-true (held_count part_forms) 130000 few-held in
    omega (arith, count, few)
