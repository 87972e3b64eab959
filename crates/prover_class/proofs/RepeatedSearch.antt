-- The search is a use of its hypotheses that takes the first with a formula; so it finds the same where repeats are added.
use Rattle.std.proofs.Common.{◌≡◌, ℕ, zero, suc, Bool, true, false, cond, Option, Some, None, [], ◌∷◌, ◌++◌, refl, sym, ap, ◌∙◌, option_map}
use Rattle.term_table.specs.Tree.{Tree, Var}
use Rattle.term_table.specs.Subst.{bind}
use Rattle.word_ops.specs.declared.Op.TheVariants.{Add, Band, Sll}
use Rattle.word_ops.specs.declared.Rel.TheVariants.{Eq, Ult, Ule}
use Rattle.formula_tree.specs.Formulas.{Exp, ELit, EOp, Form, FTrue, FFalse, FRel, FRd, FWr, FAnd, FOr, FImp, FAll, FAllm, shift_form}
use Rattle.lf_terms.specs.ProofTerms.{ff_e, and_i, or_l, or_r, imp_i, all_i, allm_i, word_rule}
use Rattle.prover_class.specs.Hypotheses.{Hyps, find_hyp, raised_hyps, split_hyps, with_new}
use Rattle.prover_class.specs.Goals.{first_of, absurdity, levels, Prover, by_shape, goal_proof, aligned_form, alignment_proof, by_aligned, ule_by, ult_by, by_bounds, by_normal, by_words_alone}
use Rattle.prover_class.specs.Parts.{outside_part, part_proof}
use Rattle.prover_class.specs.Access.{Access, Load, Store, right_address, same_address, access_move, moved, opened_at, first_opened, granted_by, by_grant, by_hyp, by_hyps, by_access, without_access, by_all_means}
use Rattle.prover_class.specs.Repeats.{Adding, with_repeats, by_shape_adding, goal_proof_adding, without_access_adding, by_all_means_adding, part_proof_adding}
use Rattle.prover_class.proofs.Repeats.{IsUse, find_use, first_use, absurdity_use, raised_use, new_same, new_use}
use Rattle.prover_class.proofs.RepeatedBounds.{upper_use, lower_use}
use Rattle.lf_signature.specs.declared.numbers.TheConstants.{ADD_AL, ULT_ULE}

-- a prover that takes the first hypothesis with a formula
abbrev pub Takes : Prover → Type 0
Takes f = (out : ℕ) (A : Form) → IsUse (λ Γ. f out Γ A)

-- the leaf without access
alignment_use : (e : Exp) → IsUse (λ Γ. alignment_proof Γ e)
alignment_use (EOp Add a b) = λ Γ l h q i.
    bind (first_of (find_use (aligned_form a) Γ l h q i) (alignment_use a Γ l h q i))
    (λ p. option_map (λ r. word_rule ADD_AL (a ∷ b ∷ []) (p ∷ r ∷ [])) (first_of (find_use (aligned_form b) Γ l h q i) (alignment_use b Γ l h q i)))
alignment_use (ELit w) = λ Γ l h q. refl
alignment_use (EOp Sll a (ELit (suc (suc (suc zero))))) = λ Γ l h q. refl
alignment_use (EOp Band a (ELit w)) = λ Γ l h q. refl
alignment_use _ = λ Γ l h q. refl

aligned_use : (A : Form) → IsUse (λ Γ. by_aligned Γ A)
aligned_use (FRel Eq (EOp Band e (ELit (suc (suc (suc (suc (suc (suc (suc zero))))))))) (ELit zero)) = alignment_use e
aligned_use _ = λ Γ l h q. refl

bounds_use : (counted : Bool) (A : Form) → IsUse (λ Γ. by_bounds counted Γ A)
bounds_use counted (FRel Ule a b) = λ Γ l h q i.
    first_of (option_map (λ h. word_rule ULT_ULE (a ∷ b ∷ []) (h ∷ [])) (find_use (FRel Ult a b) Γ l h q i))
    (ule_by a b (upper_use a Γ l h q i) (lower_use counted b Γ l h q i))
bounds_use counted (FRel Ult a b) = λ Γ l h q i.
    ult_by a b (upper_use a Γ l h q i) (lower_use counted b Γ l h q i)
bounds_use counted _ = λ Γ l h q. refl

normal_use : (out : ℕ) (A : Form) → IsUse (λ Γ. by_normal out Γ A)
normal_use out (FRel r a b) = λ Γ l h q. refl
normal_use out _ = λ Γ l h q. refl

pub words_take : (counted : Bool) → Takes (by_words_alone counted)
words_take counted out A Γ l h q = λ i.
    first_of (aligned_use A Γ l h q i)
    (first_of (normal_use out A Γ l h q i) (bounds_use counted A Γ l h q i))

-- the search by shape
module _ (leaf : Prover) (takes : Takes leaf) where
  shape_takes : (again : Prover) → Takes again → Takes (by_shape again leaf)
  shape_takes again t out FTrue = λ Γ l h q. refl
  shape_takes again t out (FAnd A B) = λ Γ l h q i. bind (t out A Γ l h q i) (λ p. option_map (and_i A B p) (t out B Γ l h q i))
  shape_takes again t out (FOr A B) = λ Γ l h q i. first_of (option_map (or_l A B) (t out A Γ l h q i)) (option_map (or_r A B) (t out B Γ l h q i))
  shape_takes again t out (FImp A B) = λ Γ l h q.
      let G : Hyps → Option Tree = λ Δ. again (suc out) Δ (shift_form 1 0 B) in
      let m : Hyps = split_hyps (shift_form 1 0 A) (Var 0) in
      ap (option_map (imp_i A B)) (raised_use (λ Δ. G (with_new Δ m)) (new_use G (t (suc out) (shift_form 1 0 B)) m) Γ l h q)
  shape_takes again t out (FAll A) = λ Γ l h q. ap (option_map (all_i A)) (raised_use (λ Δ. again (suc out) Δ A) (t (suc out) A) Γ l h q)
  shape_takes again t out (FAllm A) = λ Γ l h q. ap (option_map (allm_i A)) (raised_use (λ Δ. again (suc out) Δ A) (t (suc out) A) Γ l h q)
  shape_takes again t out FFalse = takes out FFalse
  shape_takes again t out (FRel r a b) = takes out (FRel r a b)
  shape_takes again t out (FRd a) = takes out (FRd a)
  shape_takes again t out (FWr a) = takes out (FWr a)

  pub goal_takes : (n : ℕ) → Takes (goal_proof leaf n)
  goal_takes zero out A Γ l h q = refl
  goal_takes (suc n) out A Γ l h q = λ i.
      first_of (find_use A Γ l h q i)
      (first_of (option_map (ff_e A) (absurdity_use Γ l h q i)) (shape_takes (goal_proof leaf n) (goal_takes n) out A Γ l h q i))

-- access by premises that two provers prove alike
hyp_same : (f g : Prover) (out : ℕ) (Γ Δ : Hyps) → ((P : Form) → f out Γ P ≡ g out Δ P) → (k : Access) (a : Exp) (A : Form) (h : Tree) →
    by_hyp f out Γ k a A h ≡ by_hyp g out Δ k a A h
hyp_same f g out Γ Δ s k a (FImp P Q) h = λ i. by_grant (λ m Θ A. s A i) false out Γ k a P Q h
hyp_same f g out Γ Δ s k a (FAll (FImp P Q)) h = λ i. by_grant (λ m Θ A. s A i) true out Γ k a P Q h
hyp_same f g out Γ Δ s k a _ h = refl

hyps_same : (f g : Prover) (out : ℕ) (Γ Δ : Hyps) → ((P : Form) → f out Γ P ≡ g out Δ P) → (k : Access) (a : Exp) (l : Hyps) →
    by_hyps f out Γ k a l ≡ by_hyps g out Δ k a l
hyps_same f g out Γ Δ s k a [] = refl
hyps_same f g out Γ Δ s k a (x ∷ l) = λ i. first_of (hyp_same f g out Γ Δ s k a x.0 x.1 i) (hyps_same f g out Γ Δ s k a l i)

access_same : (f g : Prover) (out : ℕ) (Γ : Hyps) → ((P : Form) → f out Γ P ≡ g out Γ P) → (A : Form) → by_access f out Γ A ≡ by_access g out Γ A
access_same f g out Γ s (FRd a) = hyps_same f g out Γ Γ s Load a Γ
access_same f g out Γ s (FWr a) = hyps_same f g out Γ Γ s Store a Γ
access_same f g out Γ s _ = refl

-- whether a hypothesis gives access doesn't go by its proof
map_none : {X : Type 0} (o : Option X) (f g : X → Tree) → option_map f o ≡ None → option_map g o ≡ None
map_none (Some x) f g q = cc
map_none None f g q = refl

bind_none : {X : Type 0} (o : Option X) (f g : X → Option Tree) → ((x : X) → f x ≡ None → g x ≡ None) → bind o f ≡ None → bind o g ≡ None
bind_none (Some x) f g s q = s x q
bind_none None f g s q = refl

if_none : (t : Bool) (p q : Tree) → cond t (Some p) None ≡ None → cond t (Some q) None ≡ None
if_none true p q e = cc
if_none false p q e = refl

hyp_none : (f : Prover) (out : ℕ) (Γ : Hyps) (k : Access) (a : Exp) (A : Form) (p q : Tree) → by_hyp f out Γ k a A p ≡ None → by_hyp f out Γ k a A q ≡ None
hyp_none f out Γ k a (FImp P Q) p q e = map_none (first_opened k (opened_at f false out Γ a P) Q) (granted_by false out k a P Q p) (granted_by false out k a P Q q) e
hyp_none f out Γ k a (FAll (FImp P Q)) p q e = map_none (first_opened k (opened_at f true out Γ a P) Q) (granted_by true out k a P Q p) (granted_by true out k a P Q q) e
hyp_none f out Γ k a A p q e = bind_none (right_address k A) (λ z. moved out k a z p) (λ z. moved out k a z q) (λ z. if_none (same_address out z a) (access_move out k z a p) (access_move out k z a q)) e

module _ (f : Prover) (t : Takes f) where
  hyps_take : (out : ℕ) (k : Access) (a : Exp) → IsUse (λ Γ. by_hyps f out Γ k a Γ)
  hyps_take out k a Γ l h q =
      let old : Hyps = Γ ++ l in
      let more : Hyps = Γ ++ h ∷ l in
      hyps_same f f out old more (λ P. t out P Γ l h q) k a old
      ∙ first_use (λ m. by_hyps f out more k a m) (by_hyp f out more k a) (λ x m. refl) (hyp_none f out more k a) Γ l h q

  pub access_takes : Takes (by_access f)
  access_takes out (FRd a) = hyps_take out Load a
  access_takes out (FWr a) = hyps_take out Store a
  access_takes out _ = λ Γ l h q. refl

without_takes : (counted : Bool) → Takes (without_access counted)
without_takes counted out A = goal_takes (by_words_alone counted) (words_take counted) (levels A) out A

all_take : (counted : Bool) → Takes (by_all_means counted)
all_take counted out A Γ l h q = λ i.
    first_of (words_take counted out A Γ l h q i)
    (access_takes (without_access counted) (without_takes counted) out A Γ l h q i)

-- a way of adding between which and with_new no use tells
module _ (add : Adding) (alike : (G : Hyps → Option Tree) → IsUse G → (Γ l : Hyps) → G (add Γ l) ≡ G (with_new Γ l)) where
  shape_alike : (again by leaf : Prover) → Takes by → ((out : ℕ) (Γ : Hyps) (A : Form) → again out Γ A ≡ by out Γ A) →
      (out : ℕ) (Γ : Hyps) (A : Form) → by_shape_adding add again leaf out Γ A ≡ by_shape by leaf out Γ A
  shape_alike again by leaf t s out Γ FTrue = refl
  shape_alike again by leaf t s out Γ (FAnd A B) = λ i. bind (s out Γ A i) (λ p. option_map (and_i A B p) (s out Γ B i))
  shape_alike again by leaf t s out Γ (FOr A B) = λ i. first_of (option_map (or_l A B) (s out Γ A i)) (option_map (or_r A B) (s out Γ B i))
  shape_alike again by leaf t s out Γ (FImp A B) =
      let m : Hyps = split_hyps (shift_form 1 0 A) (Var 0) in
      let C : Form = shift_form 1 0 B in
      ap (option_map (imp_i A B)) (s (suc out) (add (raised_hyps Γ) m) C ∙ alike (λ Δ. by (suc out) Δ C) (t (suc out) C) (raised_hyps Γ) m)
  shape_alike again by leaf t s out Γ (FAll A) = ap (option_map (all_i A)) (s (suc out) (raised_hyps Γ) A)
  shape_alike again by leaf t s out Γ (FAllm A) = ap (option_map (allm_i A)) (s (suc out) (raised_hyps Γ) A)
  shape_alike again by leaf t s out Γ FFalse = refl
  shape_alike again by leaf t s out Γ (FRel r a b) = refl
  shape_alike again by leaf t s out Γ (FRd a) = refl
  shape_alike again by leaf t s out Γ (FWr a) = refl

  goal_alike : (leaf : Prover) → Takes leaf → (n out : ℕ) (Γ : Hyps) (A : Form) → goal_proof_adding add leaf n out Γ A ≡ goal_proof leaf n out Γ A
  goal_alike leaf t zero out Γ A = refl
  goal_alike leaf t (suc n) out Γ A =
      ap (λ o. first_of (find_hyp Γ A) (first_of (option_map (ff_e A) (absurdity Γ)) o))
      (shape_alike (goal_proof_adding add leaf n) (goal_proof leaf n) leaf (goal_takes leaf t n) (goal_alike leaf t n) out Γ A)

  all_alike : (counted : Bool) (out : ℕ) (Γ : Hyps) (A : Form)
      → by_all_means_adding add counted out Γ A ≡ by_all_means counted out Γ A
  all_alike counted out Γ A =
      let words = by_words_alone counted in
      ap (first_of (words out Γ A))
      (access_same (without_access_adding add counted) (without_access counted) out Γ
      (λ P. goal_alike words (words_take counted) (levels P) out Γ P) A)

  pub part_alike : (counted : Bool) (A : Form)
      → part_proof_adding add counted A ≡ part_proof counted A
  part_alike counted A =
      (λ i. goal_proof_adding add (λ out Γ B. all_alike counted out Γ B i) (levels A)
      (outside_part counted) [] A)
      ∙ goal_alike (by_all_means counted) (all_take counted) (levels A) (outside_part counted) [] A

pub unchanged : (counted : Bool) (A : Form) → part_proof_adding with_new counted A ≡ part_proof counted A
unchanged = part_alike with_new (λ G u Γ l. refl)

pub repeats : (counted : Bool) (A : Form) → part_proof_adding with_repeats counted A ≡ part_proof counted A
repeats = part_alike with_repeats (λ G u Γ l. sym (new_same G u l Γ))
