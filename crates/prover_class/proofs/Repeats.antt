-- A hypothesis whose formula is one already changes no answer.
use Rattle.std.proofs.Common.{◌≡◌, Bool, true, false, cond, Option, Some, None, [], ◌∷◌, ◌++◌, ◌⊎◌, inl, inr, refl, sym, ap, ◌∙◌, subst, option_map, append_assoc}
use Rattle.std.proofs.lemmas.List.{append-nil}
use Rattle.term_table.specs.Tree.{Tree, shift}
use Rattle.term_table.proofs.Equality.{tree_eq-true}
use Rattle.formula_tree.specs.Formulas.{Form, FFalse, FImp, shift_form}
use Rattle.lf_terms.specs.Encoding.{form_encoding}
use Rattle.lf_terms.proofs.Encoded.{form_encoding-injective}
use Rattle.lf_terms.specs.ProofTerms.{imp_e}
use Rattle.prover_class.specs.Hypotheses.{Hyps, same_form, find_hyp, raised_hyps, added, with_new}
use Rattle.prover_class.specs.Goals.{first_of, refute, refuted, absurdity}

-- the formula is a hypothesis
abbrev pub Has : Form → Hyps → Type 0
Has A [] = ⊥
Has A (x ∷ l) = (x.0 ≡ A) ⊎ Has A l

-- an answer that is the same with one more whose formula stands before it
abbrev pub IsUse : {X : Type 0} → (Hyps → X) → Type 0
IsUse F = (Γ l : Hyps) (h : Form × Tree) → Has h.0 Γ → F (Γ ++ l) ≡ F (Γ ++ h ∷ l)

-- An answer that is made hypothesis by hypothesis, c making it from that of the rest. Answers near by a formula are those between
-- which a hypothesis of that formula makes no difference.
module _ {X : Type 0} (F : Hyps → X) (c : Form × Tree → X → X) (fold : (x : Form × Tree) (l : Hyps) → F (x ∷ l) ≡ c x (F l))
    (Near : Form → X → X → Type 0) (skips : (h : Form × Tree) (r : X) → Near h.0 r (c h r))
    (keeps : (A : Form) (y : Form × Tree) (r s : X) → Near A r s → Near A (c y r) (c y s))
    (meets : (x : Form × Tree) (r s : X) → Near x.0 r s → c x r ≡ c x s) where
  near : (Γ l : Hyps) (h : Form × Tree) → Near h.0 (F (Γ ++ l)) (F (Γ ++ h ∷ l))
  near [] l h = subst (λ z. Near h.0 (F l) z) (sym (fold h l)) (skips h (F l))
  near (y ∷ Γ) l h =
      subst (λ z. Near h.0 z (F (y ∷ Γ ++ h ∷ l))) (sym (fold y (Γ ++ l)))
      (subst (λ z. Near h.0 (c y (F (Γ ++ l))) z) (sym (fold y (Γ ++ h ∷ l))) (keeps h.0 y (F (Γ ++ l)) (F (Γ ++ h ∷ l)) (near Γ l h)))

  pub fold_use : IsUse F
  fold_use [] l h q = absurd q
  fold_use (x ∷ Γ) l h (inl q) =
      fold x (Γ ++ l) ∙ meets x (F (Γ ++ l)) (F (Γ ++ h ∷ l)) (subst (λ z. Near z (F (Γ ++ l)) (F (Γ ++ h ∷ l))) (sym q) (near Γ l h))
      ∙ sym (fold x (Γ ++ h ∷ l))
  fold_use (x ∷ Γ) l h (inr q) = fold x (Γ ++ l) ∙ ap (c x) (fold_use Γ l h q) ∙ sym (fold x (Γ ++ h ∷ l))

-- the first hypothesis that is the formula
pub find_use : (B : Form) → IsUse (λ Γ. find_hyp Γ B)
find_use B =
    fold_use (λ Γ. find_hyp Γ B) (λ x r. cond (same_form x.0 B) (Some x.1) r) (λ x l. refl) (λ A r s. same_form A B ≡ false → r ≡ s)
    (λ h r q i. cond (sym q i) (Some h.1) r) (λ A y r s n q. ap (cond (same_form y.0 B) (Some y.1)) (n q)) (λ x r s n. go (same_form x.0 B) (Some x.1) r s n)
  where
    go : (b : Bool) (p r s : Option Tree) → (b ≡ false → r ≡ s) → cond b p r ≡ cond b p s
    go true p r s n = refl
    go false p r s n = n refl

-- the first answer among those of all hypotheses, where it goes by the formula whether one answers
module _ (F : Hyps → Option Tree) (t : Form → Tree → Option Tree) (fold : (x : Form × Tree) (l : Hyps) → F (x ∷ l) ≡ first_of (t x.0 x.1) (F l))
    (alike : (A : Form) (p q : Tree) → t A p ≡ None → t A q ≡ None) where
  pub first_use : IsUse F
  first_use =
      fold_use F (λ x r. first_of (t x.0 x.1) r) fold (λ A r s. ((p : Tree) → t A p ≡ None) → r ≡ s)
      (λ h r f i. first_of (sym (f h.1) i) r) (λ A y r s n f. ap (first_of (t y.0 y.1)) (n f))
      (λ x r s n. go (t x.0 x.1) r s (λ q. n (λ p. alike x.0 x.1 p q)))
    where
      go : (o r s : Option Tree) → (o ≡ None → r ≡ s) → first_of o r ≡ first_of o s
      go (Some p) r s n = refl
      go None r s n = n refl

-- a refutation goes by what is found
refute_same : (Γ Δ : Hyps) → ((A : Form) → find_hyp Γ A ≡ find_hyp Δ A) → (A : Form) (h : Tree) → refute Γ A h ≡ refute Δ A h
refute_same Γ Δ f (FImp F FFalse) h = ap (option_map (λ p. imp_e F FFalse h p)) (f F)
refute_same Γ Δ f _ h = refl

refuted_same : (Γ Δ : Hyps) → ((A : Form) → find_hyp Γ A ≡ find_hyp Δ A) → (l : Hyps) → refuted Γ l ≡ refuted Δ l
refuted_same Γ Δ f [] = refl
refuted_same Γ Δ f (x ∷ l) = λ i. first_of (refute_same Γ Δ f x.0 x.1 i) (refuted_same Γ Δ f l i)

map_none : (f g : Tree → Tree) (o : Option Tree) → option_map f o ≡ None → option_map g o ≡ None
map_none f g (Some p) q = cc
map_none f g None q = refl

refute_alike : (Γ : Hyps) (A : Form) (p q : Tree) → refute Γ A p ≡ None → refute Γ A q ≡ None
refute_alike Γ (FImp F FFalse) p q e = map_none (λ r. imp_e F FFalse p r) (λ r. imp_e F FFalse q r) (find_hyp Γ F) e
refute_alike Γ _ p q e = refl

pub absurdity_use : IsUse absurdity
absurdity_use Γ l h q =
    let old : Hyps = Γ ++ l in
    let more : Hyps = Γ ++ h ∷ l in
    let r : refuted old old ≡ refuted more more =
    refuted_same old more (λ A. find_use A Γ l h q) old ∙ first_use (λ m. refuted more m) (refute more) (λ x m. refl) (refute_alike more) Γ l h q in
    λ i. first_of (find_use FFalse Γ l h q i) (r i)

-- under one more binder
raised-append : (l m : Hyps) → raised_hyps (l ++ m) ≡ raised_hyps l ++ raised_hyps m
raised-append [] m = refl
raised-append (x ∷ l) m = ap (λ z. (shift_form 1 0 x.0, shift 1 0 x.1) ∷ z) (raised-append l m)

has_raised : (A : Form) (l : Hyps) → Has A l → Has (shift_form 1 0 A) (raised_hyps l)
has_raised A [] q = absurd q
has_raised A (x ∷ l) (inl q) = inl (ap (shift_form 1 0) q)
has_raised A (x ∷ l) (inr q) = inr (has_raised A l q)

found_has : (l : Hyps) (A : Form) (p : Tree) → find_hyp l A ≡ Some p → Has A l
found_has [] A p q = cc
found_has (x ∷ l) A p q = go (same_form x.0 A) refl q (λ e. found_has l A p e)
  where
    go : (b : Bool) → same_form x.0 A ≡ b → cond b (Some x.1) (find_hyp l A) ≡ Some p → (find_hyp l A ≡ Some p → Has A l) → Has A (x ∷ l)
    go true e g f = inl (form_encoding-injective x.0 A (tree_eq-true (form_encoding x.0) (form_encoding A) e))
    go false e g f = inr (f g)

module _ {X : Type 0} (G : Hyps → X) (u : IsUse G) where
  pub raised_use : IsUse (λ Γ. G (raised_hyps Γ))
  raised_use Γ l h q =
      ap G (raised-append Γ l) ∙ u (raised_hyps Γ) (raised_hyps l) (shift_form 1 0 h.0, shift 1 0 h.1) (has_raised h.0 Γ q)
      ∙ ap G (sym (raised-append Γ (h ∷ l)))

  appended_use : (m : Hyps) → IsUse (λ Γ. G (Γ ++ m))
  appended_use m Γ l h q = ap G (append_assoc Γ l m) ∙ u Γ (l ++ m) h q ∙ ap G (sym (append_assoc Γ (h ∷ l) m))

  -- those that are left out would change nothing
  pub new_same : (l Γ : Hyps) → G (with_new Γ l) ≡ G (Γ ++ l)
  new_same [] Γ = ap G (sym (append-nil Γ))
  new_same (h ∷ l) Γ = new_same l (added (find_hyp Γ h.0) Γ h) ∙ go (find_hyp Γ h.0) refl
    where
      go : (o : Option Tree) → find_hyp Γ h.0 ≡ o → G (added o Γ h ++ l) ≡ G (Γ ++ h ∷ l)
      go (Some p) q = u Γ l h (found_has Γ h.0 p q)
      go None q = ap G (append_assoc Γ (h ∷ []) l)

  pub new_use : (m : Hyps) → IsUse (λ Γ. G (with_new Γ m))
  new_use m Γ l h q = new_same m (Γ ++ l) ∙ appended_use m Γ l h q ∙ sym (new_same m (Γ ++ h ∷ l))
