-- Hypotheses as ids and as formulas with proofs, one after another.
use Rattle.std.proofs.Common.{◌≡◌, ℕ, ◌==◌, Bool, true, false, cond, Option, Some, None, IfSome, List, [], ◌∷◌, ◌++◌, refl, sym, ◌∙◌, ap, subst, eqb-true, eq-eqb}
use Rattle.term_table.specs.Tree.{Tree}
use Rattle.term_table.specs.Equality.{tree_eq}
use Rattle.term_table.specs.Table.{TableView, IsKnown, tree_at, AreDifferent, Stands}
use Rattle.term_table.proofs.Equality.{tree_eq_refl, tree_eq-true}
use Rattle.formula_tree.specs.Formulas.{Form}
use Rattle.lf_terms.specs.Encoding.{form_encoding}
use Rattle.prover_ids.specs.declared.hypotheses.Hypothesis.{Hypothesis}
use Rattle.prover_ids.specs.Hypotheses.{AreKnownHyps, AreHyps}
use Rattle.prover_class.specs.Hypotheses.{Hyps, same_form, find_hyp, added}
use Rattle.prover_hyps.specs.Places.{first_hyp_proof}

known-append : (t : TableView) (l m : List Hypothesis) → AreKnownHyps t l → AreKnownHyps t m → AreKnownHyps t (l ++ m)
known-append t [] m k n = n
known-append t (h ∷ l) m k n = (k.0, k.1, known-append t l m k.2 n)

hyps-append : (t : TableView) (l m : List Hypothesis) (Γ Δ : Hyps) → AreHyps t l Γ → AreHyps t m Δ → AreHyps t (l ++ m) (Γ ++ Δ)
hyps-append t [] m [] Δ h g = g
hyps-append t [] m (x ∷ Γ) Δ h g = absurd h
hyps-append t (y ∷ l) m [] Δ h g = absurd h
hyps-append t (y ∷ l) m (x ∷ Γ) Δ h g = (h.0, h.1, hyps-append t l m Γ Δ h.2 g)

-- one more at the end
pub known-push : (t : TableView) (l m : List Hypothesis) (h : Hypothesis) → AreKnownHyps t l → IsKnown t h.form → IsKnown t h.proof → m ≡ l ++ h ∷ [] → AreKnownHyps t m
known-push t l m h k f p e = subst (AreKnownHyps t) (sym e) (known-append t l (h ∷ []) k (f, p, tt))

pub hyps-push : (t : TableView) (l m : List Hypothesis) (h : Hypothesis) (Γ : Hyps) (A : Form) → AreHyps t l Γ → tree_at t h.form ≡ form_encoding A → m ≡ l ++ h ∷ [] → AreHyps t m (Γ ++ (A, tree_at t h.proof) ∷ [])
hyps-push t l m h Γ A k f e =
    subst (λ z. AreHyps t z (Γ ++ (A, tree_at t h.proof) ∷ [])) (sym e) (hyps-append t l (h ∷ []) Γ ((A, tree_at t h.proof) ∷ []) k (f, refl, tt))

-- two formulas are equal where their ids are
same-ids : (t : TableView) (i j : ℕ) (A B : Form) → AreDifferent t.trees → IsKnown t i → IsKnown t j → tree_at t i ≡ form_encoding A → tree_at t j ≡ form_encoding B → same_form A B ≡ (i == j)
same-ids t i j A B d k l a b = go (i == j) refl (same_form A B) refl
  where
    go : (x : Bool) → (i == j) ≡ x → (y : Bool) → same_form A B ≡ y → y ≡ x
    go true e true f = refl
    go false e false f = refl
    go true e false f =
        let s : form_encoding A ≡ form_encoding B = sym a ∙ ap (tree_at t) (eqb-true i j e) ∙ b in
        let g : same_form A B ≡ true = ap (λ z. tree_eq (form_encoding A) z) (sym s) ∙ tree_eq_refl (form_encoding A) in
        sym f ∙ g
    go false e true f =
        let s : i ≡ j = d i j k l (a ∙ tree_eq-true (form_encoding A) (form_encoding B) f ∙ sym b) in
        sym (eq-eqb i j s) ∙ e

-- the first proof by the id is the first by the formula
pub found : (t : TableView) (l : List Hypothesis) (Γ : Hyps) (A : Form) (i : ℕ) → AreDifferent t.trees → AreKnownHyps t l → IsKnown t i → AreHyps t l Γ → tree_at t i ≡ form_encoding A → Stands t (find_hyp Γ A) (first_hyp_proof l i)
found t [] [] A i d k n h a = refl
found t [] (x ∷ Γ) A i d k n h a = absurd h
found t (y ∷ l) [] A i d k n h a = absurd h
found t (y ∷ l) (x ∷ Γ) A i d k n h a =
    subst (λ b. Stands t (cond b (Some x.1) (find_hyp Γ A)) (first_hyp_proof (y ∷ l) i)) (sym (same-ids t y.form i x.0 A d k.0 n h.0 a)) (go (y.form == i) (found t l Γ A i d k.2 n h.2 a))
  where
    go : (b : Bool) → Stands t (find_hyp Γ A) (first_hyp_proof l i) → Stands t (cond b (Some x.1) (find_hyp Γ A)) (cond b (Some y.proof) (first_hyp_proof l i))
    go true s = (k.1, ap Some (sym h.1))
    go false s = s

pub found-known : (t : TableView) (l : List Hypothesis) (i : ℕ) → AreKnownHyps t l → IfSome (first_hyp_proof l i) (IsKnown t)
found-known t [] i k = tt
found-known t (y ∷ l) i k = go (y.form == i) (found-known t l i k.2)
  where
    go : (b : Bool) → IfSome (first_hyp_proof l i) (IsKnown t) → IfSome (cond b (Some y.proof) (first_hyp_proof l i)) (IsKnown t)
    go true s = k.1
    go false s = s

-- one that was found isn't added
pub added-old : (t : TableView) (l : List Hypothesis) (Γ : Hyps) (o : Option Tree) (p : ℕ) (h : Form × Tree) → Stands t o (Some p) → AreHyps t l Γ → AreHyps t l (added o Γ h)
added-old t l Γ o p h s a = subst (λ z. AreHyps t l (added z Γ h)) (sym s.1) a

-- one that wasn't found is
pub added-new : (t : TableView) (l m : List Hypothesis) (Γ : Hyps) (o : Option Tree) (h : Hypothesis) (A : Form) → Stands t o None → AreHyps t l Γ → tree_at t h.form ≡ form_encoding A → m ≡ l ++ h ∷ [] → AreHyps t m (added o Γ (A, tree_at t h.proof))
added-new t l m Γ o h A s a f e = subst (λ z. AreHyps t m (added z Γ (A, tree_at t h.proof))) (sym s) (hyps-push t l m h Γ A a f e)
