-- Refutations, found one hypothesis after another.
use Rattle.std.proofs.Common.{◌≡◌, ◌<◌, ◌≤◌, ◌+◌, ℕ, zero, suc, Option, None, List, [], ◌∷◌, length, get_or, drop, refl, ◌∙◌, ap, subst, arith}
use Rattle.std.proofs.Math.Seq.{drop-cons}
use Rattle.std.proofs.lemmas.List.{drop_all}
use Rattle.term_table.specs.Tree.{Tree, Var}
use Rattle.term_table.specs.Table.{TableView, tree_at}
use Rattle.formula_tree.specs.Formulas.{Form, FTrue}
use Rattle.lf_terms.specs.Encoding.{form_encoding}
use Rattle.prover_ids.specs.declared.hypotheses.Hypothesis.{Hypothesis}
use Rattle.prover_ids.specs.Hypotheses.{AreHyps}
use Rattle.prover_class.specs.Hypotheses.{Hyps}
use Rattle.prover_class.specs.Goals.{first_of, refute, refuted}
use Rattle.prover_hyps.specs.Inside.Refutations.{StandsRefuted, IsRefutation}
use Rattle.prover_hyps.specs.declared.refuting.Refutation.{Refutation}

abbrev no_hyp : Form × Tree
no_hyp = (FTrue, Var 0)

hyps-length : (t : TableView) (l : List Hypothesis) (Γ : Hyps) → AreHyps t l Γ → length Γ ≡ length l
hyps-length t [] [] h = refl
hyps-length t [] (x ∷ Γ) h = absurd h
hyps-length t (y ∷ l) [] h = absurd h
hyps-length t (y ∷ l) (x ∷ Γ) h = ap suc (hyps-length t l Γ h.2)

hyps-at : (t : TableView) (l : List Hypothesis) (Γ : Hyps) (i : ℕ) (d : Hypothesis) → AreHyps t l Γ → i < length l →
    (tree_at t (get_or l i d).form ≡ form_encoding (get_or Γ i no_hyp).0) × (tree_at t (get_or l i d).proof ≡ (get_or Γ i no_hyp).1)
hyps-at t [] Γ i d h n = absurd (omega (arith, n))
hyps-at t (y ∷ l) [] i d h n = absurd h
hyps-at t (y ∷ l) (x ∷ Γ) zero d h n = (h.0, h.1)
hyps-at t (y ∷ l) (x ∷ Γ) (suc i) d h n = hyps-at t l Γ i d h.2 (omega (arith, n))

-- the hypothesis at i, as a refutation or none
pub refuted-at : (t : TableView) (l : List Hypothesis) (Γ : Hyps) (i : ℕ) (d e : Hypothesis) (r : Option Refutation) → AreHyps t l Γ → i < length l →
    ((A : Form) → tree_at t (get_or l i d).form ≡ form_encoding A → StandsRefuted t (refute Γ A (tree_at t (get_or l i e).proof)) r) →
    (o : Option Tree) × StandsRefuted t o r × (refuted Γ (drop i Γ) ≡ first_of o (refuted Γ (drop (i + 1) Γ)))
refuted-at t l Γ i d e r h n f =
    let x = get_or Γ i no_hyp in
    let next : suc i ≡ i + 1 = omega arith in (
      refute Γ x.0 x.1,
      subst (λ p. StandsRefuted t (refute Γ x.0 p) r) (hyps-at t l Γ i e h n).1 (f x.0 (hyps-at t l Γ i d h n).0),
      ap (refuted Γ) (drop-cons Γ i no_hyp (omega (arith, n, hyps-length t l Γ h))) ∙ ap (λ k. first_of (refute Γ x.0 x.1) (refuted Γ (drop k Γ))) next,
    )

pub refuted-here : (t : TableView) (o u : Option Tree) (r : Refutation) → IsRefutation t o r → IsRefutation t (first_of o u) r
refuted-here t o u r h = record { formula = h.formula; form = h.form; is = ap (λ z. first_of z u) h.is }

pub refuted-end : (t : TableView) (l : List Hypothesis) (Γ : Hyps) (i : ℕ) → AreHyps t l Γ → length l ≤ i → refuted Γ (drop i Γ) ≡ None
refuted-end t l Γ i h n = ap (refuted Γ) (drop_all i Γ (omega (arith, n, hyps-length t l Γ h)))
