-- The formula of a lemma, as the code finds it.
use Rattle.std.proofs.Common.{◌≡◌, ℕ, zero, suc, Option, Some, None, List, [], ◌∷◌, slice_get, refl, sym, ◌∙◌, ap, subst, option_map}
use Rattle.term_table.specs.Tree.{Tree, Const, at}
use Rattle.term_table.specs.Table.{TableView, IsKnown, tree_at}
use Rattle.term_table.specs.declared.Node.{Node}
use Rattle.term_table.specs.declared.Node.TheVariants as N
use Rattle.term_table.proofs.Options.{some_injective}
use Rattle.lf_signature.specs.Nodes.{IsIdOf, type_at}
use Rattle.lf_signature.specs.Terms.{pf}
use Rattle.lf_lemmas.specs.Lemmas.{formulas_of, with_lemmas}
use Rattle.lf_lemmas.specs.Tables.{lemmas_in, LemmasKnown}

at_lemma : (t : TableView) (l : List (ℕ × ℕ)) (n : ℕ) →
    at (formulas_of (lemmas_in t l)) n
    ≡ option_map (tree_at t) (option_map (λ p. p.0) (slice_get l n))
at_lemma t [] zero = refl
at_lemma t [] (suc n) = refl
at_lemma t (p ∷ l) zero = refl
at_lemma t (p ∷ l) (suc n) = at_lemma t l n

pub lemma_known : (t : TableView) (l : List (ℕ × ℕ)) (n form : ℕ) →
    Some form ≡ option_map (λ p. p.0) (slice_get l n) → LemmasKnown t l → IsKnown t form
lemma_known t [] zero form e h = cc
lemma_known t [] (suc n) form e h = cc
lemma_known t (p ∷ l) zero form e h = subst (IsKnown t) (sym (some_injective e)) h.0
lemma_known t (p ∷ l) (suc n) form e h = lemma_known t l n form e h.2

module _ (sig : Const → Option Tree) (t : TableView) (l : List (ℕ × ℕ)) (n : ℕ) (constant : Node)
    (is : constant ≡ N.Lemma n) where
  abbrev type_with : Option Tree
  type_with = type_at (with_lemmas sig (formulas_of (lemmas_in t l))) constant

  type_is : (o : Option ℕ) → o ≡ option_map (λ p. p.0) (slice_get l n) →
      type_with ≡ option_map pf (option_map (tree_at t) o)
  type_is o e =
      ap (type_at (with_lemmas sig (formulas_of (lemmas_in t l)))) is
      ∙ ap (option_map pf) (at_lemma t l n ∙ ap (option_map (tree_at t)) (sym e))

  pub lemma_none : None ≡ option_map (λ p. p.0) (slice_get l n) → type_with ≡ None
  lemma_none e = type_is None e

  pub lemma_some : (u : TableView) (form id : ℕ) →
      Some form ≡ option_map (λ p. p.0) (slice_get l n) → IsIdOf u (pf (tree_at t form)) id →
      IsKnown u id × (type_with ≡ Some (tree_at u id))
  lemma_some u form id e h = (h.known, type_is (Some form) e ∙ ap Some (sym h.is))
