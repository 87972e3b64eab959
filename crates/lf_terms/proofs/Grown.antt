-- What stands in a table stands in each later one.
use Rattle.std.proofs.Common.{◌≡◌, Some, ℕ, zero, suc, ◌<◌, ◌≤◌, List, [], ◌∷◌, refl, ◌∙◌, ap, get_or, length, arith}
use Rattle.term_table.specs.Tree.{Tree, Fam, TApp}
use Rattle.term_table.specs.Table.{TableView, AllKnown, Extends}
use Rattle.term_table.specs.Subst.{Base, hsub, hsub_type}
use Rattle.term_table.proofs.Options.{map_some}
use Rattle.lf_signature.specs.Terms.{truth, pf}
use Rattle.lf_signature.specs.Nodes.{IsIdOf}
use Rattle.lf_terms.specs.Plain.{plain_subst}
use Rattle.lf_terms.specs.Instance.{nth_arg}
use Rattle.lf_terms.proofs.Walks.{hsub_base}
use Rattle.lf_terms.specs.Instance.{trees_of}

pub extends_trans : (t u v : TableView) → Extends t u → Extends u v → Extends t v
extends_trans t u v x y =
    record { longer = omega (arith, x.longer, y.longer); same = λ i h. y.same i (omega (arith, h, x.longer)) ∙ x.same i h; places = y.places ∙ x.places }

pub known-more : (t u : TableView) (ids : List ℕ) → AllKnown t ids → Extends t u → AllKnown u ids
known-more t u [] k x = tt
known-more t u (i ∷ ids) k x = (omega (arith, k.0, x.longer), known-more t u ids k.1 x)

pub trees-same : (t u : TableView) (ids : List ℕ) → AllKnown t ids → Extends t u → trees_of u ids ≡ trees_of t ids
trees-same t u [] k x = refl
trees-same t u (i ∷ ids) k x = λ j. x.same i k.0 j ∷ trees-same t u ids k.1 x j

pub trees-length : (t : TableView) (ids : List ℕ) → length (trees_of t ids) ≡ length ids
trees-length t [] = refl
trees-length t (i ∷ ids) = ap suc (trees-length t ids)

pub nth-known : (t : TableView) (ids : List ℕ) (n d : ℕ) → AllKnown t ids → n < length ids → IsIdOf t (nth_arg (trees_of t ids) n) (get_or ids n d)
nth-known t [] n d k h = absurd (omega (arith, h))
nth-known t (i ∷ ids) zero d k h = record { known = k.0; is = refl }
nth-known t (i ∷ ids) (suc n) d k h = nth-known t ids n d k.1 (omega (arith, h))

pub nth-past : (t : TableView) (ids : List ℕ) (n : ℕ) → length ids ≤ n → nth_arg (trees_of t ids) n ≡ truth
nth-past t [] n h = refl
nth-past t (i ∷ ids) zero h = absurd (omega (arith, h))
nth-past t (i ∷ ids) (suc n) h = nth-past t ids n (omega (arith, h))

-- a formula with a term put in is the type's goal
pub put_goal : (f : ℕ) (m b p a : Tree) → hsub_type (Base f) m 0 (pf b) ≡ Some (TApp p a) → a ≡ plain_subst m 0 b
put_goal f m b p a e =
    let w = map_some (hsub (Base f) m 0 b) (TApp (Fam 3)) (TApp p a) e in
    same w.0 w.2 ∙ hsub_base f m b w.0 w.1
  where
    same : (c : Tree) → TApp (Fam 3) c ≡ TApp p a → a ≡ c
    same c e = cc

pub ruleset grown = (known-more, trees-same, nth-past)
