-- What a comparison of two trees answers, by the comparison of their parts.
use Rattle.std.proofs.Common.{◌≡◌, ◌↔◌, Bool, true, false, IsTrue, Result, IfOk, sym, ◌∙◌, subst}
use Rattle.std.proofs.lemmas.Bool.{false≢true}
use Rattle.std.proofs.lemmas.Result.{IfOk-weaker}
use Rattle.term_table.specs.Tree.{Tree, App}

-- a tree is made in this way of one first part and one second part
pub record IsOneToOne (make : Tree → Tree → Tree) : Type 0 where
  pub first : (a b p q : Tree) → make a b ≡ make p q → a ≡ p
  pub second : (a b p q : Tree) → make a b ≡ make p q → b ≡ q

module _ (make : Tree → Tree → Tree) (one : IsOneToOne make) (tree a b p q : Tree) (is : tree ≡ make a b) where
  -- another first part
  pub apart-first : (s : Bool) → IsTrue s ↔ (a ≡ p) → s ≡ false → IsTrue false ↔ (tree ≡ make p q)
  apart-first s h e = (λ k. absurd (false≢true k), λ k. absurd (false≢true (sym e ∙ h.1 (one.first a b p q (sym is ∙ k)))))

  -- the same first part: the second one decides
  pub by-second : (s r : Bool) → IsTrue s ↔ (a ≡ p) → s ≡ true → IsTrue r ↔ (b ≡ q) → IsTrue r ↔ (tree ≡ make p q)
  by-second s r h e k = (λ x. is ∙ (λ i. make (h.0 e i) (k.0 x i)), λ x. k.1 (one.second a b p q (sym is ∙ x)))

  pub ok-by-second : {E : Type 0} (s : Bool) (r : Result Bool E) → IsTrue s ↔ (a ≡ p) → s ≡ true → IfOk r (λ x. IsTrue x ↔ (b ≡ q)) → IfOk r
      (λ x. IsTrue x ↔ (tree ≡ make p q))
  ok-by-second s r h e k = IfOk-weaker r (λ x. IsTrue x ↔ (b ≡ q)) (λ x. IsTrue x ↔ (tree ≡ make p q)) (λ x. by-second s x h e) k

-- an answer about two trees is one about trees that equal them
pub answer-of : {E : Type 0} (r : Result Bool E) (u v x y : Tree) → u ≡ v → x ≡ y → IfOk r (λ b. IsTrue b ↔ (u ≡ x)) → IfOk r (λ b. IsTrue b ↔ (v ≡ y))
answer-of r u v x y d e h = subst (λ w. IfOk r (λ b. IsTrue b ↔ (w ≡ y))) d (subst (λ z. IfOk r (λ b. IsTrue b ↔ (u ≡ z))) e h)

pub one-answer : (b : Bool) (u v x y : Tree) → u ≡ v → x ≡ y → IsTrue b ↔ (u ≡ x) → IsTrue b ↔ (v ≡ y)
one-answer b u v x y d e h = subst (λ w. IsTrue b ↔ (w ≡ y)) d (subst (λ z. IsTrue b ↔ (u ≡ z)) e h)

-- ---- applications and abstractions

app-first : (a b p q : Tree) → App a b ≡ App p q → a ≡ p
app-first a b p q e = cc

app-second : (a b p q : Tree) → App a b ≡ App p q → b ≡ q
app-second a b p q e = cc

pub app-one : IsOneToOne App
app-one = record { first = app-first; second = app-second }
