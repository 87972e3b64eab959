-- What is computed is so in each state.
use Rattle.std.proofs.Common.{◌≡◌, ℕ, Bool, true, false, not, ◌||◌, true≢false, Option, Some, None, is_some, List, refl, sym, ◌∙◌, ap}
use Rattle.std.specs.Prelude.{unwrap_or}
use Rattle.word_ops.specs.declared.Op.{Op}
use Rattle.word_ops.specs.declared.Rel.{Rel}
use Rattle.word_ops.specs.Rights.{Rights}
use Rattle.word_ops.specs.Words.{word_of, test_of}
use Rattle.formula_tree.specs.Formulas.{Exp, EReg, ELeft, EVar, ELit, EOp, ESel, Form, FTrue, FFalse, FRel, FRd, FWr, FAnd, FOr, FImp, FAll, FAllm}
use Rattle.formula_tree.specs.Truth.{Valuation, Bound, exp_value, IsTrueIn}
use Rattle.view_values.specs.Values.{applied, closed_value, fails, is_false}

-- nothing is no word
none-some : {A : Type 0} (w : ℕ) → ◌≡◌ {A = Option ℕ} None (Some w) → A
none-some w e = let wrong : false ≡ true = ap is_some e in absurd (true≢false (sym wrong))

-- the word under a Some
some-is : (v w : ℕ) → ◌≡◌ {A = Option ℕ} (Some v) (Some w) → v ≡ w
some-is v w e = ap (λ (o : Option ℕ). unwrap_or o 0) e

-- an operator at what is computed of both sides
applied-is : (o : Op) (a b : Option ℕ) (x y w : ℕ) → applied o a b ≡ Some w
    → ((v : ℕ) → a ≡ Some v → x ≡ v) → ((v : ℕ) → b ≡ Some v → y ≡ v) → word_of o x y ≡ w
applied-is o None b x y w e f g = none-some w e
applied-is o (Some v) None x y w e f g = none-some w e
applied-is o (Some v) (Some u) x y w e f g =
    (λ i. word_of o (f v refl i) (g u refl i)) ∙ some-is (word_of o v u) w e

-- an expression has the word that is computed
value-is : (a : Exp) (v : Valuation) (ρ : List Bound) (w : ℕ) → closed_value a ≡ Some w
    → exp_value a v ρ ≡ w
value-is (EReg r) v ρ w e = none-some w e
value-is ELeft v ρ w e = none-some w e
value-is (EVar n) v ρ w e = none-some w e
value-is (ELit u) v ρ w e = some-is u w e
value-is (EOp o a b) v ρ w e =
    applied-is o (closed_value a) (closed_value b) (exp_value a v ρ) (exp_value b v ρ) w e
    (value-is a v ρ) (value-is b v ρ)
value-is (ESel m a) v ρ w e = none-some w e

-- what isn't true doesn't hold
not-true : (b : Bool) → not b ≡ true → b ≡ true → ⊥
not-true true n e = true≢false (sym n)
not-true false n e = true≢false (sym e)

-- a relation that fails of what is computed doesn't hold
fails-is : (p : Rel) (a b : Option ℕ) (x y : ℕ) → fails p a b ≡ true
    → ((v : ℕ) → a ≡ Some v → x ≡ v) → ((v : ℕ) → b ≡ Some v → y ≡ v)
    → test_of p x y ≡ true → ⊥
fails-is p None b x y e f g h = true≢false (sym e)
fails-is p (Some v) None x y e f g h = true≢false (sym e)
fails-is p (Some v) (Some u) x y e f g h =
    not-true (test_of p v u) e ((λ i. test_of p (sym (f v refl) i) (sym (g u refl) i)) ∙ h)

-- neither of two
neither : (a b : Bool) → a || b ≡ true → (a ≡ true → ⊥) → (b ≡ true → ⊥) → ⊥
neither true b e f g = f refl
neither false b e f g = g e

-- a formula that is false by computing isn't true
pub never-true : (R : Rights) (F : Form) (v : Valuation) (ρ : List Bound) → is_false F ≡ true
    → IsTrueIn R F v ρ → ⊥
never-true R FTrue v ρ e t = true≢false (sym e)
never-true R FFalse v ρ e t = t
never-true R (FRel p a b) v ρ e t =
    fails-is p (closed_value a) (closed_value b) (exp_value a v ρ) (exp_value b v ρ) e
    (value-is a v ρ) (value-is b v ρ) t
never-true R (FRd a) v ρ e t = true≢false (sym e)
never-true R (FWr a) v ρ e t = true≢false (sym e)
never-true R (FAnd A B) v ρ e t =
    neither (is_false A) (is_false B) e (λ i. never-true R A v ρ i t.0)
    (λ i. never-true R B v ρ i t.1)
never-true R (FOr A B) v ρ e t = true≢false (sym e)
never-true R (FImp A B) v ρ e t = true≢false (sym e)
never-true R (FAll A) v ρ e t = true≢false (sym e)
never-true R (FAllm A) v ρ e t = true≢false (sym e)
