-- Where hereditary substitution has no result on well-typed input: a variable on the way would reach 2 ^ 32.
-- Harper and Licata, Mechanizing Metatheory in a Logical Framework, JFP 2007, section 2; variables have no bound there.
use Rattle.std.specs.Prelude.{◌≡◌, ℕ, suc, false, Option, List}
use Rattle.term_table.specs.Tree.{Tree, App, Lam, shift, fits, Const}
use Rattle.term_table.specs.Subst.{Simple, Arrow, HSub, Meets}
use Rattle.lf_signature.specs.Simply.{SChecks}

-- Below a binder the term m that is put no longer fits. The binder is the term's own, or one further in, or one of a body that the
-- substitution opens, where an argument of the variable is put into what stands for it.
pub data Overflows : Simple → Tree → ℕ → Tree → Type 0 where
  over_here : {s : Simple} {m : Tree} {x : ℕ} {b : Tree} →
      fits (shift 1 0 m) ≡ false → Overflows s m x (Lam b)
  over_in : {s : Simple} {m : Tree} {x : ℕ} {b : Tree} →
      Overflows s (shift 1 0 m) (suc x) b → Overflows s m x (Lam b)
  over_fun : {s : Simple} {m : Tree} {x : ℕ} {f a : Tree} →
      Overflows s m x f → Overflows s m x (App f a)
  over_arg : {s : Simple} {m : Tree} {x : ℕ} {f a : Tree} →
      Overflows s m x a → Overflows s m x (App f a)
  over_met : {s s₁ s₂ : Simple} {m : Tree} {x : ℕ} {f b a a' : Tree} →
      Meets s m x f (Lam b) (Arrow s₁ s₂) → HSub s m x a a' → Overflows s₁ a' 0 b →
      Overflows s m x (App f a)

-- m put for the variable x at the simple type s in n has exactly one result, which checks at the simple type t
pub record HasOneResult (sig : Const → Option Simple) (ctx : List Simple) (s : Simple) (m : Tree) (x : ℕ) (n : Tree) (t : Simple) : Type 0 where
  pub out : Tree
  pub result : HSub s m x n out
  pub only : (other : Tree) → HSub s m x n other → other ≡ out
  pub checks : SChecks sig ctx out t
