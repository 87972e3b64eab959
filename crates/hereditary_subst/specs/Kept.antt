-- What kept results say of a table's trees.
use Rattle.std.specs.Prelude.{◌≡◌, ℕ, Option, Some, None}
use Rattle.std.specs.BTreeMap.{get}
use Rattle.term_table.specs.Tree.{Tree, shift, shifted}
use Rattle.term_table.specs.Subst.{erase, hsub, hsub_type}
use Rattle.term_table.specs.Table.{TableView, IsKnown, tree_at}
use Rattle.hereditary_subst.specs.Heads.{MetIs}
use Rattle.hereditary_subst.specs.declared.kept.Question.{Question}
use Rattle.hereditary_subst.specs.declared.kept.Question.TheVariants as Q
use Rattle.hereditary_subst.specs.declared.kept.Row.{Row}
use Rattle.hereditary_subst.specs.declared.kept.Memo.{Memo}
use Rattle.hereditary_subst.specs.contracts.kept.QuestionOrd.TheImpl as block

-- the id, if there is one, stands for a tree that becomes this one where one more binder stands outside the x nearest
abbrev pub Lowers : TableView → ℕ → Tree → Option ℕ → Type 0
Lowers t x tree None = Unit {0}
Lowers t x tree (Some r) = IsKnown t r × (shift 1 x (tree_at t r) ≡ tree)

-- the same as it is kept: an id says that nothing is known
abbrev pub LowersTo : TableView → ℕ → Tree → ℕ → Option ℕ → Type 0
LowersTo t x tree r None = shift 1 x (tree_at t r) ≡ tree
LowersTo t x tree r (Some u) = Unit {0}

-- an id, if there is one, is of the table
abbrev pub IfKnown : TableView → Option ℕ → Type 0
IfKnown t None = Unit {0}
IfKnown t (Some id) = IsKnown t id

-- the ids of an answer
pub record AreKnownIds (t : TableView) (r : ℕ) (u : Option ℕ) : Type 0 where
  pub term : IsKnown t r
  pub met : IfKnown t u

-- the answer is right of the question
abbrev pub Tells : TableView → Question → ℕ → Option ℕ → Type 0
Tells t (Q.Shift by from id) r met = IsKnown t id × (shifted by from (tree_at t id) ≡ Some (tree_at t r))
Tells t (Q.Lower x id) r met = IsKnown t id × LowersTo t x (tree_at t id) r met
Tells t (Q.Head m id x ty) r met = IsKnown t id × IsKnown t m × IsKnown t ty × MetIs t ty (erase (tree_at t ty)) (tree_at t m) x (tree_at t id) (tree_at t r) met
Tells t (Q.Under m id x ty) r met = IsKnown t id × IsKnown t m × IsKnown t ty × (hsub (erase (tree_at t ty)) (tree_at t m) x (tree_at t id) ≡ Some (tree_at t r))
Tells t (Q.Type m id x ty) r met = IsKnown t id × IsKnown t m × IsKnown t ty × (hsub_type (erase (tree_at t ty)) (tree_at t m) x (tree_at t id) ≡ Some (tree_at t r))

-- the answer is of the table, and right of the question
pub record Says (t : TableView) (q : Question) (r : ℕ) (u : Option ℕ) : Type 0 where
  pub known : AreKnownIds t r u
  pub tells : Tells t q r u

-- each kept result is right of the table
pub record IsMemo (t : TableView) (m : Memo) : Type 0 where
  pub each : (q : Question) (r : Row) → get block.ghosts.cmp m.rows q ≡ Some r → Says t q r.term r.met
