-- Which variables a term lacks, and what is kept of that.
use Rattle.std.specs.Prelude.{◌≡◌, ◌≢◌, ℕ, suc, ◌≤◌, ◌<◌, ◌⊎◌, true, Bool, Some}
use Rattle.std.specs.BTreeMap.{get}
use Rattle.term_table.specs.Tree.{Tree, Var, Con, App, Lam, Fam, TApp, Pi}
use Rattle.term_table.specs.Table.{TableView, IsKnown, tree_at}
use Rattle.lf_encode.specs.PutTree.{MachineTerms, put_for}
use Rattle.gate_match.specs.declared.uses.Place.{Place}
use Rattle.gate_match.specs.declared.uses.Uses.{Uses}
use Rattle.gate_match.specs.contracts.uses.PlaceOrd.TheImpl as block

-- the variable doesn't occur in the term; types, which no term holds, count for nothing
abbrev pub IsFreeOf : ℕ → Tree → Type 0
IsFreeOf n (Var m) = m ≢ n
IsFreeOf n (Con c) = Unit {0}
IsFreeOf n (App f a) = IsFreeOf n f × IsFreeOf n a
IsFreeOf n (Lam b) = IsFreeOf (suc n) b
IsFreeOf n (Fam a) = Unit {0}
IsFreeOf n (TApp q a) = Unit {0}
IsFreeOf n (Pi a b) = Unit {0}

-- the machine's variable stands for itself, or doesn't occur
abbrev pub IsIdle : ℕ → MachineTerms → Tree → Type 0
IsIdle k p t = (put_for p k ≡ Var k) ⊎ IsFreeOf k t

-- so does each of the machine's variables from this one on
abbrev pub AreIdleFrom : ℕ → MachineTerms → Tree → Type 0
AreIdleFrom k p t = (j : ℕ) → k ≤ j → j < 33 → IsIdle j p t

-- of a kept answer: where it is true, the place's term lacks the place's variable
abbrev pub IsRow : TableView → Place → Bool → Type 0
IsRow t place lacks = IsKnown t place.id × (lacks ≡ true → IsFreeOf place.variable (tree_at t place.id))

-- each kept answer is right
pub record AreUses (t : TableView) (uses : Uses) : Type 0 where
  pub each : (place : Place) (lacks : Bool) → get block.ghosts.cmp uses.rows place ≡ Some lacks → IsRow t place lacks
