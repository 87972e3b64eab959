-- What rewritten expressions and kept normal forms say of a table's trees.
use Rattle.std.specs.Prelude.{◌≡◌, ℕ}
use Rattle.term_table.specs.Table.{TableView, IsKnown, tree_at}
use Rattle.formula_tree.specs.Formulas.{Exp}
use Rattle.lf_terms.specs.Encoding.{exp_encoding}
use Rattle.prover_ids.specs.Kept.{AreRight}
use Rattle.prover_ids.specs.declared.kept.Kept.{Kept}
use Rattle.prover_class.specs.NormalForms.{normal_form}
use Rattle.prover_class.specs.NormalForms as class
use Rattle.prover_sums.specs.declared.equations.Place.{Place}
use Rattle.prover_sums.specs.declared.equations.Rewritten.{Rewritten}
use Rattle.prover_sums.specs.contracts.equations.PlaceOrd.TheImpl as block

-- an expression with a proof, as plain data
abbrev pub RewrittenExp : Type 0
RewrittenExp = class.Rewritten

-- both ids are the table's
pub record IsKnownRewritten (t : TableView) (r : Rewritten) : Type 0 where
  pub now : IsKnown t r.now
  pub proof : IsKnown t r.proof

-- the ids stand for the expression and its proof
pub record IsRewritten (t : TableView) (r : Rewritten) (x : RewrittenExp) : Type 0 where
  pub now : tree_at t r.now ≡ exp_encoding x.now
  pub proof : tree_at t r.proof ≡ x.proof

-- the row is of the table, and is the normal form of whatever expression the place's id stands for
pub record IsNormalForm (t : TableView) (place : Place) (r : Rewritten) : Type 0 where
  pub of : IsKnown t place.id
  pub known : IsKnownRewritten t r
  pub is : (x : Exp) → tree_at t place.id ≡ exp_encoding x → IsRewritten t r (normal_form place.outside x)

-- the ids of an expression and of a proof, as one
abbrev pub pair_of : ℕ → ℕ → Rewritten
pair_of now proof = record { now = now; proof = proof }

-- each kept normal form is right
abbrev pub AreNormalForms : TableView → Kept Place Rewritten → Type 0
AreNormalForms t kept = AreRight block.ghosts.cmp IsNormalForm t kept
