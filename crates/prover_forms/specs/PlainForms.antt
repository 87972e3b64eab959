-- What kept normal forms without proofs say of a table's trees.
use Rattle.std.specs.Prelude.{◌≡◌, ℕ}
use Rattle.term_table.specs.Table.{TableView, IsKnown, tree_at}
use Rattle.formula_tree.specs.Formulas.{Exp}
use Rattle.lf_terms.specs.Encoding.{exp_encoding}
use Rattle.prover_ids.specs.Kept.{AreRight}
use Rattle.prover_ids.specs.declared.kept.Kept.{Kept}
use Rattle.prover_class.specs.NormalForms.{normal_form}
use Rattle.prover_forms.specs.declared.plain_forms.ExpAt.{ExpAt}
use Rattle.prover_forms.specs.contracts.plain_forms.ExpAtOrd.TheImpl as block

-- both ids are the table's, and the second stands for the normal form of whatever expression the first stands for
pub record IsPlainForm (t : TableView) (place : ExpAt) (form : ℕ) : Type 0 where
  pub of : IsKnown t place.id
  pub known : IsKnown t form
  pub is : (x : Exp) → tree_at t place.id ≡ exp_encoding x → tree_at t form ≡ exp_encoding (normal_form place.outside x).now

-- each kept normal form is right
abbrev pub ArePlainForms : TableView → Kept ExpAt ℕ → Type 0
ArePlainForms t kept = AreRight block.ghosts.cmp IsPlainForm t kept
