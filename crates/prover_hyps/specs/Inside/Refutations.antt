-- Proofs of falsity by two hypotheses.
use Rattle.std.specs.Prelude.{◌≡◌, Option, Some, None}
use Rattle.term_table.specs.Tree.{Tree}
use Rattle.term_table.specs.Table.{TableView, IsKnown, tree_at}
use Rattle.formula_tree.specs.Formulas.{Form, FFalse}
use Rattle.lf_terms.specs.Encoding.{form_encoding}
use Rattle.lf_terms.specs.ProofTerms.{imp_e}
use Rattle.prover_hyps.specs.declared.refuting.Refutation.{Refutation}

-- the ids of a refutation
pub record IsKnownRefutation (t : TableView) (r : Refutation) : Type 0 where
  pub form : IsKnown t r.form
  pub denial : IsKnown t r.denial
  pub proof : IsKnown t r.proof

-- the refutation gives this proof of falsity
pub record IsRefutation (t : TableView) (o : Option Tree) (r : Refutation) : Type 0 where
  pub formula : Form
  pub form : tree_at t r.form ≡ form_encoding formula
  pub is : o ≡ Some (imp_e formula FFalse (tree_at t r.denial) (tree_at t r.proof))

-- a refutation, or none, gives this proof, or none
abbrev pub StandsRefuted : TableView → Option Tree → Option Refutation → Type 0
StandsRefuted t o None = o ≡ None
StandsRefuted t o (Some r) = IsRefutation t o r
