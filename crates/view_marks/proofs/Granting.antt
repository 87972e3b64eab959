-- Implications without their premises, and what they grant.
use Rattle.std.proofs.Common.{◌≡◌, ℕ, Option, Some, None, refl}
use Rattle.term_table.specs.Table.{TableView}
use Rattle.formula_tree.specs.Formulas.{Form}
use Rattle.lf_terms.specs.Encoding.{form_encoding}
use Rattle.lf_signature.specs.Nodes.{IsIdOf}
use Rattle.view_marks.specs.Inside.Halves.{IsFormOption}

-- a formula that is there
pub form_some : (u : TableView) (o : Option Form) (id : ℕ) → IsFormOption u o (Some id)
    → (F : Form) × (o ≡ Some F) × IsIdOf u (form_encoding F) id
form_some u None id h = absurd h
form_some u (Some F) id h = (F, refl, h)
