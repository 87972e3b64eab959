-- The parts of a condition, on ids.
use Rattle.std.specs.Prelude.{◌≡◌, List, [], ◌∷◌, Option, Some, None}
use Rattle.term_table.specs.Table.{TableView, tree_at}
use Rattle.formula_tree.specs.Formulas.{Form}
use Rattle.lf_terms.specs.Encoding.{form_encoding}
use Rattle.prover_class.specs.Parts.{conjoined}
use Rattle.prover_conditions.specs.declared.parts.Conjunction.{Conjunction}

-- the first of the parts and the rest; none where there are none
abbrev pub AreFirstAndRest : TableView → List Form → Option Conjunction → Type 0
AreFirstAndRest t [] None = Unit {0}
AreFirstAndRest t [] (Some c) = ⊥
AreFirstAndRest t (A ∷ l) None = ⊥
AreFirstAndRest t (A ∷ l) (Some c) = (tree_at t c.first ≡ form_encoding A) × (tree_at t c.rest ≡ form_encoding (conjoined l))
