-- Implications without their premises, on ids.
use Rattle.std.specs.Prelude.{◌≡◌, ℕ, Option, Some, None}
use Rattle.term_table.specs.Table.{TableView, tree_at}
use Rattle.formula_tree.specs.Formulas.{Form, FAll}
use Rattle.lf_terms.specs.Encoding.{form_encoding}
use Rattle.lf_signature.specs.Nodes.{IsIdOf}
use Rattle.view_marks.specs.Halves.{conclusion_alone}

-- an id, or none, stands for a formula, or none
abbrev pub IsFormOption : TableView → Option Form → Option ℕ → Type 0
IsFormOption t o None = o ≡ None
IsFormOption t None (Some id) = ⊥
IsFormOption t (Some F) (Some id) = IsIdOf t (form_encoding F) id

-- the answer has tt as the premise of whatever implication the id stands for
abbrev pub IsAlone : TableView → TableView → ℕ → Option ℕ → Type 0
IsAlone t u id o =
    (F : Form) → tree_at t id ≡ form_encoding F → IsFormOption u (conclusion_alone F) o

-- the same where the id stands for what is quantified
abbrev pub IsBodyAlone : TableView → TableView → ℕ → Option ℕ → Type 0
IsBodyAlone t u body o =
    (B : Form) → tree_at t body ≡ form_encoding B → IsFormOption u (conclusion_alone (FAll B)) o
