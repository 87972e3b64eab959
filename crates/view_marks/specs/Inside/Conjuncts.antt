-- The sides of conjunctions, and conjuncts that aren't easy, on ids.
use Rattle.std.specs.Prelude.{◌≡◌, ℕ, Bool, true, false, List, map, Option, Some, None}
use Rattle.term_table.specs.Table.{TableView, tree_at}
use Rattle.formula_tree.specs.Formulas.{Form, FAnd}
use Rattle.lf_terms.specs.Encoding.{form_encoding}
use Rattle.prover_ids.specs.Hypotheses.{AreHyps}
use Rattle.prover_ids.specs.Nodes.{IsJoin}
use Rattle.prover_ids.specs.declared.hypotheses.Hypothesis.{Hypothesis}
use Rattle.prover_ids.specs.declared.nodes.Sides.{Sides}
use Rattle.prover_class.specs.Hypotheses.{Hyps}
use Rattle.view_marks.specs.Hints.{hard_parts}

-- whether the formula is a conjunction
abbrev pub is_conjunction : Form → Bool
is_conjunction (FAnd A B) = true
is_conjunction A = false

-- the ids stand for the sides of the formula, or it is no conjunction
abbrev pub HasSides : TableView → Form → Option Sides → Type 0
HasSides t A None = is_conjunction A ≡ false
HasSides t A (Some s) = IsJoin t A FAnd s.left s.right

-- the ids stand for the conjuncts of the goal that aren't easy, whatever goal and hypotheses the other
-- ids stand for
abbrev pub AreHardParts : Bool → TableView → TableView → List Hypothesis → ℕ → List ℕ → Type 0
AreHardParts counted t u hyps goal parts =
    (Γ : Hyps) (A : Form) → AreHyps t hyps Γ → tree_at t goal ≡ form_encoding A
    → map (tree_at u) parts ≡ map form_encoding (hard_parts counted Γ A)
