-- The goals of a part as rows: how `condition_goals` lists them.
use Rattle.std.specs.Prelude.{◌≡◌, ℕ, ◌+◌, Bool, List, [], ◌∷◌, ◌++◌, map, All, Option}
use Rattle.alpha_words.specs.declared.insn.Insn.{Insn}
use Rattle.term_table.specs.Tree.{Tree}
use Rattle.term_table.specs.Table.{TableView, IsKnown, tree_at}
use Rattle.formula_tree.specs.Formulas.{Form}
use Rattle.lf_terms.specs.Encoding.{form_encoding}
use Rattle.lf_encode.specs.Contexts.{encoding_in}
use Rattle.vcgen.specs.Conditions.{AnnotatedCode, entry_part, inv_part}
use Rattle.vcgen.specs.Encoded.{context_of}
use Rattle.view_goals.specs.declared.rows.Why.{Why}
use Rattle.view_goals.specs.declared.rows.Row.{Row}
use Rattle.view_goals.specs.declared.rows.Row.TheVariants as row
use Rattle.view_goals.specs.declared.rows.PartRows.{PartRows}
use Rattle.view_goals.specs.Goals.{Goals, Goal, Both, Under, PartGoals, entry_goals, inv_goals}

-- A row: a goal by its index, why it is asked, its formula as a term and how many branches it
-- stands under; two that are both asked; or a branch by its index, whether it is taken, what is
-- then known and how many branches it stands under.
pub data RowView : Type 0 where
  GoalRow : ℕ → Why → Tree → ℕ → RowView
  BothRow : RowView
  UnderRow : ℕ → Bool → Tree → ℕ → RowView

-- a row of ids, by the trees that they stand for
abbrev pub row_view : TableView → Row → RowView
row_view t (row.Goal i w A d) = GoalRow i w (tree_at t A) d
row_view t row.Both = BothRow
row_view t (row.Under i taken A d) = UnderRow i taken (tree_at t A) d

-- the id of a row's formula is the table's
abbrev pub HasKnownId : TableView → Row → Type 0
HasKnownId t (row.Goal i w A d) = IsKnown t A
HasKnownId t row.Both = Unit {0}
HasKnownId t (row.Under i taken A d) = IsKnown t A

-- the rows of goals that stand under d branches, each formula being encoded so
abbrev pub goal_rows : (Form → Tree) → ℕ → Goals → List RowView
goal_rows encode d (Goal i w A) = GoalRow i w (encode A) d ∷ []
goal_rows encode d (Both S T) = BothRow ∷ (goal_rows encode d S ++ goal_rows encode d T)
goal_rows encode d (Under i taken A T) =
    UnderRow i taken (encode A) d ∷ goal_rows encode (d + 1) T

-- ---- the parts

-- a part: its index, itself as a term, what is known where it begins, and its rows
pub record PartRowsView : Type 0 where
  pub at : ℕ
  pub formula : Tree
  pub known : Tree
  pub rows : List RowView

-- a part of ids, by the trees that they stand for
abbrev pub part_view : TableView → PartRows → PartRowsView
part_view t p = record {
  at = p.at;
  formula = tree_at t p.formula;
  known = tree_at t p.known;
  rows = map (row_view t) p.rows.items;
}

-- its ids are the table's
abbrev pub HasKnownIds : TableView → PartRows → Type 0
HasKnownIds t p = IsKnown t p.formula × IsKnown t p.known × All (HasKnownId t) p.rows.items

-- a part of the condition of code with that bound, whose goals are these
abbrev pub shown_part : Option ℕ → Form → PartGoals → PartRowsView
shown_part bound A p = record {
  at = p.at;
  formula = form_encoding A;
  known = encoding_in (context_of bound) p.known;
  rows = goal_rows (encoding_in (context_of bound)) 0 p.goals;
}

-- the parts of the condition: that of the start, then that of each invariant
abbrev pub shown_parts : AnnotatedCode → List PartRowsView
shown_parts c =
    shown_part c.bound (entry_part c) (entry_goals c)
    ∷ map (λ p. shown_part c.bound (inv_part c p) (inv_goals c p)) c.invs

-- it is annotated code of these instructions, annotated indices and bound
pub record IsCodeOf (c : AnnotatedCode) (insns : List Insn) (indices : List ℕ) (bound : Option ℕ)
    : Type 0 where
  pub code_is : c.code ≡ insns
  pub indices_are : map (λ p. p.0) c.invs ≡ indices
  pub bound_is : c.bound ≡ bound
