-- The marks that are pushed for rows of goals.
use Rattle.std.specs.Prelude.{◌≡◌, ℕ, suc, Bool, true, false, List, [], ◌++◌, map, replicate}
use Rattle.term_table.specs.Table.{TableView, tree_at}
use Rattle.formula_tree.specs.Formulas.{Form, FAnd, FImp, FAll, FAllm, shift_form}
use Rattle.lf_terms.specs.Encoding.{form_encoding}
use Rattle.prover_ids.specs.declared.hypotheses.Hypothesis.{Hypothesis}
use Rattle.prover_ids.specs.Hypotheses.{AreHyps}
use Rattle.prover_class.specs.Hypotheses.{Hyps}
use Rattle.view_goals.specs.Goals.{Goals, Both, Under, asked}
use Rattle.view_goals.specs.declared.rows.Row.{Row}
use Rattle.view_marks.specs.Marks.{is_easy, count_of_goals, assuming, marks}
use Rattle.view_marks.specs.Inside.Shapes.{RowKind, kinds, row_kind}
use Rattle.view_marks.specs.declared.marking.TheConstants.{PART_BINDERS}

-- how a formula is written at a place: connectives as connectives
pub record IsWriting (here : Form → Form) : Type 0 where
  pub both : (A B : Form) → here (FAnd A B) ≡ FAnd (here A) (here B)
  pub under : (A B : Form) → here (FImp A B) ≡ FImp (here A) (here B)

-- the marks came behind the others, and rows of these kinds are left
pub record ArePushed (pushed : List Bool) (left : List RowKind) (old new : List Bool)
    (rest : List Row) : Type 0 where
  pub marks : new ≡ old ++ pushed
  pub others : map row_kind rest ≡ left

-- one more mark for each goal that the rows begin with, all true
abbrev pub AreAllEasy : List Row → List Bool → List Bool → List Row → Type 0
AreAllEasy rows old new rest =
    (T : Goals) (left : List RowKind) → map row_kind rows ≡ kinds T ++ left
    → ArePushed (replicate (count_of_goals T) true) left old new rest

-- the id stands for the goals as they are written at a place, the rows are of these kinds
pub record AreGoalsAt (t : TableView) (hyps : List Hypothesis) (goal : ℕ) (rows : List Row)
    (Γ : Hyps) (here : Form → Form) (T : Goals) (shape : List RowKind) : Type 0 where
  pub writing : IsWriting here
  pub hyps_are : AreHyps t hyps Γ
  pub goal_is : tree_at t goal ≡ form_encoding (here (asked T))
  pub rows_are : map row_kind rows ≡ shape

-- the marks of whatever goals the rows begin with and the id stands for
abbrev pub AreMarked : Bool → TableView → List Hypothesis → ℕ → ℕ → List Row → List Bool → List Bool → List Row → Type 0
AreMarked counted t hyps outside goal rows old new rest =
    (Γ : Hyps) (here : Form → Form) (T : Goals) (left : List RowKind)
    → AreGoalsAt t hyps goal rows Γ here T (kinds T ++ left)
    → ArePushed (marks counted outside Γ here T) left old new rest

-- the same of goals that aren't easy as a whole
abbrev pub ArePartsMarked : Bool → TableView → List Hypothesis → ℕ → ℕ → List Row → List Bool → List Bool → List Row → Type 0
ArePartsMarked counted t hyps outside goal rows old new rest =
    (Γ : Hyps) (here : Form → Form) (T : Goals) (left : List RowKind)
    → AreGoalsAt t hyps goal rows Γ here T (kinds T ++ left)
    → is_easy counted outside Γ (here (asked T)) ≡ false
    → ArePushed (marks counted outside Γ here T) left old new rest

-- the marks of two that the id conjoins, whose rows come one after the other
abbrev pub AreBothMarked : Bool → TableView → List Hypothesis → ℕ → ℕ → List Row → List Bool → List Bool → List Row → Type 0
AreBothMarked counted t hyps outside goal rows old new rest =
    (Γ : Hyps) (here : Form → Form) (S T : Goals) (left : List RowKind)
    → AreGoalsAt t hyps goal rows Γ here (Both S T) (kinds S ++ (kinds T ++ left))
    → ArePushed (marks counted outside Γ here S ++ marks counted outside Γ here T) left old new rest

-- the marks of goals that the id asks for under a hypothesis
abbrev pub AreUnderMarked : Bool → TableView → List Hypothesis → ℕ → ℕ → List Row → List Bool → List Bool → List Row → Type 0
AreUnderMarked counted t hyps outside goal rows old new rest =
    (Γ : Hyps) (here : Form → Form) (i : ℕ) (taken : Bool) (A : Form) (T : Goals)
    (left : List RowKind) → AreGoalsAt t hyps goal rows Γ here (Under i taken A T) (kinds T ++ left)
    → ArePushed (marks counted (suc outside) (assuming Γ (here A)) (λ F. shift_form 1 0 (here F)) T)
    left old new rest

-- what stands under all the quantifiers at its head
abbrev pub unquantified : Form → Form
unquantified (FAll A) = unquantified A
unquantified (FAllm A) = unquantified A
unquantified A = A

-- the marks of a part that the id, under its quantifiers, stands for
abbrev pub IsPartMarked : Bool → TableView → ℕ → List Row → List Bool → List Bool → Type 0
IsPartMarked counted t inner rows old new =
    (here : Form → Form) (i : ℕ) (taken : Bool) (A : Form) (T : Goals)
    → AreGoalsAt t [] inner rows [] here (Under i taken A T) (kinds T)
    → new ≡ old ++ marks counted PART_BINDERS [] here (Under i taken A T)
