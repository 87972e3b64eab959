-- The listing of the goals of a verification condition.
use Rattle.std.specs.Prelude.{ℕ, suc, ◌+◌, Bool, true, false, not, ◌&&◌, ◌||◌, if◌then◌else◌, take, List, [], ◌∷◌, ◌++◌, map, drop, slice_index_or, Option, is_some, Some, None, Result, Ok, Err}
use Rattle.alpha_words.specs.declared.insn.Insn.{Insn}
use Rattle.alpha_cfg.specs.declared.fault.CodeFlaw.{CodeFlaw}
use Rattle.alpha_cfg.specs.CodeDecoding.{decoded_code}
use Rattle.term_table.specs.Tree.{Tree}
use Rattle.policy_set.specs.Views.{PolicyView}
use Rattle.proof_container.specs.Contents.{Contents}
use Rattle.proof_container.specs.Decoding.{Fault, decoded_container}
use Rattle.proof_container.specs.Versions.{profile_of}
use Rattle.vcgen.specs.Conditions.{AnnotatedCode}
use Rattle.vcgen.specs.Encoded.{annotated}
use Rattle.pcc_gate.specs.First.{formulas, front_refusal}
use Rattle.pcc_gate.specs.declared.refusal.Refusal.{Refusal}
use Rattle.pcc_gate.specs.declared.refusal.Refusal.TheVariants as refusal
use Rattle.view_goals.specs.Goals.{PartGoals, entry_goals, inv_goals}
use Rattle.view_goals.specs.Rows.{RowView, GoalRow, BothRow, UnderRow, PartRowsView, shown_part}
use Rattle.view_labels.specs.declared.marks.Mark.{Mark}
use Rattle.view_labels.specs.declared.marks.Mark.TheVariants as mark
use Rattle.view_labels.specs.Labels.{part_title, start_label, goal_label, known_label, verdict_line}
use Rattle.view_marks.specs.Looking.{goal_count, is_hard}
use Rattle.view_marks.specs.Marks.{part_form, part_marks, all_true, first_unmarked}
use Rattle.view_lines.specs.Formulas.{is_false_term}
use Rattle.view_lines.specs.Lines.{GoalLine, plain_line, before}
use Rattle.view_goal_text.specs.Styles.{StyleView, is_row_listed}
use Rattle.view_goal_text.specs.Hints.{goal_hint}
use Rattle.view_lines.specs.Texts.{goal_lines_text}

-- ---- rows

-- how a goal that isn't easy is marked, which is false by computing or not
abbrev pub hard_mark : Bool → Mark
hard_mark wrong = if wrong then mark.False else mark.Hard

-- how a goal is marked
abbrev pub mark_of : Option ℕ → Bool → Tree → Mark
mark_of bound easy t = if easy then mark.Easy else hard_mark (is_false_term bound t)

-- the line of a row; two that are both asked have none
abbrev pub row_line : Option ℕ → List ℕ → RowView → Bool → List GoalLine
row_line bound lines (GoalRow i w t d) easy =
    before (goal_label lines i w d (mark_of bound easy t)) t ∷ []
row_line bound lines BothRow easy = []
row_line bound lines (UnderRow i taken t d) easy = before (known_label lines (d + 1) i taken) t ∷ []

-- the same, where the row is listed
abbrev pub listed_line : Option ℕ → List ℕ → Bool → RowView → Bool → List GoalLine
listed_line bound lines listed r easy = if listed then row_line bound lines r easy else []

-- the hints at a row, where they are wanted: of the goal, under what is known there
abbrev pub row_hint : Bool → Option ℕ → Bool → List Tree → RowView → List GoalLine
row_hint all bound true known (GoalRow i w t d) = goal_hint all bound (take (d + 1) known) t
row_hint all bound wanted known r = []

-- what is known behind a row, known k as the k-th; known before it were these
abbrev pub known_after : List Tree → RowView → List Tree
known_after known (GoalRow i w t d) = known
known_after known BothRow = known
known_after known (UnderRow i taken t d) = take (d + 1) known ++ t ∷ []

-- The lines of rows, whose goals have these marks in order, where hints are due or not. The first goal
-- that isn't easy is followed by its hint; or each by its hints, where all that is missing is told.
abbrev pub row_lines : StyleView → Option ℕ → Bool → List Tree → List RowView → List Bool → List GoalLine
row_lines s bound due known [] marks = []
row_lines s bound due known (r ∷ rows) marks =
    let easy : Bool = slice_index_or marks 0 false in
    let listed : Bool = is_row_listed s.only_missing (r ∷ rows) marks in
    listed_line bound s.lines listed r easy
    ++ (row_hint s.all bound (due && is_hard r easy) known r
    ++ row_lines s bound (due && (s.all || not (is_hard r easy))) (known_after known r) rows
    (drop (goal_count r) marks))

-- the lines of the part of a number, whose goals have these marks
abbrev pub whole_lines : StyleView → Option ℕ → ℕ → PartRowsView → List Bool → List GoalLine
whole_lines s bound k p marks =
    plain_line (part_title s.lines k p.at) ∷ before start_label p.known
    ∷ row_lines s bound true (p.known ∷ []) p.rows marks

-- the same, unless what is easy is left out and each of its goals is
abbrev pub view_lines : StyleView → Option ℕ → ℕ → PartRowsView → List Bool → List GoalLine
view_lines s bound k p marks =
    if s.only_missing && all_true marks then [] else whole_lines s bound k p marks

-- ---- parts

-- the part of a condition as terms
abbrev pub view_of : Option ℕ → PartGoals → PartRowsView
view_of bound p = shown_part bound (part_form bound p) p

-- the lines of the parts of a condition, the first having the number k
abbrev pub parts_lines : StyleView → Option ℕ → ℕ → List PartGoals → List GoalLine
parts_lines s bound k [] = []
parts_lines s bound k (p ∷ ps) =
    view_lines s bound k (view_of bound p) (part_marks (is_some bound) p)
    ++ parts_lines s bound (suc k) ps

-- the number of the first part with a goal that isn't easy, the first having the number k
abbrev pub first_hard : Option ℕ → ℕ → List PartGoals → Option ℕ
first_hard bound k ps = first_unmarked k (map (part_marks (is_some bound)) ps)

-- the lines of all parts with the entries that they name, and the last line
abbrev pub parts_text : StyleView → Option ℕ → List PartGoals → List ℕ
parts_text s bound ps =
    goal_lines_text bound (parts_lines s bound 0 ps) ++ verdict_line (first_hard bound 0 ps)

-- the parts of the condition of annotated code: the start's, then those of its invariants
abbrev pub goal_parts : AnnotatedCode → List PartGoals
goal_parts c = entry_goals c ∷ map (inv_goals c) c.invs

-- the listing of the goals of a container's contents and their code under a policy
unfoldable pub goals_text : StyleView → PolicyView → Contents → List Insn → List ℕ
goals_text s policy c code =
    parts_text s c.bound (goal_parts (annotated policy c.bound code (formulas c.invs)))

-- ---- bytes

-- the listing of contents, where their code bytes are code
abbrev pub goals_of_code : StyleView → PolicyView → Contents → Result (List Insn) CodeFlaw
    → Result (List ℕ) Refusal
goals_of_code s policy c (Ok code) = Ok (goals_text s policy c code)
goals_of_code s policy c (Err flaw) = Err (refusal.BadCode flaw)

-- the same, where the bytes are a container
abbrev pub goals_read : StyleView → PolicyView → Result Contents Fault → Result (List ℕ) Refusal
goals_read s policy (Ok c) =
    goals_of_code s policy c (decoded_code (profile_of c.version) c.code)
goals_read s policy (Err fault) = Err (refusal.Malformed fault.0 fault.1)

-- the listing, unless there is a refusal
abbrev pub listed_unless : Option Refusal → Result (List ℕ) Refusal → Result (List ℕ) Refusal
listed_unless None listed = listed
listed_unless (Some r) listed = Err r

-- The listing of the goals of what the bytes hold, where the clauses before the proof hold; else
-- the first of them that fails.
unfoldable pub goals_of_bytes : StyleView → PolicyView → List ℕ → Result (List ℕ) Refusal
goals_of_bytes s policy bytes =
    listed_unless (front_refusal policy bytes) (goals_read s policy (decoded_container bytes))
