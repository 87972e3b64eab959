-- Lines as they are kept until all are there.
use Rattle.std.specs.Prelude.{◌≡◌, ℕ, List, [], ◌++◌, map, unwrap_or, IfSome, Option, Some, None}
use Rattle.std.specs.List.{AllByRecursion, flat_map}
use Rattle.std.specs.Option.{option_map, option_to_list}
use Rattle.term_table.specs.Tree.{Tree}
use Rattle.term_table.specs.Table.{TableView, IsKnown, tree_at}
use Rattle.proof_container.specs.Encoding.{entry_number}
use Rattle.proof_container.specs.Postorder.{entries}
use Rattle.view_entries.specs.Entries.{entry_name}
use Rattle.view_lines.specs.declared.lines.ShownLine.{ShownLine}
use Rattle.view_lines.specs.Formulas.{short_text, long_term}
use Rattle.view_lines.specs.Lines.{GoalLine}
use Rattle.view_lines.specs.Texts.{with_lf, entries_text}

-- a line: its text up to a term that has no short text, and that term
pub record ShownView : Type 0 where
  pub text : List ℕ
  pub long : Option Tree

-- the short text of a term, else nothing
abbrev pub short_part : Option ℕ → Option Tree → List ℕ
short_part bound None = []
short_part bound (Some t) = unwrap_or (short_text bound t) []

-- a line as it is kept
abbrev pub shown_line : Option ℕ → GoalLine → ShownView
shown_line bound l =
    record { text = l.label ++ short_part bound l.term; long = long_term bound l.term }

-- what is kept, by the trees of the table
abbrev pub line_view : TableView → ShownLine → ShownView
line_view t l = record { text = l.text.items; long = option_map (tree_at t) l.long }

-- the ids of lines are the table's
abbrev pub HasKnownLong : TableView → ShownLine → Type 0
HasKnownLong t l = IfSome l.long (IsKnown t)

-- those of all lines are
abbrev pub AreKnownLines : TableView → List ShownLine → Type 0
AreKnownLines t lines = AllByRecursion (HasKnownLong t) lines

-- these lines were added behind the old ones, while the table grew
abbrev pub AreAdded : Option ℕ → TableView → TableView → List ShownLine → List GoalLine
    → List ShownLine → Type 0
AreAdded bound t u old ls new =
    map (line_view u) new ≡ map (line_view t) old ++ map (shown_line bound) ls

-- ---- as a text

-- the name of a term's entry, if there is a term
abbrev pub name_part : List Tree → Option Tree → List ℕ
name_part es None = []
name_part es (Some t) = entry_name (entry_number es t)

-- a line, these being the entries
abbrev pub shown_text : List Tree → ShownView → List ℕ
shown_text es v = v.text ++ with_lf (name_part es v.long)

-- the terms without a short text, in order
abbrev pub shown_longs : List ShownView → List Tree
shown_longs vs = flat_map (λ v. option_to_list v.long) vs

-- all lines, and those of the entries
abbrev pub shown_lines_text : List ShownView → List ℕ
shown_lines_text vs =
    let es : List Tree = entries (shown_longs vs) in
    flat_map (shown_text es) vs ++ entries_text es
