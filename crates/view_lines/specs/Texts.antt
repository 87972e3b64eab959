-- The lines of a listing as a text.
use Rattle.std.specs.Prelude.{ℕ, List, [], ◌∷◌, ◌++◌, map, length, Option, Some, None}
use Rattle.std.specs.List.{flat_map, range_with_len}
use Rattle.std.specs.Option.{option_to_list}
use Rattle.term_table.specs.Tree.{Tree}
use Rattle.proof_container.specs.Postorder.{entries}
use Rattle.view_entries.specs.Entries.{entry_line}
use Rattle.view_lines.specs.Formulas.{long_term, shown}
use Rattle.view_lines.specs.Lines.{GoalLine}

-- a text with a line's end
abbrev pub with_lf : List ℕ → List ℕ
with_lf text = text ++ 10 ∷ []

-- a line's formula as it is shown, these being the entries
abbrev pub term_text : Option ℕ → List Tree → Option Tree → List ℕ
term_text bound es None = []
term_text bound es (Some t) = shown bound es t

-- a line, these being the entries
abbrev pub goal_line_text : Option ℕ → List Tree → GoalLine → List ℕ
goal_line_text bound es l = l.label ++ with_lf (term_text bound es l.term)

-- the terms of lines that have no short text, in order
abbrev pub long_terms : Option ℕ → List GoalLine → List Tree
long_terms bound ls = flat_map (λ l. option_to_list (long_term bound l.term)) ls

-- the lines of the entries
abbrev pub entries_text : List Tree → List ℕ
entries_text es = flat_map with_lf (map (entry_line es) (range_with_len 0 (length es)))

-- The lines, and behind them those of the entries that their terms without a short text are made
-- of: each entry once, and its parts before it.
abbrev pub goal_lines_text : Option ℕ → List GoalLine → List ℕ
goal_lines_text bound ls =
    let es : List Tree = entries (long_terms bound ls) in
    flat_map (goal_line_text bound es) ls ++ entries_text es
