-- How a line of a text is shown, with a mark under the place that is wrong.
use Rattle.std.specs.Prelude.{ℕ, ◌-◌, ◌==◌, if◌then◌else◌, List, [], ◌∷◌, ◌++◌, codes, decimal, map, take, drop, Option, Some, None}
use Rattle.asm_text.specs.Statements.{is_printable}

-- a place in a line, and how many bytes from there on the mark repeats
abbrev pub Span : Type 0
Span = ℕ × ℕ

-- a byte as it is shown: a tab and printable ASCII as they are, any other byte as `?`
abbrev pub shown_byte : ℕ → ℕ
shown_byte b = if is_printable b then b else 63

-- what stands under a byte before the mark: a tab under a tab, and else a blank
abbrev pub margin_byte : ℕ → ℕ
margin_byte b = if b == 9 then 9 else 32

-- bytes that are repeated behind the mark: a blank and the bytes, or nothing where there are none
abbrev pub repeated : List ℕ → List ℕ
repeated [] = []
repeated (b ∷ bs) = 32 ∷ map shown_byte (b ∷ bs)

-- what numbers may be: from as far below 0 on as the first, and below the second
abbrev pub Limits : Type 0
Limits = ℕ × ℕ

-- the least of these numbers
abbrev pub least_text : ℕ → List ℕ
least_text low = if low == 0 then decimal low else 45 ∷ decimal low

-- the least and the greatest of these numbers
unfoldable pub range_text : ℕ → ℕ → List ℕ
range_text low limit =
    codes " (" ++ (least_text low ++ (codes " to " ++ (decimal (limit - 1) ++ codes ")")))

-- these numbers, where a mark says which are allowed
abbrev pub limits_text : Option Limits → List ℕ
limits_text None = []
limits_text (Some limits) = range_text limits.0 limits.1

-- the mark under a place of the line, behind a margin as wide as the bytes before that place, and the
-- numbers that are allowed there
abbrev pub mark_line : List ℕ → Span → Option Limits → List ℕ
mark_line line span limits =
    map margin_byte (take span.0 line)
    ++ (94 ∷ (repeated (take span.1 (drop span.0 line)) ++ (limits_text limits ++ (10 ∷ []))))

-- the mark, where there is one
abbrev pub mark_lines : List ℕ → Option Span → Option Limits → List ℕ
mark_lines line None limits = []
mark_lines line (Some span) limits = mark_line line span limits

-- a line as it is shown, and the mark under it, where there is one, with the numbers that are allowed
abbrev pub marked_line : List ℕ → Option Span → Option Limits → List ℕ
marked_line line span limits = map shown_byte line ++ (10 ∷ mark_lines line span limits)

-- a line, if there is one, with the mark of a fault under it
abbrev pub fault_lines : (List ℕ → Option Span) → (List ℕ → Option Limits) → Option (List ℕ) → List ℕ
fault_lines span limits None = []
fault_lines span limits (Some line) = marked_line line (span line) (limits line)

-- a fault of whose line nothing is said but where it lies
abbrev pub no_limits : List ℕ → Option Limits
no_limits line = None
