-- What lines of goals print beside formulas. The text is this project's own.
use Rattle.std.specs.Prelude.{ℕ, ◌-◌, ◌^◌, ◌==◌, nat_lt, Bool, true, false, if◌then◌else◌, List, [], ◌∷◌, ◌++◌, codes, decimal, slice_get, Option, Some, None}
use Rattle.view_goals.specs.declared.rows.Why.{Why}
use Rattle.view_goals.specs.declared.rows.Why.TheVariants as why
use Rattle.view_entries.specs.SourceLines.{source_place}
use Rattle.view_labels.specs.declared.limits.TheConstants.{LEAST_NEGATIVE}
use Rattle.view_labels.specs.declared.marks.Mark.{Mark}
use Rattle.view_labels.specs.declared.marks.Mark.TheVariants as mark

-- a word and the number behind it
abbrev pub numbered : List ℕ → ℕ → List ℕ
numbered word n = word ++ decimal n

-- a word and the index behind it, with the line of the source that the index's instruction stands in,
-- where these lines are given
abbrev pub indexed : List ℕ → List ℕ → ℕ → List ℕ
indexed lines word i = numbered word i ++ source_place (slice_get lines i)

-- the title of the part of a number, which begins at an index
abbrev pub part_title : List ℕ → ℕ → ℕ → List ℕ
part_title lines k at =
    if k == 0
    then codes "part 0, from the start"
    else numbered (codes "part ") k ++ indexed lines (codes ", from index ") at

-- the line of what is known there, up to its formula
abbrev pub start_label : List ℕ
start_label = codes "known 0: "

-- why a goal is asked
abbrev pub why_text : List ℕ → Why → List ℕ
why_text lines why.Load = codes " load"
why_text lines why.Store = codes " store"
why_text lines why.Step = codes " step"
why_text lines why.Return = codes " return"
why_text lines (why.Reach j) = indexed lines (codes " index ") j
why_text lines why.Leave = codes " nowhere"

-- how a goal is marked
abbrev pub mark_text : Mark → List ℕ
mark_text mark.Easy = codes ", easy: "
mark_text mark.False = codes ", false: "
mark_text mark.Hard = codes ", not easy: "

-- whether a branch is taken
abbrev pub taken_text : Bool → List ℕ
taken_text true = codes " taken: "
taken_text false = codes " not taken: "

-- the line of a goal up to its formula: its index, why it is asked, what is known there, and how it is
-- marked
abbrev pub goal_label : List ℕ → ℕ → Why → ℕ → Mark → List ℕ
goal_label lines i w d m =
    indexed lines (codes "goal ") i
    ++ (why_text lines w ++ (numbered (codes ", known 0 to ") d ++ mark_text m))

-- the line up to its formula of what is known where the branch at an index is taken, or isn't, as
-- number d
abbrev pub known_label : List ℕ → ℕ → ℕ → Bool → List ℕ
known_label lines d i taken =
    numbered (codes "known ") d ++ (indexed lines (codes ", ") i ++ taken_text taken)

-- a word as a number below 0, where it is near 2 ^ 64: one of those that `lda` can give
unfoldable pub negative_text : ℕ → List ℕ
negative_text n =
    if nat_lt n LEAST_NEGATIVE then [] else codes " (-" ++ (decimal (2 ^ 64 - n) ++ codes ")")

-- a text and a word behind it, as both numbers
abbrev pub worded : List ℕ → ℕ → List ℕ
worded text n = text ++ (decimal n ++ negative_text n)

-- what is known of both sides of a comparison
abbrev pub bounds_label : ℕ → ℕ → List ℕ
bounds_label upper lower =
    worded (codes "  the left side is at most ") upper
    ++ worded (codes ", the right side at least ") lower

-- the last line: the part of a number has a goal that isn't easy, or none has
abbrev pub verdict_line : Option ℕ → List ℕ
verdict_line None = codes "every goal is easy\n"
verdict_line (Some k) = numbered (codes "not easy ") k ++ (10 ∷ [])
