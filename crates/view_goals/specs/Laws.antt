-- What holds of goals.
use Rattle.std.specs.Prelude.{◌≡◌, ℕ}
use Rattle.formula_tree.specs.Formulas.{Form, FImp}
use Rattle.vcgen.specs.Conditions.{AnnotatedCode, wp_within, close, entry_part, inv_part}
use Rattle.view_goals.specs.Goals.{PartGoals, asked, goals_within, entry_goals, inv_goals}

-- What an index asks, conjoined as the code asks for it, is what has to hold there, whichever index
-- goes on to it.
abbrev pub AreConditions : Type 0
AreConditions =
    (c : AnnotatedCode) (n from i : ℕ) → asked (goals_within c n from i) ≡ wp_within c n i

-- the formula of a part: what is asked follows from what is known, in each state
abbrev pub part_formula : AnnotatedCode → PartGoals → Form
part_formula c p = close c.bound (FImp p.known (asked p.goals))

-- The part of the start is the condition's.
abbrev pub IsEntryPart : Type 0
IsEntryPart = (c : AnnotatedCode) → part_formula c (entry_goals c) ≡ entry_part c

-- So is that of each annotated index.
abbrev pub AreInvParts : Type 0
AreInvParts =
    (c : AnnotatedCode) (p : ℕ × Form) → part_formula c (inv_goals c p) ≡ inv_part c p
