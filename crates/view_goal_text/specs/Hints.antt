-- What the listing says of a goal that isn't easy: what is missing.
use Rattle.std.specs.Prelude.{ℕ, Bool, if◌then◌else◌, List, [], ◌∷◌, ◌++◌, codes, map, Option, Some, None, is_some}
use Rattle.std.specs.List.{flat_map}
use Rattle.term_table.specs.Tree.{Tree}
use Rattle.term_table.specs.Equality.{tree_eq}
use Rattle.formula_tree.specs.Formulas.{Form}
use Rattle.lf_terms.specs.Encoding.{form_encoding}
use Rattle.lf_encode.specs.Reading.{form_of}
use Rattle.prover_class.specs.Hypotheses.{Hyps}
use Rattle.view_marks.specs.Hints.{known_hyps, missing_parts, HintView, Plain, Bounds, Rights, hint_of}
use Rattle.view_marks.specs.Halves.{half_of}
use Rattle.view_marks.specs.declared.halves.Half.{Half}
use Rattle.view_marks.specs.declared.halves.Half.TheVariants.{Premise, Conclusion}
use Rattle.view_labels.specs.Labels.{bounds_label}
use Rattle.view_lines.specs.Formulas.{is_false_term}
use Rattle.view_lines.specs.Lines.{GoalLine, plain_line, before}

-- what stands before a missing part, which is false by computing or not
abbrev pub missing_label : Bool → List ℕ
missing_label wrong = if wrong then codes "  false: " else codes "  missing: "

-- the missing part of a goal, unless that is the goal itself
abbrev pub missing_lines : Option ℕ → Tree → Tree → List GoalLine
missing_lines bound part goal =
    if tree_eq part goal then [] else before (missing_label (is_false_term bound part)) part ∷ []

-- what is said of the half of a hypothesis that isn't easy
abbrev pub half_text : Half → List ℕ
half_text Premise = codes "    its premise isn't easy"
half_text Conclusion = codes "    its address is another"

-- the line of that, where the hypothesis is an implication
abbrev pub half_lines : Option Half → List GoalLine
half_lines None = []
half_lines (Some half) = plain_line (half_text half) ∷ []

-- a hypothesis that gives rights to addresses with the summands of that in M, and its half that isn't easy
abbrev pub like_line : Bool → Form → Form → List GoalLine
like_line counted M F =
    before (codes "  like it: ") (form_encoding F) ∷ half_lines (half_of counted M F)

-- these hypotheses, or that there is none
abbrev pub like_lines : Bool → Form → List Form → List GoalLine
like_lines counted M [] = plain_line (codes "  nothing known has this address's summands") ∷ []
like_lines counted M (F ∷ Fs) = flat_map (like_line counted M) (F ∷ Fs)

-- what is said of the missing part M
abbrev pub said_lines : Bool → Form → HintView → List GoalLine
said_lines counted M Plain = []
said_lines counted M (Bounds upper lower) = plain_line (bounds_label upper lower) ∷ []
said_lines counted M (Rights Fs) = like_lines counted M Fs

-- the missing part of a goal, and what is said of it under these hypotheses
abbrev pub part_hint : Option ℕ → Hyps → Form → Tree → List GoalLine
part_hint bound Γ M goal =
    let counted = is_some bound in
    missing_lines bound (form_encoding M) goal ++ said_lines counted M (hint_of counted Γ M)

-- the same of each missing part
abbrev pub part_hints : Option ℕ → Hyps → List Form → Tree → List GoalLine
part_hints bound Γ [] goal = []
part_hints bound Γ (M ∷ Ms) goal = part_hint bound Γ M goal ++ part_hints bound Γ Ms goal

-- the hints of a goal where these terms are known, of all that is missing or the first alone
unfoldable pub goal_hint : Bool → Option ℕ → List Tree → Tree → List GoalLine
goal_hint all bound known goal =
    let Γ : Hyps = known_hyps [] 0 (map form_of known) in
    part_hints bound Γ (missing_parts all (is_some bound) Γ (form_of goal)) goal
