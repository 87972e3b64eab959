-- Which goals are easy: the class of easy conditions proves each, or what it stands in, at its place.
use Rattle.std.specs.Prelude.{ℕ, suc, ◌+◌, Bool, true, false, ◌&&◌, if◌then◌else◌, List, [], ◌∷◌, ◌++◌, replicate, Option, Some, None, is_some}
use Rattle.term_table.specs.Tree.{Var}
use Rattle.formula_tree.specs.Formulas.{Form, FImp, shift_form}
use Rattle.formula_tree.specs.Substitution.{subst_form}
use Rattle.lf_encode.specs.Contexts.{machine_names}
use Rattle.vcgen.specs.Conditions.{close}
use Rattle.prover_class.specs.Hypotheses.{Hyps, raised_hyps, split_hyps, with_new}
use Rattle.prover_class.specs.Access.{by_all_means}
use Rattle.prover_goals.specs.Provers.{whole_proof}
use Rattle.view_goals.specs.Goals.{Goals, Goal, Both, Under, PartGoals, asked}
use Rattle.view_marks.specs.declared.marking.TheConstants.{PART_BINDERS}

-- whether the class proves the formula under hypotheses, where so many binders stand outside
unfoldable pub is_easy : Bool → ℕ → Hyps → Form → Bool
is_easy counted out Γ A = is_some (whole_proof (by_all_means counted) out Γ A)

-- how many goals they are
abbrev pub count_of_goals : Goals → ℕ
count_of_goals (Goal i why A) = 1
count_of_goals (Both S T) = count_of_goals S + count_of_goals T
count_of_goals (Under i taken A T) = count_of_goals T

-- all goals are easy where they are as a whole, else those that are marked
abbrev pub all_or : Bool → Goals → List Bool → List Bool
all_or true T marked = replicate (count_of_goals T) true
all_or false T marked = marked

-- the hypotheses with one more, which the nearest binder's variable proves
abbrev pub assuming : Hyps → Form → Hyps
assuming Γ A = with_new (raised_hyps Γ) (split_hyps (shift_form 1 0 A) (Var 0))

-- The marks of goals, in their order, each true where its goal is easy: what the class proves as a
-- whole is; else it goes by the parts, which stand under one hypothesis more where a branch leads to
-- them. So many binders stand outside, and a formula F of the goals is written `here F` there.
abbrev pub marks : Bool → ℕ → Hyps → (Form → Form) → Goals → List Bool
marks counted out Γ here (Goal i why A) = is_easy counted out Γ (here A) ∷ []
marks counted out Γ here (Both S T) =
    all_or (is_easy counted out Γ (here (asked (Both S T)))) (Both S T)
    (marks counted out Γ here S ++ marks counted out Γ here T)
marks counted out Γ here (Under i taken A T) =
    all_or (is_easy counted out Γ (here (asked (Under i taken A T)))) (Under i taken A T)
    (marks counted (suc out) (assuming Γ (here A)) (λ F. shift_form 1 0 (here F)) T)

-- the part as a formula: what is known leads to what is asked, whatever the machine's state is
abbrev pub part_form : Option ℕ → PartGoals → Form
part_form bound p = close bound (FImp p.known (asked p.goals))

-- the marks of a part's goals: under its quantifiers, by what is known where it begins
abbrev pub part_marks : Bool → PartGoals → List Bool
part_marks counted p =
    marks counted PART_BINDERS [] (λ F. subst_form F machine_names)
    (Under p.at true p.known p.goals)

-- ---- what the marks say of parts

-- whether all are true
abbrev pub all_true : List Bool → Bool
all_true [] = true
all_true (m ∷ marked) = m && all_true marked

-- the number of the first marks that aren't all true, where the list begins at n
abbrev pub first_unmarked : ℕ → List (List Bool) → Option ℕ
first_unmarked n [] = None
first_unmarked n (m ∷ l) = if all_true m then first_unmarked (suc n) l else Some n
