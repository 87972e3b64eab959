-- What is missing of a goal that isn't easy: the first formula that it conjoins which isn't, or each such
-- formula, and what the class of easy conditions has of that.
use Rattle.std.specs.Prelude.{ℕ, suc, Bool, true, false, if◌then◌else◌, Option, Some, None, is_some, List, [], ◌∷◌, ◌++◌}
use Rattle.term_table.specs.Tree.{Var}
use Rattle.word_ops.specs.declared.Rel.TheVariants.{Ult, Ule}
use Rattle.formula_tree.specs.Formulas.{Exp, ELit, Form, FRel, FRd, FWr, FAnd, FImp, FAll}
use Rattle.formula_tree.specs.Variables.{PExp, subst_var_exp}
use Rattle.prover_class.specs.Hypotheses.{Hyps, split_hyps, with_new}
use Rattle.prover_class.specs.Bounds.{upper_bound, lower_bound}
use Rattle.prover_class.specs.NormalForms.{normal_form}
use Rattle.prover_class.specs.Access.{Access, Load, Store, right_address, rest_of}
use Rattle.view_marks.specs.Marks.{is_easy}
use Rattle.view_marks.specs.declared.marking.TheConstants.{PART_BINDERS}

-- the consequences of known formulas as hypotheses, beside those of Γ; the first has the number k
abbrev pub known_hyps : Hyps → ℕ → List Form → Hyps
known_hyps Γ k [] = Γ
known_hyps Γ k (F ∷ Fs) = known_hyps (with_new Γ (split_hyps F (Var k))) (suc k) Fs

-- the first of the formulas that are conjoined which isn't easy; the last where all others are
abbrev pub missing_part : Bool → Hyps → Form → Form
missing_part counted Γ (FAnd A B) =
    if is_easy counted PART_BINDERS Γ A then missing_part counted Γ B
    else missing_part counted Γ A
missing_part counted Γ A = A

-- Each of the formulas that are conjoined which isn't easy, in order. What is easy as a whole has none.
abbrev pub hard_parts : Bool → Hyps → Form → List Form
hard_parts counted Γ (FAnd A B) =
    if is_easy counted PART_BINDERS Γ (FAnd A B) then []
    else hard_parts counted Γ A ++ hard_parts counted Γ B
hard_parts counted Γ A = if is_easy counted PART_BINDERS Γ A then [] else A ∷ []

-- what is missing of a goal that isn't easy: each of these formulas, or the first alone
abbrev pub missing_parts : Bool → Bool → Hyps → Form → List Form
missing_parts true counted Γ A = hard_parts counted Γ A
missing_parts false counted Γ A = missing_part counted Γ A ∷ []

-- what is said of it
pub data HintView : Type 0 where
  -- nothing more
  Plain : HintView
  -- what the left side is at most, and what the right one is at least
  Bounds : ℕ → ℕ → HintView
  -- the hypotheses that give rights to addresses with the same summands
  Rights : List Form → HintView

-- the address as a sum: its normal form in a part
abbrev pub address_sum : Exp → Exp
address_sum a = (normal_form PART_BINDERS a).now

-- whether what is left of a sum is a literal
abbrev pub is_literal : Option Exp → Bool
is_literal (Some (ELit w)) = true
is_literal _ = false

-- whether z has the summands of a, and perhaps another literal
abbrev pub has_summands : Exp → Exp → Bool
has_summands a z = is_literal (rest_of (address_sum a) (address_sum z))

-- whether z's summands, where 0 is put for variable 0, are among those of a
abbrev pub has_instance : Exp → Exp → Bool
has_instance a z =
    is_some (rest_of (address_sum a) (address_sum (subst_var_exp z 0 (PExp (ELit 0)))))

-- whether the test holds of the address, where there is one
abbrev pub holds_at : (Exp → Bool) → Option Exp → Bool
holds_at f None = false
holds_at f (Some z) = f z

-- whether the test holds of an address that is reached through conjunctions
abbrev pub any_right : Access → (Exp → Bool) → Form → Bool
any_right k f (FAnd A B) = if any_right k f A then true else any_right k f B
any_right k f A = holds_at f (right_address k A)

-- Whether a hypothesis gives rights to addresses with the summands of a: as it stands, by what it
-- leads to, or by an instance of that.
abbrev pub is_near : Access → Exp → Form → Bool
is_near k a (FImp P Q) = any_right k (has_summands a) Q
is_near k a (FAll (FImp P Q)) = any_right k (has_instance a) Q
is_near k a A = holds_at (has_summands a) (right_address k A)

-- the formulas of the hypotheses that are near, in order
abbrev pub near : Access → Exp → Hyps → List Form
near k a [] = []
near k a (h ∷ Γ) = if is_near k a h.0 then h.0 ∷ near k a Γ else near k a Γ

-- what is said of a formula that isn't easy
abbrev pub hint_of : Bool → Hyps → Form → HintView
hint_of counted Γ (FRel Ult a b) =
    Bounds (upper_bound Γ a).value (lower_bound counted Γ b).value
hint_of counted Γ (FRel Ule a b) =
    Bounds (upper_bound Γ a).value (lower_bound counted Γ b).value
hint_of counted Γ (FRd a) = Rights (near Load a Γ)
hint_of counted Γ (FWr a) = Rights (near Store a Γ)
hint_of counted Γ A = Plain
