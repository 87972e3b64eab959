-- The goals, conjoined as the code asks for them, are the condition.
use Rattle.std.proofs.Common.{◌≡◌, ℕ, zero, suc, ◌+◌, Option, Some, None, refl, ◌∙◌, ap, length}
use Rattle.std.specs.Prelude.{slice_get}
use Rattle.alpha_words.specs.declared.insn.Insn.{Insn}
use Rattle.alpha_cfg.specs.Actions.{Always, When, Action, action_of}
use Rattle.alpha_cfg.specs.Actions as actions
use Rattle.alpha_cfg.specs.Flow.{jump_of}
use Rattle.word_ops.specs.declared.Rel.TheVariants.{Ult}
use Rattle.formula_tree.specs.Formulas.{ELeft, ELit, ESel, MMem, MUpd, Form, FRel, FRd, FWr, FAnd, FImp}
use Rattle.formula_tree.specs.Substitution.{Substitution, subst_form}
use Rattle.vcgen.specs.Assignments.{for_reg, for_memory, for_left}
use Rattle.vcgen.specs.Conditions.{address_exp, aligned_exp, computed_exp, reg_exp, taken_if, passed_if, at_target, action_condition, counted_condition, condition_at, or_else, wp_within, one_step_less, invariant_at, entered, close}
use Rattle.view_goals.specs.Goals.{Goals, Goal, Both, Under, asked, goals_with, goals_at, action_goals, counted_goals, goals_of, or_goals, goals_within}
use Rattle.view_goals.specs.Laws.{AreConditions, IsEntryPart, AreInvParts}

-- ---- a substitution in each formula is one in all of them

pub asked-with : (s : Substitution) (T : Goals) → asked (goals_with (λ F. subst_form F s) T) ≡ subst_form (asked T) s
asked-with s (Goal i w A) = refl
asked-with s (Both S T) = λ i. FAnd (asked-with s S i) (asked-with s T i)
asked-with s (Under i taken A T) = ap (FImp (subst_form A s)) (asked-with s T)

asked-less : (T : Goals) → asked (goals_with one_step_less T) ≡ one_step_less (asked T)
asked-less T = asked-with _ T

asked-entered : (bound : Option ℕ) (T : Goals) → asked (goals_with (entered bound) T) ≡ entered bound (asked T)
asked-entered None (Goal i w A) = refl
asked-entered None (Both S T) = λ i. FAnd (asked-entered None S i) (asked-entered None T i)
asked-entered None (Under i taken A T) = ap (FImp A) (asked-entered None T)
asked-entered (Some b) T = asked-with (for_left (ELit b)) T

-- ---- one instruction

-- what is asked at each index is what has to hold there
module _ (goals : ℕ → Goals) (next : ℕ → Form) (are : (j : ℕ) → asked (goals j) ≡ next j) where
  asked-at : (i : ℕ) (to : Option ℕ) → asked (goals_at i goals to) ≡ at_target next to
  asked-at i None = refl
  asked-at i (Some j) = are j

  asked-put : (s : Substitution) (j : ℕ) → asked (goals_with (λ F. subst_form F s) (goals j)) ≡ subst_form (next j) s
  asked-put s j = asked-with s (goals j) ∙ ap (λ F. subst_form F s) (are j)

  asked-action : (post : Form) (i : ℕ) (jump : Option ℕ) (a : Action) → asked (action_goals goals post i jump a) ≡ action_condition next post i jump a
  asked-action post i jump (actions.Compute to word) = asked-put (for_reg to (computed_exp word)) (i + 1)
  asked-action post i jump (actions.Load to base disp) =
      ap (FAnd (FRd (address_exp base disp))) (asked-put (for_reg to (ESel MMem (address_exp base disp))) (i + 1))
  asked-action post i jump (actions.LoadAround to base disp) =
      ap (FAnd (FRd (aligned_exp (address_exp base disp)))) (asked-put (for_reg to (ESel MMem (aligned_exp (address_exp base disp)))) (i + 1))
  asked-action post i jump (actions.Store from base disp) =
      ap (FAnd (FWr (address_exp base disp))) (asked-put (for_memory (MUpd MMem (address_exp base disp) (reg_exp from))) (i + 1))
  asked-action post i jump (actions.Branching Always) = asked-at i jump
  asked-action post i jump (actions.Branching (When cond reg)) =
      λ k. FAnd (FImp (taken_if cond (reg_exp reg)) (asked-at i jump k)) (FImp (passed_if cond (reg_exp reg)) (are (i + 1) k))
  asked-action post i jump actions.Return = refl

asked-counted : (bound : Option ℕ) (goals : ℕ → Goals) (next : ℕ → Form) → ((j : ℕ) → asked (goals j) ≡ next j)
    → (post : Form) (i : ℕ) (insn : Insn) → asked (counted_goals bound goals post i insn) ≡ counted_condition bound next post i insn
asked-counted None goals next are post i insn = asked-action goals next are post i (jump_of i insn) (action_of insn)
asked-counted (Some b) goals next are post i insn =
    ap (FAnd (FRel Ult (ELit 0) ELeft))
    (asked-action (λ j. goals_with one_step_less (goals j)) (λ j. one_step_less (next j)) (λ j. asked-less (goals j) ∙ ap one_step_less (are j))
    post i (jump_of i insn) (action_of insn))

asked-of : (bound : Option ℕ) (goals : ℕ → Goals) (next : ℕ → Form) → ((j : ℕ) → asked (goals j) ≡ next j)
    → (post : Form) (i : ℕ) (o : Option Insn) → asked (goals_of bound goals post i o) ≡ condition_at bound next post i o
asked-of bound goals next are post i None = refl
asked-of bound goals next are post i (Some insn) = asked-counted bound goals next are post i insn

-- ---- all of the code

asked-or : (from i : ℕ) (o : Option Form) (T : Goals) → asked (or_goals from i o T) ≡ or_else o (asked T)
asked-or from i None T = refl
asked-or from i (Some I) T = refl

pub asked-within : AreConditions
asked-within c zero from i = asked-or from i (invariant_at c.invs i) _
asked-within c (suc n) from i =
    asked-or from i (invariant_at c.invs i) _
    ∙ ap (or_else (invariant_at c.invs i)) (asked-of c.bound (goals_within c n i) (wp_within c n) (asked-within c n i) c.post i (slice_get c.code i))

-- ---- the parts

pub entry-is : IsEntryPart
entry-is c =
    ap (λ F. close c.bound (FImp c.pre F))
    (asked-entered c.bound (goals_within c (length c.code) 0 0) ∙ ap (entered c.bound) (asked-within c (length c.code) 0 0))

pub inv-is : AreInvParts
inv-is c p =
    ap (λ F. close c.bound (FImp p.1 F))
    (asked-of c.bound (goals_within c (length c.code) p.0) (wp_within c (length c.code)) (asked-within c (length c.code) p.0) c.post p.0 (slice_get c.code p.0))
