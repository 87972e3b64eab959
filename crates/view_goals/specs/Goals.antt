-- What the verification condition asks, goal by goal: each with the index that asks for it and why,
-- under what is known where it is asked. Beside the conditions (vcgen, specs/Conditions), to which
-- a law ties it: the goals, conjoined as the code asks for them, are the condition.
use Rattle.std.specs.Prelude.{ℕ, zero, suc, ◌+◌, Bool, true, false, length, slice_get, Option, Some, None}
use Rattle.alpha_words.specs.declared.insn.Insn.{Insn}
use Rattle.alpha_cfg.specs.Actions.{Always, When, Action, action_of}
use Rattle.alpha_cfg.specs.Actions as actions
use Rattle.alpha_cfg.specs.Flow.{jump_of}
use Rattle.word_ops.specs.declared.Rel.TheVariants.{Ult}
use Rattle.formula_tree.specs.Formulas.{ELeft, ELit, ESel, MMem, MUpd, Form, FFalse, FRel, FRd, FWr, FAnd, FImp}
use Rattle.formula_tree.specs.Substitution.{subst_form}
use Rattle.view_goals.specs.declared.rows.Why.{Why}
use Rattle.view_goals.specs.declared.rows.Why.TheVariants as why
use Rattle.vcgen.specs.Assignments.{for_reg, for_memory}
use Rattle.vcgen.specs.Conditions.{AnnotatedCode, address_exp, aligned_exp, computed_exp, reg_exp, taken_if, passed_if, one_step_less, invariant_at, entered}

-- A goal that an index asks for; goals that are all asked; and goals that are asked where a branch
-- at an index is taken, or isn't, by what is then known.
pub data Goals : Type 0 where
  Goal : ℕ → Why → Form → Goals
  Both : Goals → Goals → Goals
  Under : ℕ → Bool → Form → Goals → Goals

-- the formula that they are, conjoined as the code asks for them
abbrev pub asked : Goals → Form
asked (Goal i w A) = A
asked (Both S T) = FAnd (asked S) (asked T)
asked (Under i taken A T) = FImp A (asked T)

-- with each formula turned into another
abbrev pub goals_with : (Form → Form) → Goals → Goals
goals_with f (Goal i w A) = Goal i w (f A)
goals_with f (Both S T) = Both (goals_with f S) (goals_with f T)
goals_with f (Under i taken A T) = Under i taken (f A) (goals_with f T)

-- ---- one instruction, `next` being what is asked at an index

-- what is asked at an index, where there is one
abbrev pub goals_at : ℕ → (ℕ → Goals) → Option ℕ → Goals
goals_at i next None = Goal i why.Leave FFalse
goals_at i next (Some j) = next j

-- what an action at i asks, which branches to `jump`
abbrev pub action_goals : (ℕ → Goals) → Form → ℕ → Option ℕ → Action → Goals
action_goals next post i jump (actions.Compute to word) =
    goals_with (λ F. subst_form F (for_reg to (computed_exp word))) (next (i + 1))
action_goals next post i jump (actions.Load to base disp) =
    let a = address_exp base disp in
    Both (Goal i why.Load (FRd a))
    (goals_with (λ F. subst_form F (for_reg to (ESel MMem a))) (next (i + 1)))
action_goals next post i jump (actions.LoadAround to base disp) =
    let a = aligned_exp (address_exp base disp) in
    Both (Goal i why.Load (FRd a))
    (goals_with (λ F. subst_form F (for_reg to (ESel MMem a))) (next (i + 1)))
action_goals next post i jump (actions.Store from base disp) =
    let a = address_exp base disp in
    Both (Goal i why.Store (FWr a))
    (goals_with (λ F. subst_form F (for_memory (MUpd MMem a (reg_exp from)))) (next (i + 1)))
action_goals next post i jump (actions.Branching Always) = goals_at i next jump
action_goals next post i jump (actions.Branching (When cond reg)) =
    Both (Under i true (taken_if cond (reg_exp reg)) (goals_at i next jump))
    (Under i false (passed_if cond (reg_exp reg)) (next (i + 1)))
action_goals next post i jump actions.Return = Goal i why.Return post

-- what the instruction at i asks
abbrev pub insn_goals : (ℕ → Goals) → Form → ℕ → Insn → Goals
insn_goals next post i insn = action_goals next post i (jump_of i insn) (action_of insn)

-- the same where steps are counted: one has to be left, and after it there is one less
abbrev pub counted_goals : Option ℕ → (ℕ → Goals) → Form → ℕ → Insn → Goals
counted_goals None next post i insn = insn_goals next post i insn
counted_goals (Some bound) next post i insn =
    Both (Goal i why.Step (FRel Ult (ELit 0) ELeft))
    (insn_goals (λ j. goals_with one_step_less (next j)) post i insn)

-- outside the code nothing may go on
abbrev pub goals_of : Option ℕ → (ℕ → Goals) → Form → ℕ → Option Insn → Goals
goals_of bound next post i None = Goal i why.Leave FFalse
goals_of bound next post i (Some insn) = counted_goals bound next post i insn

-- ---- all of the code

-- the invariant of index i that index `from` asks for, if there is one, else what comes after
abbrev pub or_goals : ℕ → ℕ → Option Form → Goals → Goals
or_goals from i None T = T
or_goals from i (Some I) T = Goal from (why.Reach i) I

-- what index `from` asks, which goes on to index i, so many indices being followed: the invariant
-- of an annotated index, else what its instruction asks
abbrev pub goals_within : AnnotatedCode → ℕ → ℕ → ℕ → Goals
goals_within c zero from i = or_goals from i (invariant_at c.invs i) (Goal from why.Leave FFalse)
goals_within c (suc n) from i =
    or_goals from i (invariant_at c.invs i)
    (goals_of c.bound (goals_within c n i) c.post i (slice_get c.code i))

-- ---- the parts of the condition

-- A part: what is known where it begins, at this index, and what is then asked. At the start of
-- code that is the precondition, and all steps are left; at an annotated index its invariant.
pub record PartGoals : Type 0 where
  pub at : ℕ
  pub known : Form
  pub goals : Goals

-- the part of the start
abbrev pub entry_goals : AnnotatedCode → PartGoals
entry_goals c = record {
  at = 0;
  known = c.pre;
  goals = goals_with (entered c.bound) (goals_within c (length c.code) 0 0);
}

-- the part of an annotated index
abbrev pub inv_goals : AnnotatedCode → ℕ × Form → PartGoals
inv_goals c p = record {
  at = p.0;
  known = p.1;
  goals = goals_of c.bound (goals_within c (length c.code) p.0) c.post p.0 (slice_get c.code p.0);
}
