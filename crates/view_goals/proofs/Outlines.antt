-- Goals without their formulas: that the code alone tells them, and that with the condition's term they are the rows.
use Rattle.std.proofs.Common.{◌≡◌, ℕ, zero, suc, ◌+◌, Bool, true, false, cond, List, ◌∷◌, ◌++◌, Option, Some, None, is_some, refl, ◌∙◌, ap}
use Rattle.std.specs.Prelude.{slice_get, slice_index_or}
use Rattle.alpha_words.specs.declared.insn.Insn.{Insn}
use Rattle.alpha_cfg.specs.Actions.{Always, When, Action, action_of}
use Rattle.alpha_cfg.specs.Actions as actions
use Rattle.alpha_cfg.specs.Flow.{jump_of}
use Rattle.formula_tree.specs.Formulas.{Form}
use Rattle.lf_terms.specs.Encoding.{form_encoding}
use Rattle.vcgen.specs.Conditions.{AnnotatedCode, invariant_at, one_step_less}
use Rattle.view_goals.specs.declared.rows.Why.TheVariants as why
use Rattle.view_goals.specs.Goals.{Goals, Goal, Both, Under, asked, goals_with, goals_at, action_goals, counted_goals, goals_of, or_goals, goals_within}
use Rattle.view_goals.specs.Rows.{BothRow, UnderRow, goal_rows}
use Rattle.view_goals.specs.Inside.Outlines.{Outline, One, Two, Behind, outline, outline_at, action_outline, counted_outline, outline_of, or_outline, outline_within, rows_by}

-- ---- one index

module _ (code : List Insn) (marks : List Bool) (counted : Bool) where
  or-marked : (from i : ℕ) (b : Bool) (T : Outline) → b ≡ true → or_outline from i b T ≡ One from (why.Reach i)
  or-marked from i b T h = ap (λ k. cond k (One from (why.Reach i)) T) h

  or-unmarked : (from i : ℕ) (b : Bool) (T : Outline) → b ≡ false → or_outline from i b T ≡ T
  or-unmarked from i b T h = ap (λ k. cond k (One from (why.Reach i)) T) h

  -- at an annotated index its invariant is asked
  pub within-marked : (n from i : ℕ) → slice_index_or marks i false ≡ true → outline_within code marks counted n from i ≡ One from (why.Reach i)
  within-marked zero from i h = or-marked from i (slice_index_or marks i false) _ h
  within-marked (suc n) from i h = or-marked from i (slice_index_or marks i false) _ h

  -- at any other what its instruction asks
  pub within-unmarked : (n m from i : ℕ) → n ≡ suc m → slice_index_or marks i false ≡ false
      → outline_within code marks counted n from i ≡ outline_of counted (outline_within code marks counted m i) i (slice_get code i)
  within-unmarked n m from i e h =
      ap (λ k. outline_within code marks counted k from i) e ∙ or-unmarked from i (slice_index_or marks i false) _ h

-- ---- the code alone tells them

pub outline-with : (f : Form → Form) (T : Goals) → outline (goals_with f T) ≡ outline T
outline-with f (Goal i w A) = refl
outline-with f (Both S T) = λ k. Two (outline-with f S k) (outline-with f T k)
outline-with f (Under i taken A T) = ap (Behind i taken) (outline-with f T)

-- what is asked at each index has this outline
module _ (goals : ℕ → Goals) (next : ℕ → Outline) (are : (j : ℕ) → outline (goals j) ≡ next j) where
  outline-at : (i : ℕ) (to : Option ℕ) → outline (goals_at i goals to) ≡ outline_at i next to
  outline-at i None = refl
  outline-at i (Some j) = are j

  outline-action : (post : Form) (i : ℕ) (jump : Option ℕ) (a : Action) → outline (action_goals goals post i jump a) ≡ action_outline next i jump a
  outline-action post i jump (actions.Compute to word) = outline-with _ (goals (i + 1)) ∙ are (i + 1)
  outline-action post i jump (actions.Load to base disp) = ap (Two (One i why.Load)) (outline-with _ (goals (i + 1)) ∙ are (i + 1))
  outline-action post i jump (actions.LoadAround to base disp) = ap (Two (One i why.Load)) (outline-with _ (goals (i + 1)) ∙ are (i + 1))
  outline-action post i jump (actions.Store from base disp) = ap (Two (One i why.Store)) (outline-with _ (goals (i + 1)) ∙ are (i + 1))
  outline-action post i jump (actions.Branching Always) = outline-at i jump
  outline-action post i jump (actions.Branching (When test reg)) =
      λ k. Two (Behind i true (outline-at i jump k)) (Behind i false (are (i + 1) k))
  outline-action post i jump actions.Return = refl

outline-counted : (bound : Option ℕ) (goals : ℕ → Goals) (next : ℕ → Outline) → ((j : ℕ) → outline (goals j) ≡ next j)
    → (post : Form) (i : ℕ) (insn : Insn) → outline (counted_goals bound goals post i insn) ≡ counted_outline (is_some bound) next i insn
outline-counted None goals next are post i insn = outline-action goals next are post i (jump_of i insn) (action_of insn)
outline-counted (Some b) goals next are post i insn =
    ap (Two (One i why.Step))
    (outline-action (λ j. goals_with one_step_less (goals j)) next (λ j. outline-with one_step_less (goals j) ∙ are j) post i (jump_of i insn) (action_of insn))

pub outline-of : (bound : Option ℕ) (goals : ℕ → Goals) (next : ℕ → Outline) → ((j : ℕ) → outline (goals j) ≡ next j)
    → (post : Form) (i : ℕ) (o : Option Insn) → outline (goals_of bound goals post i o) ≡ outline_of (is_some bound) next i o
outline-of bound goals next are post i None = refl
outline-of bound goals next are post i (Some insn) = outline-counted bound goals next are post i insn

outline-or : (from i : ℕ) (o : Option Form) (T : Goals) (U : Outline) → outline T ≡ U → outline (or_goals from i o T) ≡ or_outline from i (is_some o) U
outline-or from i None T U e = e
outline-or from i (Some I) T U e = refl

-- the marks are those of the invariants' indices
pub outline-within : (c : AnnotatedCode) (marks : List Bool) → ((j : ℕ) → is_some (invariant_at c.invs j) ≡ slice_index_or marks j false)
    → (n from i : ℕ) → outline (goals_within c n from i) ≡ outline_within c.code marks (is_some c.bound) n from i
outline-within c marks are zero from i =
    outline-or from i (invariant_at c.invs i) _ _ refl ∙ ap (λ b. or_outline from i b (One from why.Leave)) (are i)
outline-within c marks are (suc n) from i =
    let next = outline_within c.code marks (is_some c.bound) n i in
    let rest = outline-of c.bound (goals_within c n i) next (outline-within c marks are n i) c.post i (slice_get c.code i) in
    outline-or from i (invariant_at c.invs i) _ _ rest
    ∙ ap (λ b. or_outline from i b (outline_of (is_some c.bound) next i (slice_get c.code i))) (are i)

-- ---- the rows

-- goals with each formula turned into another, read off the term of all of them
pub rows-by : (f : Form → Form) (d : ℕ) (T : Goals)
    → rows_by d (outline T) (form_encoding (asked (goals_with f T))) ≡ goal_rows (λ F. form_encoding (f F)) d T
rows-by f d (Goal i w A) = refl
rows-by f d (Both S T) = λ k. BothRow ∷ (rows-by f d S k ++ rows-by f d T k)
rows-by f d (Under i taken A T) = ap (λ l. UnderRow i taken (form_encoding (f A)) d ∷ l) (rows-by f (d + 1) T)
