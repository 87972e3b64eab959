-- Goals without their formulas: what the code alone tells of them.
use Rattle.std.specs.Prelude.{ℕ, zero, suc, ◌+◌, Bool, true, false, List, [], ◌∷◌, ◌++◌, slice_get, slice_index_or, Option, Some, None, if◌then◌else◌}
use Rattle.alpha_words.specs.declared.insn.Insn.{Insn}
use Rattle.alpha_cfg.specs.Actions.{Always, When, Action, action_of}
use Rattle.alpha_cfg.specs.Actions as actions
use Rattle.alpha_cfg.specs.Flow.{jump_of}
use Rattle.term_table.specs.Tree.{Tree}
use Rattle.view_goals.specs.declared.rows.Why.{Why}
use Rattle.view_goals.specs.declared.rows.Why.TheVariants as why
use Rattle.view_goals.specs.Goals.{Goals, Goal, Both, Under}
use Rattle.view_goals.specs.Rows.{RowView, GoalRow, BothRow, UnderRow}
use Rattle.view_goals.specs.Inside.Reading.{first_argument, last_argument}

-- a goal, two that are both asked, or what is asked behind a branch
pub data Outline : Type 0 where
  One : ℕ → Why → Outline
  Two : Outline → Outline → Outline
  Behind : ℕ → Bool → Outline → Outline

-- goals without their formulas
abbrev pub outline : Goals → Outline
outline (Goal i w A) = One i w
outline (Both S T) = Two (outline S) (outline T)
outline (Under i taken A T) = Behind i taken (outline T)

-- what is asked at an index, where there is one
abbrev pub outline_at : ℕ → (ℕ → Outline) → Option ℕ → Outline
outline_at i next None = One i why.Leave
outline_at i next (Some j) = next j

-- what an action at i asks, which branches to `jump`
abbrev pub action_outline : (ℕ → Outline) → ℕ → Option ℕ → Action → Outline
action_outline next i jump (actions.Compute to word) = next (i + 1)
action_outline next i jump (actions.Load to base disp) = Two (One i why.Load) (next (i + 1))
action_outline next i jump (actions.LoadAround to base disp) = Two (One i why.Load) (next (i + 1))
action_outline next i jump (actions.Store from base disp) = Two (One i why.Store) (next (i + 1))
action_outline next i jump (actions.Branching Always) = outline_at i next jump
action_outline next i jump (actions.Branching (When cond reg)) =
    Two (Behind i true (outline_at i next jump)) (Behind i false (next (i + 1)))
action_outline next i jump actions.Return = One i why.Return

-- what the instruction at i asks
abbrev pub insn_outline : (ℕ → Outline) → ℕ → Insn → Outline
insn_outline next i insn = action_outline next i (jump_of i insn) (action_of insn)

-- the same where steps are counted, or not
abbrev pub counted_outline : Bool → (ℕ → Outline) → ℕ → Insn → Outline
counted_outline false next i insn = insn_outline next i insn
counted_outline true next i insn = Two (One i why.Step) (insn_outline next i insn)

-- outside the code nothing may go on
abbrev pub outline_of : Bool → (ℕ → Outline) → ℕ → Option Insn → Outline
outline_of counted next i None = One i why.Leave
outline_of counted next i (Some insn) = counted_outline counted next i insn

-- the invariant of a marked index i that index `from` asks for, else what comes after
abbrev pub or_outline : ℕ → ℕ → Bool → Outline → Outline
or_outline from i marked T = if marked then One from (why.Reach i) else T

-- what index `from` asks, which goes on to index i, so many indices being followed
abbrev pub outline_within : List Insn → List Bool → Bool → ℕ → ℕ → ℕ → Outline
outline_within code marks counted zero from i =
    or_outline from i (slice_index_or marks i false) (One from why.Leave)
outline_within code marks counted (suc n) from i =
    or_outline from i (slice_index_or marks i false)
    (outline_of counted (outline_within code marks counted n i) i (slice_get code i))

-- the rows of a tree that has this outline and stands under d branches
abbrev pub rows_by : ℕ → Outline → Tree → List RowView
rows_by d (One i w) t = GoalRow i w t d ∷ []
rows_by d (Two S T) t = BothRow ∷ (rows_by d S (first_argument t) ++ rows_by d T (last_argument t))
rows_by d (Behind i taken T) t =
    UnderRow i taken (first_argument t) d ∷ rows_by (d + 1) T (last_argument t)
