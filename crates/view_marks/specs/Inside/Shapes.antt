-- The shape of goals, as rows have it.
use Rattle.std.specs.Prelude.{List, [], ◌∷◌, ◌++◌}
use Rattle.view_goals.specs.Goals.{Goals, Goal, Both, Under}
use Rattle.view_goals.specs.declared.rows.Row.{Row}
use Rattle.view_goals.specs.declared.rows.Row.TheVariants as R

-- a goal; two, that are both asked; or what is asked under a hypothesis
pub data RowKind : Type 0 where
  Alone : RowKind
  Two : RowKind
  Given : RowKind

-- the kind of a row
abbrev pub row_kind : Row → RowKind
row_kind (R.Goal at why formula depth) = Alone
row_kind R.Both = Two
row_kind (R.Under at taken known depth) = Given

-- the kinds of goals, one a row: before the goals that are both asked, and before those under a hypothesis
abbrev pub kinds : Goals → List RowKind
kinds (Goal i why A) = Alone ∷ []
kinds (Both S T) = Two ∷ (kinds S ++ kinds T)
kinds (Under i taken A T) = Given ∷ kinds T
