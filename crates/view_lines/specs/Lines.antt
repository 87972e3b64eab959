-- The lines of the listing of goals.
use Rattle.std.specs.Prelude.{ℕ, List, Option, Some, None}
use Rattle.term_table.specs.Tree.{Tree}

-- A line of the listing of goals: what stands before its formula, and the formula as a term over
-- the machine's variables, where it has one.
pub record GoalLine : Type 0 where
  pub label : List ℕ
  pub term : Option Tree

-- a line of words alone
abbrev pub plain_line : List ℕ → GoalLine
plain_line label = record { label = label; term = None }

-- a line that ends with a formula
abbrev pub before : List ℕ → Tree → GoalLine
before label t = record { label = label; term = Some t }
