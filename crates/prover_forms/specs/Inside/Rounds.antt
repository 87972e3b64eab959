-- Rounds of rewriting, of which only the expressions are kept.
use Rattle.std.specs.Prelude.{◌≡◌, ℕ, Option, Some, None, List, [], ◌∷◌}
use Rattle.term_table.specs.Table.{TableView, tree_at}
use Rattle.formula_tree.specs.Formulas.{Exp}
use Rattle.formula_tree.specs.Variables.{PExp, subst_var_exp}
use Rattle.lf_terms.specs.Encoding.{exp_encoding}
use Rattle.prover_class.specs.NormalForms.{Rewriting, Rewritten, after_steps, normalized}

-- the whole expression after the rewritings; itself where there are none
abbrev pub expression_after : Exp → List Rewriting → Exp
expression_after x [] = x
expression_after x (s ∷ l) = expression_after (subst_var_exp s.into 0 (PExp s.to)) l

-- the rewritings are some, and the id stands for the expression after them
pub record IsNextExp (t : TableView) (x : Exp) (l : List Rewriting) (id : ℕ) : Type 0 where
  pub first : Rewriting
  pub others : List Rewriting
  pub some : l ≡ first ∷ others
  pub is : tree_at t id ≡ exp_encoding (expression_after x l)

-- none where there are no rewritings, else the id of the expression after them
abbrev pub IsRoundOf : TableView → Exp → List Rewriting → Option ℕ → Type 0
IsRoundOf t x l None = l ≡ []
IsRoundOf t x l (Some id) = IsNextExp t x l id

-- the id stands for what is rewritten, whatever its proof is
abbrev pub StandsFor : TableView → Rewritten → ℕ → Type 0
StandsFor t r id = tree_at t id ≡ exp_encoding r.now

-- one round goes on, to what the second fact holds of
pub record GoesOn (Q : Rewritten → Type 0) (e : Exp) (l : List Rewriting) (here : Rewritten) : Type 0 where
  pub first : Rewriting
  pub others : List Rewriting
  pub some : l ≡ first ∷ others
  pub holds : Q (after_steps e l here)

-- the fact holds of what leads to the goal with at most n rounds to go
pub record LeadsTo (P : Rewritten → Type 0) (outside n : ℕ) (e : Exp) (goal : Rewritten) : Type 0 where
  pub here : Rewritten
  pub holds : P here
  pub leads : normalized outside n e here ≡ goal
