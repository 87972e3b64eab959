-- Rounds of rewriting on ids.
use Rattle.std.specs.Prelude.{◌≡◌, ℕ, Option, Some, None, List, [], ◌∷◌}
use Rattle.term_table.specs.Tree.{Tree}
use Rattle.term_table.specs.Table.{TableView}
use Rattle.word_ops.specs.declared.Rel.{Rel}
use Rattle.word_ops.specs.declared.Rel.TheVariants.{Eq}
use Rattle.formula_tree.specs.Formulas.{Exp, EVar, ELit, FRel}
use Rattle.formula_tree.specs.Variables.{PExp, subst_var_exp}
use Rattle.lf_terms.specs.ProofTerms.{up, move, swap, fact}
use Rattle.prover_class.specs.NormalForms.{Rewriting, rewritten, after_steps}
use Rattle.prover_sums.specs.declared.equations.Rewritten.{Rewritten}
use Rattle.prover_sums.specs.NormalForms.{RewrittenExp, IsRewritten}

-- after one step
abbrev pub after_step : Exp → Rewriting → RewrittenExp → RewrittenExp
after_step e s r = rewritten (subst_var_exp s.into 0 (PExp s.to)) (move (FRel Eq (up e) s.into) s.from s.to s.proof r.proof)

-- the steps are some, and the ids stand for what is after them
pub record IsNext (t : TableView) (e : Exp) (l : List Rewriting) (here : RewrittenExp) (r : Rewritten) : Type 0 where
  pub first : Rewriting
  pub others : List Rewriting
  pub some : l ≡ first ∷ others
  pub stands : IsRewritten t r (after_steps e l here)

-- a round ends the rewriting, or goes on with these ids
abbrev pub IsRound : TableView → Exp → List Rewriting → RewrittenExp → Option Rewritten → Type 0
IsRound t e l here None = l ≡ []
IsRound t e l here (Some r) = IsNext t e l here r

-- (r a b) by p of (r a c) and q of (eq b c)
abbrev pub second_moved : Rel → Exp → Exp → RewrittenExp → Tree → Tree
second_moved r a b q p = move (FRel r (up a) (EVar 0)) q.now b (swap b q.now q.proof) p

-- (r a w), where a equals the word v, of which and the word w it holds
abbrev pub first_moved : Rel → Exp → ℕ → ℕ → Tree → Tree
first_moved r a v w p = move (FRel r (EVar 0) (ELit w)) (ELit v) a (swap a (ELit v) p) (fact r v w)
