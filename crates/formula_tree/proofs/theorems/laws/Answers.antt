use Rattle.std.proofs.Common.{false}
use Rattle.formula_tree.proofs.Meaning.{subst-truth, shift-truth, closed-truth, reads-truth, stable-truth}
use Rattle.formula_tree.proofs.Parts.{var-truth, var-scope}
use Rattle.formula_tree.proofs.Scopes.{scope-subst}
use Rattle.formula_tree.proofs.theorems.laws.Goals as goal

pub returns : goal.returns
returns c = record {
  subst = subst-truth;
  variable = var-truth;
  shift = shift-truth;
  closed = closed-truth;
  reads = reads-truth;
  stable = stable-truth;
  subst_scope = λ r q F s G o h. scope-subst r q F s G G o (λ n t e. e) h;
  variable_scope = var-scope false;
}
