use Rattle.formula_tree.specs.Views.{form_view}
use Rattle.formula_tree.proofs.Counting.{form_count}
use Rattle.formula_tree.proofs.form.Form.+subst_at.Given as goal

abbrev pub decreases-subst_at : goal.decreases-subst_at
decreases-subst_at l = form_count (form_view l.self.now)
