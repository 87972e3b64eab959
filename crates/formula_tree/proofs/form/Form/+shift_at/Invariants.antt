use Rattle.formula_tree.specs.Views.{form_view}
use Rattle.formula_tree.proofs.Counting.{form_count}
use Rattle.formula_tree.proofs.form.Form.+shift_at.Given as goal

abbrev pub decreases-shift_at : goal.decreases-shift_at
decreases-shift_at l = form_count (form_view l.self.now)
