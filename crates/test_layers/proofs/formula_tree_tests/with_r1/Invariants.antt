use Rattle.std.proofs.Common.{◌≡◌, length, map}
use Rattle.formula_tree.specs.Sizes.{binders, HaveRoom}
use Rattle.formula_tree.specs.Views.{exp_view, form_view}
use Rattle.test_layers.proofs.formula_tree_tests.with_r1.Given as goal

abbrev pub invariant-loop-r : goal.invariant-loop-r
invariant-loop-r l = (length l.regs.items ≡ l.r) × HaveRoom (binders (form_view l.form)) 0 (map exp_view l.regs.items)
