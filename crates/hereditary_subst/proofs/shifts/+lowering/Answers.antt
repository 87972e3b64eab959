use Rattle.term_table.specs.Table.{tree_at}
use Rattle.hereditary_subst.proofs.Rows.{memo-more}
use Rattle.hereditary_subst.proofs.Spare.{shift-scoped}
use Rattle.hereditary_subst.proofs.shifts.+lowering.Goals as goal

pub lower_at-returns-then-is_within-clause-tree : goal.lower_at-returns-then-is_within-clause-tree
lower_at-returns-then-is_within-clause-tree t c =
    (c.requires.known, shift-scoped 1 c.args.x (tree_at c.args.table.now c.args.id) (c.is_within.ensures c.if-is_within.true))

pub lower_parts-returns-in_ok-lower_variable-in-Var-clause-memo : goal.lower_parts-returns-in_ok-lower_variable-in-Var-clause-memo
lower_parts-returns-in_ok-lower_variable-in-Var-clause-memo t c = memo-more _ _ _ c.requires.memo c.lower_variable.ensures.extends

pub lower_parts-returns-in_err-lower_variable-in-Var-clause-memo : goal.lower_parts-returns-in_err-lower_variable-in-Var-clause-memo
lower_parts-returns-in_err-lower_variable-in-Var-clause-memo t c = memo-more _ _ _ c.requires.memo c.lower_variable.ensures.extends

pub lower_parts-returns-in_ok-intern-in-App-clause-memo : goal.lower_parts-returns-in_ok-intern-in-App-clause-memo
lower_parts-returns-in_ok-intern-in-App-clause-memo t c = memo-more _ _ _ c.in_ok-b-in-App.ensures.memo c.in_ok-intern-in-App.ensures.extends

pub lower_parts-returns-in_ok-intern-in-Lam-clause-memo : goal.lower_parts-returns-in_ok-intern-in-Lam-clause-memo
lower_parts-returns-in_ok-intern-in-Lam-clause-memo t c = memo-more _ _ _ c.in_ok-c-in-Lam.ensures.memo c.in_ok-intern-in-Lam.ensures.extends

pub lower_type_parts-returns-in_ok-intern-in-TApp-clause-memo : goal.lower_type_parts-returns-in_ok-intern-in-TApp-clause-memo
lower_type_parts-returns-in_ok-intern-in-TApp-clause-memo t c = memo-more _ _ _ c.in_ok-b-in-TApp.ensures.memo c.in_ok-intern-in-TApp.ensures.extends

pub lower_type_parts-returns-in_ok-intern-in-Pi-clause-memo : goal.lower_type_parts-returns-in_ok-intern-in-Pi-clause-memo
lower_type_parts-returns-in_ok-intern-in-Pi-clause-memo t c = memo-more _ _ _ c.in_ok-d-in-Pi.ensures.memo c.in_ok-intern-in-Pi.ensures.extends
