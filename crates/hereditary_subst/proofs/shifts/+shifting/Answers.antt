use Rattle.term_table.specs.Table.{tree_at}
use Rattle.hereditary_subst.proofs.Rows.{memo-more}
use Rattle.hereditary_subst.proofs.Spare.{shifted_scoped}
use Rattle.hereditary_subst.proofs.shifts.+shifting.Goals as goal

pub shift_at-returns-then-is_within-clause-tree : goal.shift_at-returns-then-is_within-clause-tree
shift_at-returns-then-is_within-clause-tree t c =
    (c.requires.known, shifted_scoped c.args.by c.args.from (tree_at c.args.table.now c.args.id) (c.laws.ensures.small c.args.id c.requires.known) (c.is_within.ensures c.if-is_within.true))

pub shift_parts-returns-in_ok-shift_variable-in-Var-clause-memo : goal.shift_parts-returns-in_ok-shift_variable-in-Var-clause-memo
shift_parts-returns-in_ok-shift_variable-in-Var-clause-memo t c = memo-more _ _ _ c.requires.memo c.shift_variable.ensures.extends

pub shift_parts-returns-in_err-shift_variable-in-Var-clause-memo : goal.shift_parts-returns-in_err-shift_variable-in-Var-clause-memo
shift_parts-returns-in_err-shift_variable-in-Var-clause-memo t c = memo-more _ _ _ c.requires.memo c.shift_variable.ensures.extends

pub shift_parts-returns-in_ok-intern-in-App-clause-memo : goal.shift_parts-returns-in_ok-intern-in-App-clause-memo
shift_parts-returns-in_ok-intern-in-App-clause-memo t c = memo-more _ _ _ c.in_ok-b-in-App.ensures.memo c.in_ok-intern-in-App.ensures.extends

pub shift_parts-returns-in_ok-intern-in-Lam-clause-memo : goal.shift_parts-returns-in_ok-intern-in-Lam-clause-memo
shift_parts-returns-in_ok-intern-in-Lam-clause-memo t c = memo-more _ _ _ c.in_ok-c-in-Lam.ensures.memo c.in_ok-intern-in-Lam.ensures.extends

pub shift_type_parts-returns-in_ok-intern-in-TApp-clause-memo : goal.shift_type_parts-returns-in_ok-intern-in-TApp-clause-memo
shift_type_parts-returns-in_ok-intern-in-TApp-clause-memo t c = memo-more _ _ _ c.in_ok-b-in-TApp.ensures.memo c.in_ok-intern-in-TApp.ensures.extends

pub shift_type_parts-returns-in_ok-intern-in-Pi-clause-memo : goal.shift_type_parts-returns-in_ok-intern-in-Pi-clause-memo
shift_type_parts-returns-in_ok-intern-in-Pi-clause-memo t c = memo-more _ _ _ c.in_ok-d-in-Pi.ensures.memo c.in_ok-intern-in-Pi.ensures.extends
