use Rattle.std.proofs.Common.{Some, sym, ◌∙◌}
use Rattle.term_table.specs.Subst.{erase}
use Rattle.term_table.specs.Table.{tree_at}
use Rattle.hereditary_subst.specs.Inside.Spare.{Spares}
use Rattle.hereditary_subst.proofs.Rows.{memo-more}
use Rattle.hereditary_subst.proofs.Puts.{spare_type}
use Rattle.hereditary_subst.proofs.substitute.+typed.Goals as goal

pub subst_type_at-returns-in-Some-clause-tree : goal.subst_type_at-returns-in-Some-clause-tree
subst_type_at-returns-in-Some-clause-tree t c =
    let t₀ = c.args.table.now in
    let h : Spares c.spare_at.new.table (tree_at t₀ c.args.m) c.args.x (tree_at t₀ c.args.id) (Some c.in-Some.r) = rw c.in-Some.is at c.in_ok-r.ensures.tree in
    spare_type (erase (tree_at t₀ c.args.ty)) c.spare_at.new.table (tree_at t₀ c.args.m) c.args.x (tree_at t₀ c.args.id) c.in-Some.r h (sym c.is_term.ensures ∙ c.if-is_term.false)

pub subst_type_parts-returns-in_ok-intern-in-TApp-clause-memo : goal.subst_type_parts-returns-in_ok-intern-in-TApp-clause-memo
subst_type_parts-returns-in_ok-intern-in-TApp-clause-memo t c = memo-more _ _ _ c.in_ok-b-in-TApp.ensures.memo c.in_ok-intern-in-TApp.ensures.extends

pub subst_product-returns-clause-memo : goal.subst_product-returns-clause-memo
subst_product-returns-clause-memo t c = memo-more _ _ _ c.in_ok-d.ensures.memo c.in_ok-intern.ensures.extends
