use Rattle.std.proofs.Common.{Option, sym, ap, subst}
use Rattle.term_table.specs.Tree.{Tree}
use Rattle.term_table.specs.Table.{tree_at, Stands}
use Rattle.formula_tree.specs.Formulas.{Form, FAll}
use Rattle.prover_class.specs.Access.{without_access, by_hyp}
use Rattle.prover_conditions.specs.Inside.AccessIds.{access_of}
use Rattle.prover_conditions.proofs.access.by_quantified.Goals as goal

pub returns-in_ok-found-in-Imp-clause-exact : goal.returns-in_ok-found-in-Imp-clause-exact
returns-in_ok-found-in-Imp-clause-exact c = λ Γ a B g qa qb.
    let n = c.args.context.now in
    let k = access_of c.args.asked.now.access in
    let h = tree_at c.args.table.now c.args.proof in
    let at = c.in-Imp.ensures.is B qb in
    let is = ap (λ (Z : Form). by_hyp (without_access c.args.asked.now.counted) n.outside Γ k a (FAll Z) h) at.is in
    subst (λ (z : Option Tree). Stands c.by_grant.new.table z c.in_ok-found-in-Imp.found) (sym is) (c.in_ok-found-in-Imp.ensures.exact Γ a at.left at.right (record { hyps = g; address = qa; premise = at.left_is }) at.right_is)
