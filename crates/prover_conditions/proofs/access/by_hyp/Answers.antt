use Rattle.std.proofs.Common.{Option, sym, ◌∙◌, ap, subst}
use Rattle.term_table.specs.Tree.{Tree}
use Rattle.term_table.specs.Table.{tree_at, Stands}
use Rattle.formula_tree.specs.Formulas.{Form}
use Rattle.prover_class.specs.Access.{without_access, by_hyp}
use Rattle.prover_conditions.specs.Inside.AccessIds.{access_of}
use Rattle.prover_goals.proofs.Kept.{context-more}
use Rattle.prover_goals.proofs.WordRows.{after_now}
use Rattle.prover_conditions.proofs.AccessRows.{hyp-right}
use Rattle.prover_conditions.proofs.access.by_hyp.Goals as goal

pub returns-in_ok-moved-in-Right-clause-exact : goal.returns-in_ok-moved-in-Right-clause-exact
returns-in_ok-moved-in-Right-clause-exact c = λ Γ a A g qa qf.
    let at = c.in-Right.ensures.is A qf in
    let out = c.args.context.now.outside in
    let k = access_of c.args.asked.now.access in
    let h = tree_at c.args.table.now c.args.proof in
    let is = ap (λ (Z : Form). by_hyp (without_access c.args.asked.now.counted) out Γ k a Z h) at.is ∙ hyp-right (without_access c.args.asked.now.counted) out Γ k a c.in-Right.given at.address h in
    subst (λ (z : Option Tree). Stands c.by_right.new.table z c.in_ok-moved-in-Right.moved) (sym is) (c.in_ok-moved-in-Right.ensures.exact at.address a at.address_is qa)

pub returns-in_ok-moved-in-Right-clause-after : goal.returns-in_ok-moved-in-Right-clause-after
returns-in_ok-moved-in-Right-clause-after c =
    let n = c.by_right.new in
    let d = c.args.context.now in
    after_now n.table n.search d c.in_ok-moved-in-Right.ensures.search (context-more d c.args.table.now n.table c.requires.context c.in_ok-moved-in-Right.ensures.extends)
