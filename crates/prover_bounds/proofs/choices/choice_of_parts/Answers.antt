use Rattle.std.proofs.Common.{sym, ◌∙◌, ap, subst}
use Rattle.formula_tree.specs.Formulas.{Exp, EOp}
use Rattle.lf_terms.specs.Encoding.{exp_encoding}
use Rattle.prover_class.specs.Bounds.{WordBound, least_bound, op_bounds, uppers, upper_bound}
use Rattle.prover_bounds.specs.declared.bounds.Side.TheVariants.{Upper}
use Rattle.prover_bounds.specs.Candidates.{limit}
use Rattle.prover_bounds.specs.Choices.{IsChoice}
use Rattle.prover_bounds.proofs.Scans.{least-append}
use Rattle.prover_bounds.proofs.choices.choice_of_parts.Goals as goal

pub returns : goal.returns
returns c = λ Γ x p g q v w.
    let e = EOp c.args.parts.now.op p.left p.right in
    let parts = op_bounds c.args.parts.now.op p.left p.right (upper_bound Γ p.left) (upper_bound Γ p.right) in
    let last = c.by_parts-best.ensures Γ p.left p.right p.right_is v w in
    let found = c.by_hyps.ensures Γ e (least_bound parts (limit Upper e)) g (q ∙ ap exp_encoding p.is) last in
    subst (λ (z : Exp). IsChoice Upper Γ z (upper_bound Γ z) c.by_hyps.result) (sym p.is)
    (subst (λ (b : WordBound). IsChoice Upper Γ e b c.by_hyps.result) (sym (least-append (uppers e Γ) parts (limit Upper e))) found)
