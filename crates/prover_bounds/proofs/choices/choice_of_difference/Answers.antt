use Rattle.std.proofs.Common.{true, sym, ◌∙◌, ap, subst}
use Rattle.word_ops.specs.declared.Op.TheVariants.{Sub}
use Rattle.formula_tree.specs.Formulas.{Exp, ELit, EOp}
use Rattle.lf_terms.specs.Encoding.{exp_encoding}
use Rattle.prover_class.specs.Bounds.{greatest_bound, part_lowers, lower_bound}
use Rattle.prover_bounds.specs.declared.bounds.Side.TheVariants.{Lower}
use Rattle.prover_bounds.specs.Candidates.{limit}
use Rattle.prover_bounds.specs.Choices.{IsChoice}
use Rattle.prover_bounds.proofs.choices.choice_of_difference.Goals as goal

pub returns : goal.returns
returns c = λ Γ x p g q v.
    let n = c.args.difference.now.word in
    let e = EOp Sub p.left (ELit n) in
    let part = greatest_bound (part_lowers true Sub p.left (ELit n) (lower_bound true Γ p.left)) (limit Lower e) in
    let found = c.by_hyps.ensures Γ e part g (q ∙ ap exp_encoding p.is) (c.by_difference-best.ensures Γ p.left v) in
    subst (λ (z : Exp). IsChoice Lower Γ z (lower_bound true Γ z) c.by_hyps.result) (sym p.is) found
