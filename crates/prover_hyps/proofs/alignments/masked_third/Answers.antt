use Rattle.std.proofs.Common.{[], ◌∷◌, subst}
use Rattle.word_ops.specs.declared.Op.TheVariants.{Band}
use Rattle.word_ops.specs.declared.Rel.TheVariants.{Eq}
use Rattle.term_table.specs.Tree.{Tree}
use Rattle.lf_signature.specs.Nodes.{IsIdOf}
use Rattle.lf_signature.specs.Terms.{op_term}
use Rattle.lf_signature.specs.declared.numbers.TheConstants.{AND_ZERO}
use Rattle.formula_tree.specs.Formulas.{EVar, EOp, FRel}
use Rattle.lf_terms.specs.Encoding.{exp_encoding}
use Rattle.lf_terms.specs.ProofTerms.{up}
use Rattle.prover_ids.proofs.Standing.{own, stands, more, twice, ruled, moved_to}
use Rattle.prover_hyps.proofs.alignments.masked_third.Goals as goal

pub returns-clause-is : goal.returns-clause-is
returns-clause-is c = λ x e z qx qe qz.
    let t = c.args.table.now in
    let e1 = c.in_ok-from.ensures.extends in
    let e2 = c.in_ok-equal.ensures.extends in
    let e3 = c.in_ok-form.ensures.extends in
    let x2 = twice e1 e2 in
    let x3 = twice x2 e3 in
    let a = stands t (exp_encoding x) c.args.a c.requires.a qx in
    let whole = stands t (exp_encoding e) c.args.whole c.requires.whole qe in
    let zero = stands t (exp_encoding z) c.args.zero c.requires.zero qz in
    let second = own t c.args.second c.requires.second in
    let from0 = subst (λ k. IsIdOf c.oper.new.table k c.in_ok-from.from) (λ j. op_term Band (qx j) (qz j)) c.in_ok-from.ensures.id in
    let from = more from0 (twice e2 e3) in
    let equal = more (ruled (λ k. IsIdOf c.rule_term.new.table k c.in_ok-equal.equal) AND_ZERO (λ j. (more a e1).is j ∷ []) c.in_ok-equal.ensures.id) e3 in
    let form = c.in_ok-form.ensures.is e (more whole x2).is in
    moved_to (λ (k : Tree). IsIdOf c.moved.new.table k c.in_ok-moved.field-0) c.in_ok-moved.ensures.is (FRel Eq (up e) (EVar 0)) (EOp Band x z) z form from (more zero x3) equal (more second x3)
