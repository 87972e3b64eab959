use Rattle.std.proofs.Common.{◌∙◌, ap, subst}
use Rattle.word_ops.specs.declared.Op.TheVariants.{Band}
use Rattle.word_ops.specs.declared.Rel.TheVariants.{Eq}
use Rattle.term_table.specs.Tree.{Tree, shift}
use Rattle.lf_signature.specs.Nodes.{IsIdOf}
use Rattle.lf_signature.specs.Terms.{op_term, rel_term}
use Rattle.formula_tree.specs.Formulas.{EVar, EOp, FRel}
use Rattle.lf_terms.specs.Encoding.{exp_encoding}
use Rattle.lf_terms.proofs.Encoded.{shift-exp_encoding}
use Rattle.lf_terms.specs.ProofTerms.{up}
use Rattle.prover_ids.proofs.Standing.{own, stands, more, twice, moved_to}
use Rattle.prover_hyps.proofs.alignments.masked_second.Goals as goal

pub returns-clause-is : goal.returns-clause-is
returns-clause-is c = λ x i e z qx qi qe qz.
    let t = c.args.table.now in
    let e1 = c.in_ok-equal.ensures.extends in
    let e2 = c.in_ok-left.ensures.extends in
    let e3 = c.in_ok-under.ensures.extends in
    let e4 = c.in_ok-place.ensures.extends in
    let e5 = c.in_ok-right.ensures.extends in
    let e6 = c.in_ok-form.ensures.extends in
    let x2 = twice e1 e2 in
    let y4 = twice e3 e4 in
    let y6 = twice e5 e6 in
    let x6 = twice x2 (twice y4 y6) in
    let a = stands t (exp_encoding x) c.args.a c.requires.a qx in
    let inner = stands t (exp_encoding i) c.args.inner c.requires.inner qi in
    let whole = stands t (exp_encoding e) c.args.whole c.requires.whole qe in
    let zero = stands t (exp_encoding z) c.args.zero c.requires.zero qz in
    let first = own t c.args.first c.requires.first in
    let left0 = subst (λ k. IsIdOf c.raised.new.table k c.in_ok-left.left) (ap (shift 1 0) (more whole e1).is ∙ shift-exp_encoding e 1 0) c.in_ok-left.ensures.id in
    let left = more left0 (twice y4 e5) in
    let under0 = subst (λ k. IsIdOf c.raised-2.new.table k c.in_ok-under.under) (ap (shift 1 0) (more a x2).is ∙ shift-exp_encoding x 1 0) c.in_ok-under.ensures.id in
    let under = more under0 e4 in
    let right = subst (λ k. IsIdOf c.oper.new.table k c.in_ok-right.right) (λ j. op_term Band (under.is j) (c.in_ok-place.ensures.id.1 j)) c.in_ok-right.ensures.id in
    let form = subst (λ k. IsIdOf c.relation.new.table k c.in_ok-form.form) (λ j. rel_term Eq (left.is j) (right.is j)) c.in_ok-form.ensures.id in
    let equal = more c.in_ok-equal.ensures.id (twice e2 (twice y4 y6)) in
    moved_to (λ (k : Tree). IsIdOf c.moved.new.table k c.in_ok-proof.proof) c.in_ok-proof.ensures.is (FRel Eq (up e) (EOp Band (up x) (EVar 0))) i z form (more inner x6) (more zero x6) equal (more first x6)
