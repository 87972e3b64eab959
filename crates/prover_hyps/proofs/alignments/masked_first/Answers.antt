use Rattle.std.proofs.Common.{[], ◌∷◌, subst}
use Rattle.word_ops.specs.declared.Op.TheVariants.{Band}
use Rattle.word_ops.specs.declared.Rel.TheVariants.{Eq}
use Rattle.lf_signature.specs.Nodes.{IsIdOf}
use Rattle.lf_signature.specs.Terms.{op_term}
use Rattle.lf_signature.specs.declared.numbers.TheConstants.{AND_ASSOC}
use Rattle.formula_tree.specs.Formulas.{EVar, EOp, FRel}
use Rattle.term_table.specs.Tree.{Tree}
use Rattle.lf_terms.specs.Encoding.{exp_encoding}
use Rattle.lf_terms.specs.ProofTerms.{up}
use Rattle.prover_ids.proofs.Standing.{stands, more, twice, ruled, moved_to}
use Rattle.prover_hyps.proofs.alignments.masked_first.Goals as goal

pub returns-clause-is : goal.returns-clause-is
returns-clause-is c = λ x y s i e qx qy qs qi qe.
    let t = c.args.table.now in
    let e1 = c.in_ok-to.ensures.extends in
    let e2 = c.in_ok-equal.ensures.extends in
    let e3 = c.in_ok-itself.ensures.extends in
    let e4 = c.in_ok-form.ensures.extends in
    let x2 = twice e1 e2 in
    let x3 = twice x2 e3 in
    let a = stands t (exp_encoding x) c.args.a c.requires.a qx in
    let word = stands t (exp_encoding y) c.args.word c.requires.word qy in
    let seven = stands t (exp_encoding s) c.args.seven c.requires.seven qs in
    let whole = stands t (exp_encoding e) c.args.whole c.requires.whole qe in
    let to0 = subst (λ z. IsIdOf c.oper.new.table z c.in_ok-to.to) (λ j. op_term Band (qx j) (qi j)) c.in_ok-to.ensures.id in
    let to = more to0 (twice (twice e2 e3) e4) in
    let equal = more (ruled (λ z. IsIdOf c.rule_term.new.table z c.in_ok-equal.equal) AND_ASSOC (λ j. (more a e1).is j ∷ (more word e1).is j ∷ (more seven e1).is j ∷ []) c.in_ok-equal.ensures.id) (twice e3 e4) in
    let itself = more (c.in_ok-itself.ensures.is e (more whole x2).is) e4 in
    let form = c.in_ok-form.ensures.is e (more whole x3).is in
    moved_to (λ (z : Tree). IsIdOf c.moved.new.table z c.in_ok-proof.proof) c.in_ok-proof.ensures.is (FRel Eq (up e) (EVar 0)) e (EOp Band x i) form (more whole (twice x3 e4)) to equal itself
