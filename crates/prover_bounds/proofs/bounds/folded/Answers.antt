use Rattle.std.proofs.Common.{ℕ, subst}
use Rattle.word_ops.specs.Words.{word_of}
use Rattle.formula_tree.specs.Formulas.{ELit, EOp}
use Rattle.lf_signature.specs.Nodes.{IsIdOf}
use Rattle.lf_terms.specs.Encoding.{exp_encoding}
use Rattle.prover_ids.proofs.Standing.{own, more, moved_to, twice}
use Rattle.prover_bounds.specs.Candidates.{placed}
use Rattle.hereditary_subst.proofs.Rows.{known-more, memo-more}
use Rattle.prover_bounds.proofs.bounds.folded.Goals as goal

pub returns-clause-is : goal.returns-clause-is
returns-clause-is c = λ x q.
    let a = c.args in
    let e1 = c.in_ok-form.ensures.extends in
    let e2 = c.in_ok-from.ensures.extends in
    let e3 = c.in_ok-to.ensures.extends in
    let e4 = c.in_ok-equal.ensures.extends in
    let to = subst (λ (n : ℕ). IsIdOf c.word.new.table (exp_encoding (ELit n)) c.in_ok-to.to) c.apply-value.ensures c.in_ok-to.ensures.known in
    let m =
    moved_to (λ z. IsIdOf c.moved.new.table z c.in_ok-proof.proof) c.in_ok-proof.ensures.is (placed a.side x) (EOp a.op (ELit a.v) (ELit a.w)) (ELit (word_of a.op a.v a.w))
    (more (more (more (c.in_ok-form.ensures.is x q) e2) e3) e4) (more (more c.in_ok-from.ensures.id e3) e4) (more to e4) c.in_ok-equal.ensures.id
    (more (more (more (more (own a.table.now a.proof c.requires.proof) e1) e2) e3) e4) in
    record { known = m.known; value = c.apply-value.ensures; is = m.is }

pub returns-in_err-from-clause-extends : goal.returns-in_err-from-clause-extends
returns-in_err-from-clause-extends c = twice c.in_ok-form.ensures.extends c.oper_of_words.ensures.extends

pub returns-in_err-from-clause-memo : goal.returns-in_err-from-clause-memo
returns-in_err-from-clause-memo c = memo-more _ _ _ c.in_ok-form.ensures.memo c.oper_of_words.ensures.extends

pub returns-in_err-to-clause-extends : goal.returns-in_err-to-clause-extends
returns-in_err-to-clause-extends c = twice (twice c.in_ok-form.ensures.extends c.in_ok-from.ensures.extends) c.word.ensures.extends

pub returns-in_err-to-clause-memo : goal.returns-in_err-to-clause-memo
returns-in_err-to-clause-memo c = memo-more _ _ _ c.in_ok-form.ensures.memo (twice c.in_ok-from.ensures.extends c.word.ensures.extends)

pub returns-in_err-equal-clause-extends : goal.returns-in_err-equal-clause-extends
returns-in_err-equal-clause-extends c = twice (twice (twice c.in_ok-form.ensures.extends c.in_ok-from.ensures.extends) c.in_ok-to.ensures.extends) c.calc.ensures.extends

pub returns-in_err-equal-clause-memo : goal.returns-in_err-equal-clause-memo
returns-in_err-equal-clause-memo c = memo-more _ _ _ c.in_ok-form.ensures.memo (twice (twice c.in_ok-from.ensures.extends c.in_ok-to.ensures.extends) c.calc.ensures.extends)

pub returns-in_err-proof-clause-extends : goal.returns-in_err-proof-clause-extends
returns-in_err-proof-clause-extends c = twice (twice (twice (twice c.in_ok-form.ensures.extends c.in_ok-from.ensures.extends) c.in_ok-to.ensures.extends) c.in_ok-equal.ensures.extends) c.moved.ensures.extends

pub returns-in_err-proof-clause-memo : goal.returns-in_err-proof-clause-memo
returns-in_err-proof-clause-memo c = memo-more _ _ _ c.in_ok-form.ensures.memo (twice (twice (twice c.in_ok-from.ensures.extends c.in_ok-to.ensures.extends) c.in_ok-equal.ensures.extends) c.moved.ensures.extends)

pub moved-requires-clause-form : goal.moved-requires-clause-form
moved-requires-clause-form c = known-more _ _ _ c.in_ok-form.ensures.known (twice (twice c.in_ok-from.ensures.extends c.in_ok-to.ensures.extends) c.in_ok-equal.ensures.extends)

pub moved-requires-clause-a : goal.moved-requires-clause-a
moved-requires-clause-a c = known-more _ _ _ c.in_ok-from.ensures.id.known (twice c.in_ok-to.ensures.extends c.in_ok-equal.ensures.extends)

pub moved-requires-clause-b : goal.moved-requires-clause-b
moved-requires-clause-b c = known-more _ _ _ c.in_ok-to.ensures.known.known c.in_ok-equal.ensures.extends

pub moved-requires-clause-equal : goal.moved-requires-clause-equal
moved-requires-clause-equal c = c.in_ok-equal.ensures.id.known

pub moved-requires-clause-proof : goal.moved-requires-clause-proof
moved-requires-clause-proof c = known-more _ _ _ c.requires.proof (twice (twice (twice c.in_ok-form.ensures.extends c.in_ok-from.ensures.extends) c.in_ok-to.ensures.extends) c.in_ok-equal.ensures.extends)

pub returns-clause-extends : goal.returns-clause-extends
returns-clause-extends c = twice (twice (twice (twice c.in_ok-form.ensures.extends c.in_ok-from.ensures.extends) c.in_ok-to.ensures.extends) c.in_ok-equal.ensures.extends) c.in_ok-proof.ensures.extends

pub returns-clause-memo : goal.returns-clause-memo
returns-clause-memo c = memo-more _ _ _ c.in_ok-form.ensures.memo (twice (twice (twice c.in_ok-from.ensures.extends c.in_ok-to.ensures.extends) c.in_ok-equal.ensures.extends) c.in_ok-proof.ensures.extends)
