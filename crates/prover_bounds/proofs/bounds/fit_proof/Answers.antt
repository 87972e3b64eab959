use Rattle.std.proofs.Common.{ℕ, subst}
use Rattle.word_ops.specs.declared.Rel.TheVariants.{Ule}
use Rattle.word_ops.specs.Words.{word_of}
use Rattle.formula_tree.specs.Formulas.{EVar, ELit, EOp, FRel}
use Rattle.lf_signature.specs.Nodes.{IsIdOf}
use Rattle.lf_terms.specs.Encoding.{exp_encoding}
use Rattle.lf_terms.specs.ProofTerms.{swap, fact}
use Rattle.prover_ids.proofs.Standing.{more, moved_to, twice}
use Rattle.hereditary_subst.proofs.Rows.{known-more, memo-more}
use Rattle.prover_bounds.proofs.bounds.fit_proof.Goals as goal

pub returns-clause-id : goal.returns-clause-id
returns-clause-id c =
    let a = c.args in
    let e2 = c.in_ok-to.ensures.extends in
    let e3 = c.in_ok-equal.ensures.extends in
    let e4 = c.in_ok-back.ensures.extends in
    let e5 = c.in_ok-form.ensures.extends in
    let e6 = c.in_ok-fits.ensures.extends in
    let value = word_of a.op a.a a.b in
    let from0 = subst (λ (n : ℕ). IsIdOf c.word.new.table (exp_encoding (ELit n)) c.in_ok-from.from) c.apply-value.ensures c.in_ok-from.ensures.known in
    let from = more (more from0 e2) e3 in
    let to = more c.in_ok-to.ensures.id e3 in
    let equal = c.in_ok-equal.ensures.id in
    let back0 = c.in_ok-back.ensures.is (EOp a.op (ELit a.a) (ELit a.b)) (ELit value) to.is from.is in
    let back = subst (λ z. IsIdOf c.swapped.new.table (swap (EOp a.op (ELit a.a) (ELit a.b)) (ELit value) z) c.in_ok-back.back) equal.is back0 in
    let fits = subst (λ (n : ℕ). IsIdOf c.fact.new.table (fact Ule a.v n) c.in_ok-fits.fits) c.apply-value.ensures c.in_ok-fits.ensures.id in
    moved_to (λ z. IsIdOf c.moved.new.table z c.in_ok-proof.proof) c.in_ok-proof.ensures.is (FRel Ule (ELit a.v) (EVar 0)) (ELit value) (EOp a.op (ELit a.a) (ELit a.b))
    (more c.in_ok-form.ensures.id e6) (more (more (more from e4) e5) e6) (more (more (more to e4) e5) e6) (more (more back e5) e6) fits

pub returns-in_err-from-clause-memo : goal.returns-in_err-from-clause-memo
returns-in_err-from-clause-memo c = memo-more _ _ _ c.requires.memo c.word.ensures.extends

pub returns-in_err-to-clause-extends : goal.returns-in_err-to-clause-extends
returns-in_err-to-clause-extends c = twice c.in_ok-from.ensures.extends c.oper_of_words.ensures.extends

pub returns-in_err-to-clause-memo : goal.returns-in_err-to-clause-memo
returns-in_err-to-clause-memo c = memo-more _ _ _ c.requires.memo (twice c.in_ok-from.ensures.extends c.oper_of_words.ensures.extends)

pub returns-in_err-equal-clause-extends : goal.returns-in_err-equal-clause-extends
returns-in_err-equal-clause-extends c = twice (twice c.in_ok-from.ensures.extends c.in_ok-to.ensures.extends) c.calc.ensures.extends

pub returns-in_err-equal-clause-memo : goal.returns-in_err-equal-clause-memo
returns-in_err-equal-clause-memo c = memo-more _ _ _ c.requires.memo (twice (twice c.in_ok-from.ensures.extends c.in_ok-to.ensures.extends) c.calc.ensures.extends)

pub returns-in_err-back-clause-extends : goal.returns-in_err-back-clause-extends
returns-in_err-back-clause-extends c = twice (twice (twice c.in_ok-from.ensures.extends c.in_ok-to.ensures.extends) c.in_ok-equal.ensures.extends) c.swapped.ensures.extends

pub returns-in_err-form-clause-extends : goal.returns-in_err-form-clause-extends
returns-in_err-form-clause-extends c = twice (twice (twice (twice c.in_ok-from.ensures.extends c.in_ok-to.ensures.extends) c.in_ok-equal.ensures.extends) c.in_ok-back.ensures.extends) c.word_below_place.ensures.extends

pub returns-in_err-form-clause-memo : goal.returns-in_err-form-clause-memo
returns-in_err-form-clause-memo c = memo-more _ _ _ c.in_ok-back.ensures.memo c.word_below_place.ensures.extends

pub returns-in_err-fits-clause-extends : goal.returns-in_err-fits-clause-extends
returns-in_err-fits-clause-extends c = twice (twice (twice (twice (twice c.in_ok-from.ensures.extends c.in_ok-to.ensures.extends) c.in_ok-equal.ensures.extends) c.in_ok-back.ensures.extends) c.in_ok-form.ensures.extends) c.fact.ensures.extends

pub returns-in_err-fits-clause-memo : goal.returns-in_err-fits-clause-memo
returns-in_err-fits-clause-memo c = memo-more _ _ _ c.in_ok-back.ensures.memo (twice c.in_ok-form.ensures.extends c.fact.ensures.extends)

pub returns-in_err-proof-clause-extends : goal.returns-in_err-proof-clause-extends
returns-in_err-proof-clause-extends c = twice (twice (twice (twice (twice (twice c.in_ok-from.ensures.extends c.in_ok-to.ensures.extends) c.in_ok-equal.ensures.extends) c.in_ok-back.ensures.extends) c.in_ok-form.ensures.extends) c.in_ok-fits.ensures.extends) c.moved.ensures.extends

pub returns-in_err-proof-clause-memo : goal.returns-in_err-proof-clause-memo
returns-in_err-proof-clause-memo c = memo-more _ _ _ c.in_ok-back.ensures.memo (twice (twice c.in_ok-form.ensures.extends c.in_ok-fits.ensures.extends) c.moved.ensures.extends)

pub swapped-requires-clause-a : goal.swapped-requires-clause-a
swapped-requires-clause-a c = known-more _ _ _ c.in_ok-to.ensures.id.known c.in_ok-equal.ensures.extends

pub swapped-requires-clause-b : goal.swapped-requires-clause-b
swapped-requires-clause-b c = known-more _ _ _ c.in_ok-from.ensures.known.known (twice c.in_ok-to.ensures.extends c.in_ok-equal.ensures.extends)

pub swapped-requires-clause-memo : goal.swapped-requires-clause-memo
swapped-requires-clause-memo c = memo-more _ _ _ c.requires.memo (twice (twice c.in_ok-from.ensures.extends c.in_ok-to.ensures.extends) c.in_ok-equal.ensures.extends)

pub moved-requires-clause-form : goal.moved-requires-clause-form
moved-requires-clause-form c = known-more _ _ _ c.in_ok-form.ensures.id.known c.in_ok-fits.ensures.extends

pub moved-requires-clause-a : goal.moved-requires-clause-a
moved-requires-clause-a c = known-more _ _ _ c.in_ok-from.ensures.known.known (twice (twice (twice (twice c.in_ok-to.ensures.extends c.in_ok-equal.ensures.extends) c.in_ok-back.ensures.extends) c.in_ok-form.ensures.extends) c.in_ok-fits.ensures.extends)

pub moved-requires-clause-b : goal.moved-requires-clause-b
moved-requires-clause-b c = known-more _ _ _ c.in_ok-to.ensures.id.known (twice (twice (twice c.in_ok-equal.ensures.extends c.in_ok-back.ensures.extends) c.in_ok-form.ensures.extends) c.in_ok-fits.ensures.extends)

pub moved-requires-clause-equal : goal.moved-requires-clause-equal
moved-requires-clause-equal c = known-more _ _ _ c.in_ok-back.ensures.known (twice c.in_ok-form.ensures.extends c.in_ok-fits.ensures.extends)

pub moved-requires-clause-proof : goal.moved-requires-clause-proof
moved-requires-clause-proof c = c.in_ok-fits.ensures.id.known

pub returns-clause-extends : goal.returns-clause-extends
returns-clause-extends c = twice (twice (twice (twice (twice (twice c.in_ok-from.ensures.extends c.in_ok-to.ensures.extends) c.in_ok-equal.ensures.extends) c.in_ok-back.ensures.extends) c.in_ok-form.ensures.extends) c.in_ok-fits.ensures.extends) c.in_ok-proof.ensures.extends

pub returns-clause-memo : goal.returns-clause-memo
returns-clause-memo c = memo-more _ _ _ c.in_ok-back.ensures.memo (twice (twice c.in_ok-form.ensures.extends c.in_ok-fits.ensures.extends) c.in_ok-proof.ensures.extends)
