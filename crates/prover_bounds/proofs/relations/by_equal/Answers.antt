use Rattle.std.proofs.Common.{[], ◌∷◌, refl}
use Rattle.lf_signature.specs.Nodes.{IsIdOf}
use Rattle.lf_signature.specs.declared.numbers.TheConstants.{ULE_REFL}
use Rattle.formula_tree.specs.Formulas.{ELit}
use Rattle.lf_terms.specs.Encoding.{exp_encoding}
use Rattle.prover_ids.proofs.Standing.{own, stands, more, twice, ruled, moved_to}
use Rattle.prover_bounds.specs.Candidates.{placed}
use Rattle.hereditary_subst.proofs.Rows.{known-more, memo-more}
use Rattle.prover_bounds.proofs.relations.by_equal.Goals as goal

pub returns-clause-is : goal.returns-clause-is
returns-clause-is c = λ x qe qw.
    let t = c.args.table.now in
    let n = c.args.w in
    let x1 = c.in_ok-form.ensures.extends in
    let e2 = c.in_ok-itself.ensures.extends in
    let x2 = twice x1 e2 in
    let e = stands t (exp_encoding x) c.args.e c.requires.e qe in
    let word = stands t (exp_encoding (ELit n)) c.args.word c.requires.word qw in
    let itself = ruled (λ z. IsIdOf c.rule_term.new.table z c.in_ok-itself.itself) ULE_REFL (λ i. (more e x1).is i ∷ []) c.in_ok-itself.ensures.id in
    let form = more (c.in_ok-form.ensures.is x qe) e2 in
    let p = moved_to (λ z. IsIdOf c.moved.new.table z c.in_ok-bound.bound) c.in_ok-bound.ensures.is (placed c.args.side x) x (ELit n) form (more e x2) (more word x2) (more (own t c.args.proof c.requires.proof) x2) itself in
    record { known = p.known; value = refl; is = p.is }

pub returns-in_err-itself-clause-extends : goal.returns-in_err-itself-clause-extends
returns-in_err-itself-clause-extends c = twice c.in_ok-form.ensures.extends c.rule_term.ensures.extends

pub returns-in_err-itself-clause-memo : goal.returns-in_err-itself-clause-memo
returns-in_err-itself-clause-memo c = memo-more _ _ _ c.in_ok-form.ensures.memo c.rule_term.ensures.extends

pub returns-in_err-bound-clause-extends : goal.returns-in_err-bound-clause-extends
returns-in_err-bound-clause-extends c = twice (twice c.in_ok-form.ensures.extends c.in_ok-itself.ensures.extends) c.moved.ensures.extends

pub returns-in_err-bound-clause-memo : goal.returns-in_err-bound-clause-memo
returns-in_err-bound-clause-memo c = memo-more _ _ _ c.in_ok-form.ensures.memo (twice c.in_ok-itself.ensures.extends c.moved.ensures.extends)

pub moved-requires-clause-form : goal.moved-requires-clause-form
moved-requires-clause-form c = known-more _ _ _ c.in_ok-form.ensures.known c.in_ok-itself.ensures.extends

pub moved-requires-clause-a : goal.moved-requires-clause-a
moved-requires-clause-a c = known-more _ _ _ c.requires.e (twice c.in_ok-form.ensures.extends c.in_ok-itself.ensures.extends)

pub moved-requires-clause-b : goal.moved-requires-clause-b
moved-requires-clause-b c = known-more _ _ _ c.requires.word (twice c.in_ok-form.ensures.extends c.in_ok-itself.ensures.extends)

pub moved-requires-clause-equal : goal.moved-requires-clause-equal
moved-requires-clause-equal c = known-more _ _ _ c.requires.proof (twice c.in_ok-form.ensures.extends c.in_ok-itself.ensures.extends)

pub moved-requires-clause-proof : goal.moved-requires-clause-proof
moved-requires-clause-proof c = c.in_ok-itself.ensures.id.known

pub rule_term-requires : goal.rule_term-requires
rule_term-requires c = (known-more _ _ _ c.requires.e c.in_ok-form.ensures.extends, tt)

pub returns-clause-extends : goal.returns-clause-extends
returns-clause-extends c = twice (twice c.in_ok-form.ensures.extends c.in_ok-itself.ensures.extends) c.in_ok-bound.ensures.extends

pub returns-clause-memo : goal.returns-clause-memo
returns-clause-memo c = memo-more _ _ _ c.in_ok-form.ensures.memo (twice c.in_ok-itself.ensures.extends c.in_ok-bound.ensures.extends)
