use Rattle.std.proofs.Common.{ℕ, Ok}
use Rattle.prover_sums.proofs.Relations.{first_moved_is}
use Rattle.hereditary_subst.proofs.Rows.{known-more, memo-more}
use Rattle.prover_ids.proofs.Standing.{twice}
use Rattle.prover_sums.proofs.form_proofs.first_moved.Goals as goal

pub returns-clause-exact : goal.returns-clause-exact
returns-clause-exact c =
    first_moved_is c.args.table.now c.intern.new.self c.relation.new.table c.swapped.new.table c.fact.new.table c.moved.new.table c.args.rel c.args.a c.args.v c.args.w c.in_ok-place.place c.in_ok-form.form c.in_ok-back.back c.in_ok-held.held
    c.args.word c.args.here {E = ℕ} (Ok c.in_ok-moved.moved) c.requires.a c.requires.word c.requires.here c.in_ok-place.ensures.extends c.in_ok-form.ensures.extends c.in_ok-back.ensures.extends c.in_ok-held.ensures.extends c.in_ok-place.ensures.id
    c.in_ok-form.ensures.id c.in_ok-back.ensures.is c.in_ok-held.ensures.id c.in_ok-moved.ensures.is

pub returns-in_err-place-clause-memo : goal.returns-in_err-place-clause-memo
returns-in_err-place-clause-memo c = memo-more _ _ _ c.requires.memo c.intern.ensures.extends

pub returns-in_err-form-clause-extends : goal.returns-in_err-form-clause-extends
returns-in_err-form-clause-extends c = twice c.in_ok-place.ensures.extends c.relation.ensures.extends

pub returns-in_err-form-clause-memo : goal.returns-in_err-form-clause-memo
returns-in_err-form-clause-memo c = memo-more _ _ _ c.requires.memo (twice c.in_ok-place.ensures.extends c.relation.ensures.extends)

pub returns-in_err-back-clause-extends : goal.returns-in_err-back-clause-extends
returns-in_err-back-clause-extends c = twice (twice c.in_ok-place.ensures.extends c.in_ok-form.ensures.extends) c.swapped.ensures.extends

pub returns-in_err-held-clause-extends : goal.returns-in_err-held-clause-extends
returns-in_err-held-clause-extends c = twice (twice (twice c.in_ok-place.ensures.extends c.in_ok-form.ensures.extends) c.in_ok-back.ensures.extends) c.fact.ensures.extends

pub returns-in_err-held-clause-memo : goal.returns-in_err-held-clause-memo
returns-in_err-held-clause-memo c = memo-more _ _ _ c.in_ok-back.ensures.memo c.fact.ensures.extends

pub returns-in_err-moved-clause-extends : goal.returns-in_err-moved-clause-extends
returns-in_err-moved-clause-extends c = twice (twice (twice (twice c.in_ok-place.ensures.extends c.in_ok-form.ensures.extends) c.in_ok-back.ensures.extends) c.in_ok-held.ensures.extends) c.moved.ensures.extends

pub returns-in_err-moved-clause-memo : goal.returns-in_err-moved-clause-memo
returns-in_err-moved-clause-memo c = memo-more _ _ _ c.in_ok-back.ensures.memo (twice c.in_ok-held.ensures.extends c.moved.ensures.extends)

pub relation-requires-clause-b : goal.relation-requires-clause-b
relation-requires-clause-b c = known-more _ _ _ c.requires.word c.in_ok-place.ensures.extends

pub swapped-requires-clause-a : goal.swapped-requires-clause-a
swapped-requires-clause-a c = known-more _ _ _ c.requires.a (twice c.in_ok-place.ensures.extends c.in_ok-form.ensures.extends)

pub swapped-requires-clause-b : goal.swapped-requires-clause-b
swapped-requires-clause-b c = known-more _ _ _ c.requires.here.now (twice c.in_ok-place.ensures.extends c.in_ok-form.ensures.extends)

pub swapped-requires-clause-equal : goal.swapped-requires-clause-equal
swapped-requires-clause-equal c = known-more _ _ _ c.requires.here.proof (twice c.in_ok-place.ensures.extends c.in_ok-form.ensures.extends)

pub swapped-requires-clause-memo : goal.swapped-requires-clause-memo
swapped-requires-clause-memo c = memo-more _ _ _ c.requires.memo (twice c.in_ok-place.ensures.extends c.in_ok-form.ensures.extends)

pub moved-requires-clause-form : goal.moved-requires-clause-form
moved-requires-clause-form c = known-more _ _ _ c.in_ok-form.ensures.id.known (twice c.in_ok-back.ensures.extends c.in_ok-held.ensures.extends)

pub moved-requires-clause-a : goal.moved-requires-clause-a
moved-requires-clause-a c = known-more _ _ _ c.requires.here.now (twice (twice (twice c.in_ok-place.ensures.extends c.in_ok-form.ensures.extends) c.in_ok-back.ensures.extends) c.in_ok-held.ensures.extends)

pub moved-requires-clause-b : goal.moved-requires-clause-b
moved-requires-clause-b c = known-more _ _ _ c.requires.a (twice (twice (twice c.in_ok-place.ensures.extends c.in_ok-form.ensures.extends) c.in_ok-back.ensures.extends) c.in_ok-held.ensures.extends)

pub moved-requires-clause-equal : goal.moved-requires-clause-equal
moved-requires-clause-equal c = known-more _ _ _ c.in_ok-back.ensures.known c.in_ok-held.ensures.extends

pub returns-clause-extends : goal.returns-clause-extends
returns-clause-extends c = twice (twice (twice (twice c.in_ok-place.ensures.extends c.in_ok-form.ensures.extends) c.in_ok-back.ensures.extends) c.in_ok-held.ensures.extends) c.in_ok-moved.ensures.extends

pub returns-clause-memo : goal.returns-clause-memo
returns-clause-memo c = memo-more _ _ _ c.in_ok-back.ensures.memo (twice c.in_ok-held.ensures.extends c.in_ok-moved.ensures.extends)
