use Rattle.std.proofs.Common.{ℕ, Ok}
use Rattle.prover_ids.proofs.Moving.{swapped_is}
use Rattle.prover_ids.proofs.steps.swapped.Goals as goal

pub returns-clause-is : goal.returns-clause-is
returns-clause-is c =
    swapped_is c.args.table.now c.intern.new.self c.raised.new.table c.relation.new.table c.reflexive.new.table c.moved.new.table c.args.a c.args.b c.args.equal c.in_ok-place.place c.in_ok-under.under c.in_ok-form.form c.in_ok-itself.itself {E = ℕ} (Ok c.in_ok-moved.field-0)
    c.requires.a c.requires.b c.requires.equal c.in_ok-place.ensures.extends c.in_ok-under.ensures.extends c.in_ok-form.ensures.extends c.in_ok-itself.ensures.extends c.in_ok-place.ensures.id c.in_ok-under.ensures.id c.in_ok-form.ensures.id c.in_ok-itself.ensures.is c.in_ok-moved.ensures.is
