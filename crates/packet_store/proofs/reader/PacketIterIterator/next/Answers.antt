use Rattle.std.proofs.Common.{◌≡◌, [], sym, ◌∙◌, rules}
use Rattle.packet_store.proofs.Frames.{whole_or_empty}
use Rattle.packet_store.proofs.Readings.{goes_on, whole_packets-nil, empty_list}
use Rattle.packet_store.proofs.reader.PacketIterIterator.next.Goals as goal

pub returns-then-is_empty-clause-steps : goal.returns-then-is_empty-clause-steps
returns-then-is_empty-clause-steps c =
    let none : c.args.self.now ≡ [] = sym c.self.view_is ∙ whole_packets-nil c.self.inside.rest.now (empty_list c.self.inside.rest.now (sym c.is_empty.ensures ∙ c.if-is_empty.true)) in
    (none, none)

pub invariant_of-self : goal.invariant_of-self
invariant_of-self c = (goes_on c.self.inside.rest.now c.in-Ok.packet.now c.in-Ok.after.now c.self.invariant c.in-Ok.ensures.0 c.in-Ok.ensures.1).whole

pub returns-in-Ok-clause-steps : goal.returns-in-Ok-clause-steps
returns-in-Ok-clause-steps c =
    sym c.self.view_is ∙ (goes_on c.self.inside.rest.now c.in-Ok.packet.now c.in-Ok.after.now c.self.invariant c.in-Ok.ensures.0 c.in-Ok.ensures.1).first

pub returns-in-Ok-clause-goes : goal.returns-in-Ok-clause-goes
returns-in-Ok-clause-goes c = rw (returns-in-Ok-clause-steps c) (record { on = λ f. search rules; keeps = search rules; rests = search rules })

pub returns-in-Err-clause-steps : goal.returns-in-Err-clause-steps
returns-in-Err-clause-steps c =
    let none : c.args.self.now ≡ [] = sym c.self.view_is ∙ whole_packets-nil c.self.inside.rest.now (whole_or_empty c.self.inside.rest.now c.in-Err.field-0 c.in-Err.ensures.0 c.self.invariant) in
    (none, none)
