use Rattle.std.proofs.Common.{ℕ, List, ap, slice_get}
use Rattle.view_cli.proofs.Lemmas.{at_front, short_front, one_less, none_left}
use Rattle.view_cli.proofs.commands.packet.packet_at.Goals as goal

pub loop-packet-init : goal.loop-packet-init
loop-packet-init c = record {
  short = c.packets-left.ensures.short;
  same =
      ap (λ (p : List (List ℕ)). slice_get p c.args.number) c.packets-left.ensures.value;
}

pub returns-then-ahead-eq0-clause-exact : goal.returns-then-ahead-eq0-clause-exact
returns-then-ahead-eq0-clause-exact c =
    at_front _ _ _ _ c.in-Some.packet.now c.next.new.self c.loop-packet.invariant
    c.in-Some.ensures.steps c.if-ahead-eq0.true

pub returns-then-ahead-eq0-clause-short : goal.returns-then-ahead-eq0-clause-short
returns-then-ahead-eq0-clause-short c =
    short_front _ _ _ _ c.in-Some.packet.now c.next.new.self c.loop-packet.invariant
    c.in-Some.ensures.steps

pub loop-packet-preserved : goal.loop-packet-preserved
loop-packet-preserved c =
    one_less _ _ _ _ c.in-Some.packet.now c.next.new.self c.loop-packet.invariant
    c.in-Some.ensures.steps c.if-ahead-eq0.false

pub returns-clause-exact : goal.returns-clause-exact
returns-clause-exact c =
    none_left _ _ _ _ c.loop-packet.invariant c.in_default.ensures.steps.0
