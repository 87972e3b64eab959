use Rattle.std.proofs.Common.{◌≡◌, map}
use Rattle.pcc_commands.proofs.commands.host.parted.Given as goal

abbrev pub invariant-loop-member : goal.invariant-loop-member
invariant-loop-member l = record {
  codes : l.codes.items ≡ map (λ m. m.accepted) l.yielded;
  packets : map (λ p. p.items) l.packets.items ≡ map (λ m. m.packet.items) l.yielded;
}
