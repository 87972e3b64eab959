use Rattle.std.proofs.Common.{◌≡◌, ◌+◌, length}
use Rattle.pcc_demo.specs.Packets.{rising_bytes}
use Rattle.pcc_demo.proofs.packets.demo_packet.Given as goal

abbrev pub invariant-loop-j : goal.invariant-loop-j
invariant-loop-j l = record {
  bytes : l.packet.items ≡ rising_bytes (l.n + l.k) l.j;
  count : length l.packet.items ≡ l.j;
}
