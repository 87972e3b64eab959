use Rattle.std.proofs.Common.{◌≡◌, ◌≤◌, ◌*◌}
use Rattle.pcc_commands.specs.Commands.Demo.{packet_counts}
use Rattle.pcc_commands.proofs.commands.demo.count_all.Given as goal

abbrev pub invariant-loop-k : goal.invariant-loop-k
invariant-loop-k l = record {
  all : l.all ≡ packet_counts l.fn.host.accepted.policy l.fn.host.accepted.code l.budget l.n l.k;
  accepted : l.host.accepted ≡ l.fn.host.accepted;
  steps : l.all.steps ≤ 1000000 * l.k;
  ones : l.all.ones ≤ l.k;
}
