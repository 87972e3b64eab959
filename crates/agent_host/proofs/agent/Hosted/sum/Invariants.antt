use Rattle.std.proofs.Common.{◌≡◌, ◌%◌, ◌^◌}
use Rattle.reference_machine.specs.Arena.{map_of, sum_of}
use Rattle.agent_host.proofs.agent.Hosted.sum.Given as goal

abbrev pub invariant-loop-i : goal.invariant-loop-i
invariant-loop-i l =
    l.total ≡ sum_of (map_of l.self-inside.base l.self-inside.words.items) l.self-inside.base l.i %
    2 ^ 64
