use Rattle.std.proofs.Common.{length}
use Rattle.pcc_commands.proofs.MemberLemmas.{AreReading}
use Rattle.pcc_commands.proofs.commands.host.members_of.Given as goal

abbrev pub invariant-loop-load : goal.invariant-loop-load
invariant-loop-load g l =
    AreReading l.fn.loads.items (g.F.Files.log l.fn.files) (g.F.Files.state l.fn.files) (length l.yielded) l.members.items (g.F.Files.log l.files) (g.F.Files.state l.files)
