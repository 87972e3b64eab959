use Rattle.std.proofs.Common.{◌≡◌, length}
use Rattle.file_port.proofs.mem_files.make_spares.Given as goal

abbrev pub invariant-loop : goal.invariant-loop
invariant-loop l = length l.spares.items ≡ l.counter
