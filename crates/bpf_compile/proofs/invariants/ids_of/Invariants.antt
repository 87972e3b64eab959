use Rattle.bpf_compile.specs.Inside.Ids.{AreFirstIds}
use Rattle.bpf_compile.proofs.invariants.ids_of.Given as goal

abbrev pub invariant-loop-i : goal.invariant-loop-i
invariant-loop-i l = AreFirstIds l.table l.program l.i l.ids.items
