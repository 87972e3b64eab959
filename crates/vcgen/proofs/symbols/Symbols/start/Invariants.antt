use Rattle.vcgen.proofs.MachineRegs.{IsStarted}
use Rattle.vcgen.proofs.symbols.Symbols.start.Given as goal

abbrev pub invariant-loop-k : goal.invariant-loop-k
invariant-loop-k l = IsStarted l.initial.table l.table l.regs l.memory l.left l.k
