use Rattle.vcgen.proofs.MachineRegs.{ready-memory}
use Rattle.vcgen.specs.Symbols.{ids_of}
use Rattle.vcgen.proofs.symbols.Symbols.with_memory.Goals as goal

pub returns-clause-ready : goal.returns-clause-ready
returns-clause-ready c = ready-memory c.args.table.now (ids_of c.args.self.now) c.args.id c.requires.ready c.requires.known c.requires.room
