use Rattle.vcgen.proofs.MachineRegs.{ready-left}
use Rattle.vcgen.specs.Symbols.{ids_of}
use Rattle.vcgen.proofs.symbols.Symbols.with_left.Goals as goal

pub returns-clause-ready : goal.returns-clause-ready
returns-clause-ready c = ready-left c.args.table.now (ids_of c.args.self.now) c.args.id c.requires.ready c.requires.known c.requires.room
