use Rattle.vcgen.proofs.MachineRegs.{stored-ok}
use Rattle.vcgen.specs.Symbols.{ids_of}
use Rattle.vcgen.proofs.symbols.Symbols.stored.Goals as goal

pub returns-clause-id : goal.returns-clause-id
returns-clause-id c =
    stored-ok c.args.table.now c.reg.new.table c.app3.new.table (ids_of c.args.self.now) c.args.address c.args.ra c.in_ok-word.word c.app3.result c.requires.ready c.requires.known c.requires.room
    c.in_ok-word.ensures.extends c.in_ok-word.ensures.id c.app3.ensures.id
