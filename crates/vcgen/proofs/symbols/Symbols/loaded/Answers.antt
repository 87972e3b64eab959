use Rattle.term_table.specs.Table.{tree_at}
use Rattle.lf_signature.specs.Terms.{sel}
use Rattle.vcgen.proofs.MachineRegs.{ok-term, room-app2, memory-room}
use Rattle.vcgen.specs.Symbols.{ids_of}
use Rattle.vcgen.proofs.symbols.Symbols.loaded.Goals as goal

pub returns-clause-id : goal.returns-clause-id
returns-clause-id c =
    let t = c.args.table.now in
    let m = tree_at t c.args.self.now.memory in
    let a = tree_at t c.args.address in
    ok-term c.app2.new.table (sel m a) c.app2.result (room-app2 11 m a (memory-room t (ids_of c.args.self.now) c.requires.ready) c.requires.room) c.app2.ensures.id
