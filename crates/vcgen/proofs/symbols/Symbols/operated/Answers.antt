use Rattle.lf_encode.proofs.KeptRows.{ready-more}
use Rattle.vcgen.proofs.MachineRegs.{operated-ok}
use Rattle.vcgen.specs.Symbols.{ids_of}
use Rattle.vcgen.proofs.symbols.Symbols.operated.Goals as goal

pub returns-clause-id : goal.returns-clause-id
returns-clause-id c =
    operated-ok c.args.table.now c.reg.new.table c.rhs.new.table c.app2.new.table (ids_of c.args.self.now) c.args.op c.args.ra c.args.rhs c.in_ok-left.left c.in_ok-right.right c.op_constant.result c.app2.result c.op_constant.ensures c.requires
    c.in_ok-left.ensures.extends c.in_ok-right.ensures.extends c.in_ok-left.ensures.id c.in_ok-right.ensures.id c.app2.ensures.id

pub rhs-requires : goal.rhs-requires
rhs-requires c = ready-more c.args.table.now c.reg.new.table (ids_of c.args.self.now) c.requires c.in_ok-left.ensures.extends
