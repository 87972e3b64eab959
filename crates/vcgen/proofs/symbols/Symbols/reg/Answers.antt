use Rattle.std.proofs.Common.{ℕ, subst, slice_index_or}
use Rattle.lf_encode.specs.PutTree.{machine_terms_at}
use Rattle.vcgen.specs.WalkTree.{reg_term}
use Rattle.vcgen.specs.Symbols.{ids_of}
use Rattle.vcgen.specs.Inside.Walks.{IsTermFor}
use Rattle.vcgen.proofs.MachineRegs.{reg-stands}
use Rattle.vcgen.proofs.symbols.Symbols.reg.Goals as goal

pub returns-then-number-lt31-clause-id : goal.returns-then-number-lt31-clause-id
returns-then-number-lt31-clause-id c =
    let t = c.args.table.now in
    let ids = (ids_of c.args.self.now) in
    let terms = machine_terms_at t ids in
    subst (λ (r : ℕ). IsTermFor t (reg_term terms r) (slice_index_or ids.regs c.number-number.result c.index-self-number.result)) c.number-number.ensures.value
    (reg-stands t ids c.number-number.result c.index-self-number.result c.requires c.if-number-lt31.true)
