use Rattle.std.proofs.Common.{◌≡◌, ℕ, subst, slice_set}
use Rattle.term_table.specs.Table.{tree_at}
use Rattle.lf_encode.specs.PutTree.{machine_terms_at}
use Rattle.vcgen.specs.WalkTree.{with_reg}
use Rattle.vcgen.proofs.MachineRegs.{terms-reg, ready-reg}
use Rattle.vcgen.specs.Symbols.{ids_of}
use Rattle.vcgen.proofs.symbols.Symbols.with_reg.Goals as goal

pub returns-clause-ready : goal.returns-clause-ready
returns-clause-ready c = ready-reg c.args.table.now (ids_of c.args.self.now) c.number-number.result c.args.id c.requires.ready c.requires.known c.requires.room

pub returns-clause-terms : goal.returns-clause-terms
returns-clause-terms c =
    let t = c.args.table.now in
    let ids = (ids_of c.args.self.now) in
    subst (λ (r : ℕ). machine_terms_at t (record ids { regs = slice_set ids.regs c.number-number.result c.args.id }) ≡ with_reg (machine_terms_at t ids) r (tree_at t c.args.id)) c.number-number.ensures.value
    (terms-reg t ids c.number-number.result c.args.id)
