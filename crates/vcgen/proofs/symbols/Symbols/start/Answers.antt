use Rattle.std.proofs.Common.{rules, ◌-◌, arith}
use Rattle.term_table.specs.Tree.{Var}
use Rattle.lf_signature.specs.Nodes.{IsIdOf}
use Rattle.vcgen.proofs.MachineRegs.{started-more, started-terms, started-ready}
use Rattle.vcgen.proofs.symbols.Symbols.start.Goals as goal

pub loop-k-preserved : goal.loop-k-preserved
loop-k-preserved c =
    let id : IsIdOf c.intern-in-loop-k.new.self (Var (30 - c.loop-k.k)) c.in_ok-regs.field-0 = search rules in
    started-more c.intern-2.new.self c.loop-k.table c.intern-in-loop-k.new.self c.loop-k.regs c.in_ok-memory.memory c.in_ok-left.left c.loop-k.k c.in_ok-regs.field-0 c.loop-k.invariant (omega arith) c.in_ok-regs.ensures.extends id

pub returns-clause-ready : goal.returns-clause-ready
returns-clause-ready c = started-ready c.intern-2.new.self c.loop-k.table c.loop-k.regs c.in_ok-memory.memory c.in_ok-left.left c.loop-k.k c.loop-k.invariant (omega arith)

pub returns-clause-terms : goal.returns-clause-terms
returns-clause-terms c = started-terms c.intern-2.new.self c.loop-k.table c.loop-k.regs c.in_ok-memory.memory c.in_ok-left.left c.loop-k.k c.loop-k.invariant (omega arith)
