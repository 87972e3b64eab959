use Rattle.pcc_asm.proofs.Assembly.{law}
use Rattle.pcc_asm.proofs.Faulted.{fault_is, is_fault}
use Rattle.pcc_asm.proofs.theorems.laws.Goals as goal

pub returns : goal.returns
returns c = record { assembled = law; faults = λ p s flaw. (fault_is p s flaw, is_fault p s flaw) }
