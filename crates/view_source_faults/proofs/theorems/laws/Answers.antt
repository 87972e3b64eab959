use Rattle.view_source_faults.proofs.Marked.{fault_marked}
use Rattle.view_source_faults.proofs.theorems.laws.Goals as goal

pub returns : goal.returns
returns c = record { marked = λ p left text n flaw h e. fault_marked p left text n flaw h e }
