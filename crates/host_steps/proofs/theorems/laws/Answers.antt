use Rattle.host_steps.proofs.Fitting.{start-part-fits, part-unblocked, part-left, part-run, part-unwritten}
use Rattle.host_steps.proofs.theorems.laws.Goals as goal

pub returns-clause-start : goal.returns-clause-start
returns-clause-start c = start-part-fits

pub returns-clause-left : goal.returns-clause-left
returns-clause-left c = λ code p left r is valid f. part-left code is valid p 0 left r f

pub returns-clause-unblocked : goal.returns-clause-unblocked
returns-clause-unblocked c = λ code p n left r is valid f. part-unblocked code is valid p n left r f

pub returns-clause-run : goal.returns-clause-run
returns-clause-run c = λ code p n left result q is valid ran r f.
    part-run code is valid p n left r f result q ran

pub returns-clause-unwritten : goal.returns-clause-unwritten
returns-clause-unwritten c = λ code p n left result q r end is valid ran f.
    part-unwritten code is valid p n left r f result q ran end
