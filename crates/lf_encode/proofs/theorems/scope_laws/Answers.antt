use Rattle.lf_encode.proofs.Without.{sorts-without, exp-without, mem-without, form-without}
use Rattle.lf_encode.proofs.theorems.scope_laws.Goals as goal

pub returns : goal.returns
returns c = record { sorts = sorts-without; exps = exp-without; mems = mem-without; forms = form-without }
