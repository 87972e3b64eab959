use Rattle.pcc_c.proofs.NoAssembly.{no-source-at}
use Rattle.pcc_c.proofs.assembling.source_given.Goals as goal

pub returns-in-Err-At-clause-none : goal.returns-in-Err-At-clause-none
returns-in-Err-At-clause-none c = λ short. no-source-at c.args.text.now
    c.profile_of.ensures.exact c.is_some.ensures c.in-Err-At.field-0-is c.in-Err-At.ensures.none
