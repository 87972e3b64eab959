use Rattle.auto_search.proofs.Judged.{fault-unproved}
use Rattle.auto_search.proofs.searching.search.Goals as goal

pub searched-requires : goal.searched-requires
searched-requires c =
    fault-unproved c.args.policy.now c.args.bytes.now c.in-Err-At.field-0 c.in-Err-At.field-0-0 c.in-Err-At.field-0-is
    c.in-Err-At.ensures.exact
