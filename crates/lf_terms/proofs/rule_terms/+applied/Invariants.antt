use Rattle.std.proofs.Common.{length}
use Rattle.lf_terms.proofs.rule_terms.+applied.Given as goal

abbrev pub decreases-applied : goal.decreases-applied
decreases-applied l = length l.args.now
