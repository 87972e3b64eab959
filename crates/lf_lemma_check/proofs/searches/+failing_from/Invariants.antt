use Rattle.std.proofs.Common.{length}
use Rattle.lf_lemma_check.proofs.searches.+failing_from.Given as goal

abbrev pub decreases-failing_from : goal.decreases-failing_from
decreases-failing_from g l = length l.lemmas.now
