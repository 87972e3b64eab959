use Rattle.std.proofs.Common.{length}
use Rattle.lf_lemma_check.proofs.citations.+late_from.Given as goal

abbrev pub decreases-late_from : goal.decreases-late_from
decreases-late_from l = length l.lemmas.now
