use Rattle.std.proofs.Common.{length}
use Rattle.view_container.proofs.judging.+has_high_lemma.Given as goal

abbrev pub decreases-has_high_lemma : goal.decreases-has_high_lemma
decreases-has_high_lemma l = length l.lemmas.now
