use Rattle.std.proofs.Common.{length}
use Rattle.view_container.proofs.summary.+push_lemma_notes.Given as goal

abbrev pub decreases-push_lemma_notes : goal.decreases-push_lemma_notes
decreases-push_lemma_notes l = length l.lemmas.now
