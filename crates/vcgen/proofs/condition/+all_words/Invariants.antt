use Rattle.vcgen.proofs.condition.+all_words.Given as goal

abbrev pub decreases-all_words : goal.decreases-all_words
decreases-all_words l = l.count
