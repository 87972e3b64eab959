use Rattle.gate_match.proofs.goals.+under_words.Given as goal

abbrev pub decreases-under_words : goal.decreases-under_words
decreases-under_words l = l.count
