use Rattle.auto_candidates.proofs.policies.+split.Given as goal

abbrev pub decreases-split : goal.decreases-split
decreases-split l = l.form
