use Rattle.auto_candidates.proofs.policies.+registers_in.Given as goal

abbrev pub decreases-registers_in : goal.decreases-registers_in
decreases-registers_in l = l.id
