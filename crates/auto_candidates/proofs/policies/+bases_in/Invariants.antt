use Rattle.auto_candidates.proofs.policies.+bases_in.Given as goal

abbrev pub decreases-bases_in : goal.decreases-bases_in
decreases-bases_in l = l.id
