use Rattle.prover_sums.proofs.sums.+summand_count.Given as goal

abbrev pub decreases-summand_count : goal.decreases-summand_count
decreases-summand_count l = l.e
