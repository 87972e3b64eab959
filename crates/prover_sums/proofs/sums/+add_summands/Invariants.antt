use Rattle.prover_sums.proofs.sums.+add_summands.Given as goal

abbrev pub decreases-add_summands : goal.decreases-add_summands
decreases-add_summands l = l.e
