use Rattle.prover_conditions.proofs.parts.+proof_of_parts.Given as goal

abbrev pub decreases-proof_of_parts : goal.decreases-proof_of_parts
decreases-proof_of_parts l = l.condition
