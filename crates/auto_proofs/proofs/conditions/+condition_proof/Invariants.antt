use Rattle.auto_proofs.proofs.conditions.+condition_proof.Given as goal

abbrev pub decreases-condition_proof : goal.decreases-condition_proof
decreases-condition_proof l = l.condition
