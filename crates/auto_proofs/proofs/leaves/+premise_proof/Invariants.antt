use Rattle.auto_proofs.proofs.leaves.+premise_proof.Given as goal

abbrev pub decreases-premise_proof : goal.decreases-premise_proof
decreases-premise_proof l = l.premise
