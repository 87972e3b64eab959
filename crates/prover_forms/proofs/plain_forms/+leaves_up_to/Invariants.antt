use Rattle.prover_forms.proofs.plain_forms.+leaves_up_to.Given as goal

abbrev pub decreases-leaves_up_to : goal.decreases-leaves_up_to
decreases-leaves_up_to l = l.e
