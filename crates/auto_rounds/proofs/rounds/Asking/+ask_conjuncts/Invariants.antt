use Rattle.auto_rounds.proofs.rounds.Asking.+ask_conjuncts.Given as goal

abbrev pub decreases-ask_conjuncts : goal.decreases-ask_conjuncts
decreases-ask_conjuncts l = l.most
