use Rattle.auto_search.proofs.containers.+copied.Given as goal

abbrev pub decreases-copied : goal.decreases-copied
decreases-copied l = l.id
