use Rattle.view_goals.proofs.reading.+under.Given as goal

abbrev pub decreases-under : goal.decreases-under
decreases-under l = l.count
