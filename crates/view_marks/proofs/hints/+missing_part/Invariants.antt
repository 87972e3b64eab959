use Rattle.view_marks.proofs.hints.+missing_part.Given as goal

abbrev pub decreases-missing_part : goal.decreases-missing_part
decreases-missing_part l = l.goal
