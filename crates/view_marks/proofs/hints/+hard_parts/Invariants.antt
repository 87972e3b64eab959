use Rattle.view_marks.proofs.hints.+hard_parts.Given as goal

abbrev pub decreases-hard_parts : goal.decreases-hard_parts
decreases-hard_parts l = l.goal
