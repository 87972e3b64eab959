use Rattle.view_marks.proofs.marking.+under_quantifiers.Given as goal

abbrev pub decreases-under_quantifiers : goal.decreases-under_quantifiers
decreases-under_quantifiers l = l.id
