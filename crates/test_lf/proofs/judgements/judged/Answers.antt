use Rattle.test_lf.proofs.judgements.judged.Goals as goal

pub check_type_with-requires-clause-kept : goal.check_type_with-requires-clause-kept
check_type_with-requires-clause-kept c = c.new-kept.ensures.kept _ _
