use Rattle.lf_check.proofs.check_term.Goals as goal

pub check_term_with-requires-clause-kept : goal.check_term_with-requires-clause-kept
check_term_with-requires-clause-kept g c = c.unlimited-kept.ensures.kept (g.S.Signature.declares c.args.sig.now c.args.table.now) c.args.table.now
