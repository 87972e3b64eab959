use Rattle.lf_check.proofs.check_type.Goals as goal

pub check_type_with-requires-clause-kept : goal.check_type_with-requires-clause-kept
check_type_with-requires-clause-kept g c = c.unlimited-kept.ensures.kept (g.S.Signature.declares c.args.sig.now c.args.table.now) c.args.table.now
