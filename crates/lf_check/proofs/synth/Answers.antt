use Rattle.lf_check.proofs.synth.Goals as goal

pub synth_with-requires-clause-kept : goal.synth_with-requires-clause-kept
synth_with-requires-clause-kept g c = c.unlimited-kept.ensures.kept (g.S.Signature.declares c.args.sig.now c.args.table.now) c.args.table.now
