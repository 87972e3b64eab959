use Rattle.lf_check.proofs.Rows.{kept-more}
use Rattle.lf_lemma_check.proofs.searches.passes.Goals as goal

pub checks-requires-clause-kept : goal.checks-requires-clause-kept
checks-requires-clause-kept g c =
    let x = c.intern.ensures.extends in
    kept-more c.args.kept.now _ _ _ _ c.requires.kept x
    (g.met.S.Signature.same_types c.args.sig.now _ _ x c.requires.holds)

pub returns-in_err-proofs-in-Proof-clause-kept : goal.returns-in_err-proofs-in-Proof-clause-kept
returns-in_err-proofs-in-Proof-clause-kept g c =
    let x = c.pf.ensures.extends in
    kept-more c.args.kept.now _ _ _ _ c.requires.kept x
    (g.met.S.Signature.same_types c.args.sig.now _ _ x c.requires.holds)

pub checks-requires-in-Proof-clause-kept : goal.checks-requires-in-Proof-clause-kept
checks-requires-in-Proof-clause-kept g c =
    let x = c.pf.ensures.extends in
    kept-more c.args.kept.now _ _ _ _ c.requires.kept x
    (g.met.S.Signature.same_types c.args.sig.now _ _ x c.requires.holds)
