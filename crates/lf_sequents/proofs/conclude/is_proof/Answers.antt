use Rattle.std.proofs.Common.{◌↔◌, IsTrue, subst}
use Rattle.lf_signature.specs.Typing.{Checks}
use Rattle.lf_terms.proofs.Grown.{known-more}
use Rattle.lf_sequents.proofs.Lasting.{kept-last}
use Rattle.lf_sequents.proofs.Fitting.{ctx-same}
use Rattle.lf_sequents.proofs.conclude.is_proof.Goals as goal

pub returns-in_err-proofs-clause-kept : goal.returns-in_err-proofs-clause-kept
returns-in_err-proofs-clause-kept g c =
    let same = g.met.S.Signature.same_types c.args.sig.now c.args.table.now c.pf.new.table c.pf.ensures.extends c.requires.holds in
    kept-last c.args.kept.now (g.S.Signature.declares c.args.sig.now) c.args.table.now c.pf.new.table c.requires.kept c.pf.ensures.extends same

pub check_term_with-requires-clause-ctx : goal.check_term_with-requires-clause-ctx
check_term_with-requires-clause-ctx g c = known-more c.args.table.now c.pf.new.table c.args.hyps.now c.requires.hyps c.pf.ensures.extends

pub check_term_with-requires-clause-kept : goal.check_term_with-requires-clause-kept
check_term_with-requires-clause-kept g c =
    let same = g.met.S.Signature.same_types c.args.sig.now c.args.table.now c.pf.new.table c.pf.ensures.extends c.requires.holds in
    kept-last c.args.kept.now (g.S.Signature.declares c.args.sig.now) c.args.table.now c.pf.new.table c.requires.kept c.pf.ensures.extends same

pub returns-in-Ok-clause-exact : goal.returns-in-Ok-clause-exact
returns-in-Ok-clause-exact g c =
    let t = c.args.table.now in
    let u = c.pf.new.table in
    let x = c.pf.ensures.extends in
    let sigs = g.met.S.Signature.same_types c.args.sig.now t u x c.requires.holds in
    let ctx = ctx-same t u c.args.hyps.now c.requires.hyps x in
    let term = x.same c.args.term c.requires.term in
    subst (λ (z : Type 0). IsTrue c.in-Ok.proves ↔ z) (λ i. Checks (sigs i) (ctx i) (term i) (c.in_ok-proofs.ensures.id.is i))
    c.in-Ok.ensures.answer
