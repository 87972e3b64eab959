use Rattle.term_table.specs.Table.{tree_at}
use Rattle.lf_check.proofs.Rows.{kept-more}
use Rattle.lf_truth.proofs.Judged.{judged_valid}
use Rattle.lf_truth.proofs.proving.prove_true_with.Goals as goal

pub returns-in_err-proofs-clause-kept : goal.returns-in_err-proofs-clause-kept
returns-in_err-proofs-clause-kept g c =
    let t = c.args.table.now in
    let u = c.pf.new.table in
    let sig = g.S.Signature.declares c.args.sig.now in
    kept-more c.args.kept.now (sig t) (sig u) t u c.requires.kept c.pf.ensures.extends (g.met.S.Signature.same_types c.args.sig.now t u c.pf.ensures.extends c.requires.holds)

pub check_term_with-requires-clause-kept : goal.check_term_with-requires-clause-kept
check_term_with-requires-clause-kept g c =
    let t = c.args.table.now in
    let u = c.pf.new.table in
    let sig = g.S.Signature.declares c.args.sig.now in
    kept-more c.args.kept.now (sig t) (sig u) t u c.requires.kept c.pf.ensures.extends (g.met.S.Signature.same_types c.args.sig.now t u c.pf.ensures.extends c.requires.holds)

pub returns-clause-valid : goal.returns-clause-valid
returns-clause-valid g c =
    let t = c.args.table.now in
    let u = c.pf.new.table in
    let held = g.met.S.Signature.still_holds c.args.sig.now t u c.pf.ensures.extends c.requires.holds in
    let sig = g.S.Signature.declares c.args.sig.now u in
    judged_valid sig (c.truth_laws.ensures.sound sig (g.met.S.Signature.well_formed c.args.sig.now u held) (g.met.S.Truthful.given c.args.sig.now u held))
    (tree_at u c.args.proof) (tree_at t c.args.goal) (tree_at u c.in_ok-proofs.proofs) c.check_term_with.result c.check_term_with.ensures.answer c.in_ok-proofs.ensures.id.is
