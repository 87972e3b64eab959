use Rattle.std.proofs.Common.{◌≡◌, ℕ, Bool, subst, IfOk}
use Rattle.term_table.specs.Tree.{Tree}
use Rattle.lf_lemmas.specs.Lemmas.{formulas_of}
use Rattle.lf_lemmas.specs.Tables.{lemmas_in}
use Rattle.lf_lemma_check.specs.First.{first_failing}
use Rattle.lf_lemma_check.proofs.Backwards.{before_is}
use Rattle.lf_lemma_check.proofs.Longer.{kept_over}
use Rattle.lf_lemma_check.proofs.unproved.first_unproved.Goals as goal

pub returns-in_err-late-clause-kept : goal.returns-in_err-late-clause-kept
returns-in_err-late-clause-kept g c =
    let sig = g.S.Signature.declares c.args.sig.now c.args.table.now in
    kept_over sig c.args.table.now c.args.kept.now
    (formulas_of (lemmas_in c.args.table.now c.args.lemmas.now)) c.requires.lemmas.free
    c.requires.kept

pub failing_or_late-requires-clause-kept : goal.failing_or_late-requires-clause-kept
failing_or_late-requires-clause-kept g c =
    let sig = g.S.Signature.declares c.args.sig.now c.args.table.now in
    kept_over sig c.args.table.now c.args.kept.now
    (formulas_of (lemmas_in c.args.table.now c.args.lemmas.now)) c.requires.lemmas.free
    c.requires.kept

pub returns-clause-exact : goal.returns-clause-exact
returns-clause-exact g c =
    let sig = g.S.Signature.declares c.args.sig.now c.args.table.now in
    let all = lemmas_in c.args.table.now c.args.lemmas.now in
    subst
    (λ (test : ℕ → Tree × Tree → Bool).
    IfOk c.failing_or_late.result (λ found. found ≡ first_failing test 0 all))
    (before_is sig (formulas_of all)) c.failing_or_late.ensures.exact
