use Rattle.std.proofs.Common.{refl}
use Rattle.lf_signature.specs.Constants.{declared}
use Rattle.lf_signature.specs.declared.editions.WordSignature.TheVariants.{Sigma2}
use Rattle.lf_check.proofs.Rows.{kept-more}
use Rattle.lf_lemmas.specs.Lemmas.{formulas_of, with_lemmas}
use Rattle.lf_lemmas.specs.Tables.{lemmas_in, HoldsLemmas}
use Rattle.lf_lemmas.specs.Laws.Lawful.{lemmas_same, lemmas_hold}
use Rattle.test_lf.proofs.lemmas.prove.Goals as goal

pub first_failing-requires-clause-kept : goal.first_failing-requires-clause-kept
first_failing-requires-clause-kept c =
    let t = c.hold.new.table in
    let formulas = formulas_of (lemmas_in t c.args.lemmas.now) in
    c.new-kept.ensures.kept (with_lemmas (declared Sigma2) formulas) t

pub check_term_with-requires-clause-holds : goal.check_term_with-requires-clause-holds
check_term_with-requires-clause-holds c =
    let sig = declared Sigma2 in
    let ids = c.args.lemmas.now in
    let t₀ = c.hold.new.table in
    let t₁ = c.first_failing.new.table in
    let t₂ = c.pf.new.table in
    let held : HoldsLemmas sig t₀ ids = c.in_ok-hold.ensures.holds c.if-not-branch.false in
    let later = lemmas_hold sig sig ids t₀ t₁ refl c.first_failing.ensures.extends held in
    (tt, lemmas_hold sig sig ids t₁ t₂ refl c.pf.ensures.extends later)

pub check_term_with-requires-clause-kept : goal.check_term_with-requires-clause-kept
check_term_with-requires-clause-kept c =
    let sig = declared Sigma2 in
    let ids = c.args.lemmas.now in
    let t₀ = c.hold.new.table in
    let t₁ = c.first_failing.new.table in
    let t₂ = c.pf.new.table in
    let held : HoldsLemmas sig t₀ ids = c.in_ok-hold.ensures.holds c.if-not-branch.false in
    let later = lemmas_hold sig sig ids t₀ t₁ refl c.first_failing.ensures.extends held in
    kept-more c.first_failing.new.kept _ _ t₁ t₂ c.in_ok-first_failing.ensures.kept
    c.pf.ensures.extends (lemmas_same sig sig ids t₁ t₂ refl later c.pf.ensures.extends)
