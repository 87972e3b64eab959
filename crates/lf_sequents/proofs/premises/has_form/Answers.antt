use Rattle.std.proofs.Common.{◌↔◌, IfOk, IsTrue, subst, refl}
use Rattle.lf_signature.specs.Schemas.{rule_of}
use Rattle.lf_check.proofs.Rows.{kept-grown}
use Rattle.lf_terms.specs.Instance.{nth_arg, trees_of}
use Rattle.lf_terms.proofs.Grown.{known-more, trees-same}
use Rattle.lf_sequents.specs.Answers.{FitPremises, HasForm}
use Rattle.lf_sequents.specs.Room.{sequents_of}
use Rattle.lf_sequents.proofs.Fitting.{placeds-more, fit-more, fit-back, if_ok_iff}
use Rattle.lf_sequents.proofs.premises.has_form.Goals as goal

pub do_fit-requires-clause-params : goal.do_fit-requires-clause-params
do_fit-requires-clause-params g c =
    known-more c.args.table.now c.are_typed.new.table c.args.params.now c.requires.params c.are_typed.ensures.extends

pub do_fit-requires-clause-premises : goal.do_fit-requires-clause-premises
do_fit-requires-clause-premises g c =
    placeds-more c.args.table.now c.are_typed.new.table _ c.requires.premises c.are_typed.ensures.extends

pub returns-clause-kept : goal.returns-clause-kept
returns-clause-kept g c =
    let t₀ = c.args.table.now in
    let t₁ = c.are_typed.new.table in
    let u = c.do_fit.new.table in
    let held = g.met.S.Signature.still_holds c.args.sig.now t₀ t₁ c.are_typed.ensures.extends c.requires.holds in
    let after = g.S.Signature.declares c.args.sig.now in
    let same = g.met.S.Signature.same_types c.args.sig.now t₁ u c.do_fit.ensures.extends held in
    kept-grown c.are_typed.new.kept _ (after t₁) (after u) t₁ u c.are_typed.ensures.kept c.do_fit.ensures.extends same c.do_fit.ensures.kept refl

pub returns-clause-answer : goal.returns-clause-answer
returns-clause-answer g c =
    let t₀ = c.args.table.now in
    let t₁ = c.are_typed.new.table in
    let x = c.are_typed.ensures.extends in
    let hyps = c.args.hyps.now in
    let params = c.args.params.now in
    let r = rule_of c.args.rule.now in
    let l = sequents_of c.args.premises.now in
    let args = nth_arg (trees_of t₀ params) in
    let typed = c.in_ok-are_typed.ensures.answer.0 c.if-not-branch.false in
    let placed = c.requires.premises in
    let fit : IfOk c.do_fit.result (λ b. IsTrue b ↔ FitPremises t₁ hyps args r.premises l) =
    subst (λ z. IfOk c.do_fit.result (λ b. IsTrue b ↔ FitPremises t₁ hyps (nth_arg z) r.premises l))
    (trees-same t₀ t₁ params c.requires.params x) c.do_fit.ensures.answer in
    if_ok_iff c.do_fit.result _ (HasForm (g.S.Signature.declares c.args.sig.now t₀) t₀ hyps params r l) (λ b e. (
      λ q. record { typed = typed; fit = fit-back t₀ t₁ hyps args r.premises l placed x (e.0 q) },
      λ form. e.1 (fit-more t₀ t₁ hyps args r.premises l placed x form.fit),
    )) fit
