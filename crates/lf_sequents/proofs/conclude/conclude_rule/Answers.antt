use Rattle.std.proofs.Common.{rules, arith, ◌≡◌, ◌∙◌, true, false, Some, refl, sym, ap, subst, option_map}
use Rattle.term_table.specs.Table.{IsKnown, tree_at, Extends}
use Rattle.lf_signature.specs.Schemas.{rule_of}
use Rattle.lf_signature.specs.Terms.{pf}
use Rattle.lf_signature.specs.Typing.{Synth}
use Rattle.lf_check.proofs.Rows.{kept-grown}
use Rattle.lf_terms.specs.Instance.{nth_arg, form_with, by_rule, trees_of}
use Rattle.lf_terms.proofs.Grown.{known-more, extends_trans}
use Rattle.lf_sequents.specs.declared.sequent.Sequent.{Sequent}
use Rattle.lf_sequents.specs.Answers.{HasForm, Derives, IsRowAnswer, proofs_taken, rule_in_signature}
use Rattle.lf_sequents.specs.Room.{sequents_of}
use Rattle.lf_sequents.proofs.Lasting.{kept-last}
use Rattle.lf_sequents.proofs.Fitting.{ctx-same, placeds-more, are_placed, form-more, form-back}
use Rattle.lf_sequents.proofs.Concluding.{term-was, goal-was, derives-at, proves_conclusion, concluded}
use Rattle.lf_sequents.proofs.Having.{has_rule, not_derived, no_form, synthesised}
use Rattle.lf_sequents.proofs.conclude.conclude_rule.Goals as goal

pub has_room-room-requires-clause-premises : goal.has_room-room-requires-clause-premises
has_room-room-requires-clause-premises g c = are_placed _ _ _ c.requires.premises

pub returns-in_err-rule-clause-kept : goal.returns-in_err-rule-clause-kept
returns-in_err-rule-clause-kept g c =
    let t₀ = c.args.table.now in
    let t₁ = c.rule_in_signature.new.table in
    let x₁ : Extends t₀ t₁ = c.rule_in_signature.ensures.extends in
    let same = g.met.S.Signature.same_types c.args.sig.now t₀ t₁ x₁ c.requires.holds in
    kept-last c.args.kept.now (g.S.Signature.declares c.args.sig.now) t₀ t₁ c.requires.kept x₁ same

pub returns-in_default-clause-kept : goal.returns-in_default-clause-kept
returns-in_default-clause-kept g c =
    let t₀ = c.args.table.now in
    let t₁ = c.rule_in_signature.new.table in
    let x₁ : Extends t₀ t₁ = c.rule_in_signature.ensures.extends in
    let same = g.met.S.Signature.same_types c.args.sig.now t₀ t₁ x₁ c.requires.holds in
    kept-last c.args.kept.now (g.S.Signature.declares c.args.sig.now) t₀ t₁ c.requires.kept x₁ same

pub conclusion_term-requires-clause-params : goal.conclusion_term-requires-clause-params
conclusion_term-requires-clause-params g c =
    let t₀ = c.args.table.now in
    let t₁ = c.rule_in_signature.new.table in
    let x₁ : Extends t₀ t₁ = c.rule_in_signature.ensures.extends in
    known-more t₀ t₁ c.args.params.now c.requires.params x₁

pub conclusion_term-requires-clause-premises : goal.conclusion_term-requires-clause-premises
conclusion_term-requires-clause-premises g c =
    let t₀ = c.args.table.now in
    let t₁ = c.rule_in_signature.new.table in
    let x₁ : Extends t₀ t₁ = c.rule_in_signature.ensures.extends in
    placeds-more t₀ t₁ _ (are_placed _ _ _ c.requires.premises) x₁

pub returns-in_err-term-clause-kept : goal.returns-in_err-term-clause-kept
returns-in_err-term-clause-kept g c =
    let t₀ = c.args.table.now in
    let t₁ = c.rule_in_signature.new.table in
    let t₂ = c.conclusion_term.new.table in
    let x₁ : Extends t₀ t₁ = c.rule_in_signature.ensures.extends in
    let x₂ : Extends t₀ t₂ = extends_trans t₀ t₁ t₂ x₁ c.conclusion_term.ensures.extends in
    let same = g.met.S.Signature.same_types c.args.sig.now t₀ t₂ x₂ c.requires.holds in
    kept-last c.args.kept.now (g.S.Signature.declares c.args.sig.now) t₀ t₂ c.requires.kept x₂ same

pub may_have_type-requires-clause-hyps : goal.may_have_type-requires-clause-hyps
may_have_type-requires-clause-hyps g c =
    let t₀ = c.args.table.now in
    let t₁ = c.rule_in_signature.new.table in
    let t₂ = c.conclusion_term.new.table in
    let x₁ : Extends t₀ t₁ = c.rule_in_signature.ensures.extends in
    let x₂ : Extends t₀ t₂ = extends_trans t₀ t₁ t₂ x₁ c.conclusion_term.ensures.extends in
    known-more t₀ t₂ c.args.hyps.now c.requires.hyps x₂

pub may_have_type-requires-clause-kept : goal.may_have_type-requires-clause-kept
may_have_type-requires-clause-kept g c =
    let t₀ = c.args.table.now in
    let t₁ = c.rule_in_signature.new.table in
    let t₂ = c.conclusion_term.new.table in
    let x₁ : Extends t₀ t₁ = c.rule_in_signature.ensures.extends in
    let x₂ : Extends t₀ t₂ = extends_trans t₀ t₁ t₂ x₁ c.conclusion_term.ensures.extends in
    let same = g.met.S.Signature.same_types c.args.sig.now t₀ t₂ x₂ c.requires.holds in
    kept-last c.args.kept.now (g.S.Signature.declares c.args.sig.now) t₀ t₂ c.requires.kept x₂ same

pub returns-then-not-branch-clause-answer : goal.returns-then-not-branch-clause-answer
returns-then-not-branch-clause-answer g c =
    let t₀ = c.args.table.now in
    let t₁ = c.rule_in_signature.new.table in
    let t₂ = c.conclusion_term.new.table in
    let x₁ : Extends t₀ t₁ = c.rule_in_signature.ensures.extends in
    let x₂ : Extends t₀ t₂ = extends_trans t₀ t₁ t₂ x₁ c.conclusion_term.ensures.extends in
    let sig = g.S.Signature.declares c.args.sig.now t₀ in
    let hyps = c.args.hyps.now in
    let params = c.args.params.now in
    let n = c.args.number in
    let l = sequents_of c.args.premises.now in
    let r = rule_of c.in-Some.rule.now in
    let row : rule_in_signature sig n ≡ Some r = sym c.in_ok-rule.ensures.rule ∙ ap (option_map (λ z. rule_of z.now)) c.in-Some.is in
    let placed = are_placed sig t₀ l c.requires.premises in
    let tree = by_rule n (trees_of t₀ params) (proofs_taken t₀ r.premises l) in
    let id = c.in_ok-term.term in
    let made : tree_at t₂ id ≡ tree = term-was t₀ t₁ t₂ params n r l id c.requires.params placed x₁ c.in_ok-term.ensures.id in
    let same = g.met.S.Signature.same_types c.args.sig.now t₀ t₂ x₂ c.requires.holds in
    let ctx = ctx-same t₀ t₂ hyps c.requires.hyps x₂ in
    let kind = pf (form_with r.conclusion (nth_arg (trees_of t₀ params))) in
    let untyped : HasForm sig t₀ hyps params r l → Derives sig t₀ hyps params n r l → ⊥ = λ _ derives.
    let typed = subst (λ (z : Type 0). z) (λ i. Synth (sym same i) (sym ctx i) (sym made i) kind) (synthesised derives) in
    c.in_ok-may_have_type.ensures.none c.if-not-branch.true kind typed in
    not_derived sig t₀ c.may_have_type.new.table hyps params n r l row untyped

pub has_form-requires-clause-hyps : goal.has_form-requires-clause-hyps
has_form-requires-clause-hyps g c =
    let t₀ = c.args.table.now in
    let t₁ = c.rule_in_signature.new.table in
    let t₂ = c.conclusion_term.new.table in
    let t₃ = c.may_have_type.new.table in
    let x₁ : Extends t₀ t₁ = c.rule_in_signature.ensures.extends in
    let x₂ : Extends t₀ t₂ = extends_trans t₀ t₁ t₂ x₁ c.conclusion_term.ensures.extends in
    let x₃ : Extends t₀ t₃ = extends_trans t₀ t₂ t₃ x₂ c.may_have_type.ensures.extends in
    known-more t₀ t₃ c.args.hyps.now c.requires.hyps x₃

pub has_form-requires-clause-params : goal.has_form-requires-clause-params
has_form-requires-clause-params g c =
    let t₀ = c.args.table.now in
    let t₁ = c.rule_in_signature.new.table in
    let t₂ = c.conclusion_term.new.table in
    let t₃ = c.may_have_type.new.table in
    let x₁ : Extends t₀ t₁ = c.rule_in_signature.ensures.extends in
    let x₂ : Extends t₀ t₂ = extends_trans t₀ t₁ t₂ x₁ c.conclusion_term.ensures.extends in
    let x₃ : Extends t₀ t₃ = extends_trans t₀ t₂ t₃ x₂ c.may_have_type.ensures.extends in
    known-more t₀ t₃ c.args.params.now c.requires.params x₃

pub has_form-requires-clause-premises : goal.has_form-requires-clause-premises
has_form-requires-clause-premises g c =
    let t₀ = c.args.table.now in
    let t₁ = c.rule_in_signature.new.table in
    let t₂ = c.conclusion_term.new.table in
    let t₃ = c.may_have_type.new.table in
    let x₁ : Extends t₀ t₁ = c.rule_in_signature.ensures.extends in
    let x₂ : Extends t₀ t₂ = extends_trans t₀ t₁ t₂ x₁ c.conclusion_term.ensures.extends in
    let x₃ : Extends t₀ t₃ = extends_trans t₀ t₂ t₃ x₂ c.may_have_type.ensures.extends in
    placeds-more t₀ t₃ _ (are_placed _ _ _ c.requires.premises) x₃

pub returns-then-not-branch-2-clause-answer : goal.returns-then-not-branch-2-clause-answer
returns-then-not-branch-2-clause-answer g c =
    let t₀ = c.args.table.now in
    let t₁ = c.rule_in_signature.new.table in
    let t₂ = c.conclusion_term.new.table in
    let t₃ = c.may_have_type.new.table in
    let x₁ : Extends t₀ t₁ = c.rule_in_signature.ensures.extends in
    let x₂ : Extends t₀ t₂ = extends_trans t₀ t₁ t₂ x₁ c.conclusion_term.ensures.extends in
    let x₃ : Extends t₀ t₃ = extends_trans t₀ t₂ t₃ x₂ c.may_have_type.ensures.extends in
    let sig = g.S.Signature.declares c.args.sig.now t₀ in
    let hyps = c.args.hyps.now in
    let params = c.args.params.now in
    let n = c.args.number in
    let l = sequents_of c.args.premises.now in
    let r = rule_of c.in-Some.rule.now in
    let row : rule_in_signature sig n ≡ Some r = sym c.in_ok-rule.ensures.rule ∙ ap (option_map (λ z. rule_of z.now)) c.in-Some.is in
    let placed = are_placed sig t₀ l c.requires.premises in
    let same = g.met.S.Signature.same_types c.args.sig.now t₀ t₃ x₃ c.requires.holds in
    let unfit : HasForm sig t₀ hyps params r l → ⊥ = λ form.
    let later = form-more sig t₀ t₃ hyps params r l c.requires.hyps c.requires.params placed x₃ form in
    let there = subst (λ z. HasForm z t₃ hyps params r l) (sym same) later in
    let yes : false ≡ true = sym c.if-not-branch-2.true ∙ c.in_ok-has_form.ensures.answer.1 there in
    cc in
    no_form sig t₀ c.has_form.new.table hyps params n r l row unfit

pub form_id-requires-clause-known : goal.form_id-requires-clause-known
form_id-requires-clause-known g c =
    let t₀ = c.args.table.now in
    let t₁ = c.rule_in_signature.new.table in
    let t₂ = c.conclusion_term.new.table in
    let t₃ = c.may_have_type.new.table in
    let t₄ = c.has_form.new.table in
    let x₁ : Extends t₀ t₁ = c.rule_in_signature.ensures.extends in
    let x₂ : Extends t₀ t₂ = extends_trans t₀ t₁ t₂ x₁ c.conclusion_term.ensures.extends in
    let x₃ : Extends t₀ t₃ = extends_trans t₀ t₂ t₃ x₂ c.may_have_type.ensures.extends in
    let x₄ : Extends t₀ t₄ = extends_trans t₀ t₃ t₄ x₃ c.has_form.ensures.extends in
    known-more t₀ t₄ c.args.params.now c.requires.params x₄

pub returns-in_err-goal-clause-kept : goal.returns-in_err-goal-clause-kept
returns-in_err-goal-clause-kept g c =
    let t₀ = c.args.table.now in
    let t₁ = c.rule_in_signature.new.table in
    let t₂ = c.conclusion_term.new.table in
    let t₃ = c.may_have_type.new.table in
    let t₄ = c.has_form.new.table in
    let t₅ = c.form_id.new.table in
    let x₁ : Extends t₀ t₁ = c.rule_in_signature.ensures.extends in
    let x₂ : Extends t₀ t₂ = extends_trans t₀ t₁ t₂ x₁ c.conclusion_term.ensures.extends in
    let x₃ : Extends t₀ t₃ = extends_trans t₀ t₂ t₃ x₂ c.may_have_type.ensures.extends in
    let x₄ : Extends t₀ t₄ = extends_trans t₀ t₃ t₄ x₃ c.has_form.ensures.extends in
    let x₅ : Extends t₀ t₅ = extends_trans t₀ t₄ t₅ x₄ c.form_id.ensures.extends in
    let after = g.S.Signature.declares c.args.sig.now in
    let y : Extends t₄ t₅ = c.form_id.ensures.extends in
    let held = g.met.S.Signature.still_holds c.args.sig.now t₀ t₄ x₄ c.requires.holds in
    let same = g.met.S.Signature.same_types c.args.sig.now t₄ t₅ y held in
    kept-grown c.has_form.new.kept _ (after t₄) (after t₅) t₄ t₅ c.has_form.ensures.kept y same c.form_id.ensures.kept refl

pub is_proof-requires-clause-hyps : goal.is_proof-requires-clause-hyps
is_proof-requires-clause-hyps g c =
    let t₀ = c.args.table.now in
    let t₁ = c.rule_in_signature.new.table in
    let t₂ = c.conclusion_term.new.table in
    let t₃ = c.may_have_type.new.table in
    let t₄ = c.has_form.new.table in
    let t₅ = c.form_id.new.table in
    let x₁ : Extends t₀ t₁ = c.rule_in_signature.ensures.extends in
    let x₂ : Extends t₀ t₂ = extends_trans t₀ t₁ t₂ x₁ c.conclusion_term.ensures.extends in
    let x₃ : Extends t₀ t₃ = extends_trans t₀ t₂ t₃ x₂ c.may_have_type.ensures.extends in
    let x₄ : Extends t₀ t₄ = extends_trans t₀ t₃ t₄ x₃ c.has_form.ensures.extends in
    let x₅ : Extends t₀ t₅ = extends_trans t₀ t₄ t₅ x₄ c.form_id.ensures.extends in
    known-more t₀ t₅ c.args.hyps.now c.requires.hyps x₅

pub is_proof-requires-clause-proved : goal.is_proof-requires-clause-proved
is_proof-requires-clause-proved g c =
    let t₀ = c.args.table.now in
    let t₁ = c.rule_in_signature.new.table in
    let t₂ = c.conclusion_term.new.table in
    let t₃ = c.may_have_type.new.table in
    let t₄ = c.has_form.new.table in
    let t₅ = c.form_id.new.table in
    let x₁ : Extends t₀ t₁ = c.rule_in_signature.ensures.extends in
    let x₂ : Extends t₀ t₂ = extends_trans t₀ t₁ t₂ x₁ c.conclusion_term.ensures.extends in
    let x₃ : Extends t₀ t₃ = extends_trans t₀ t₂ t₃ x₂ c.may_have_type.ensures.extends in
    let x₄ : Extends t₀ t₄ = extends_trans t₀ t₃ t₄ x₃ c.has_form.ensures.extends in
    let x₅ : Extends t₀ t₅ = extends_trans t₀ t₄ t₅ x₄ c.form_id.ensures.extends in
    let sig = g.S.Signature.declares c.args.sig.now t₀ in
    let hyps = c.args.hyps.now in
    let params = c.args.params.now in
    let n = c.args.number in
    let l = sequents_of c.args.premises.now in
    let r = rule_of c.in-Some.rule.now in
    let row : rule_in_signature sig n ≡ Some r = sym c.in_ok-rule.ensures.rule ∙ ap (option_map (λ z. rule_of z.now)) c.in-Some.is in
    let placed = are_placed sig t₀ l c.requires.premises in
    let tree = by_rule n (trees_of t₀ params) (proofs_taken t₀ r.premises l) in
    let id = c.in_ok-term.term in
    let made : tree_at t₂ id ≡ tree = term-was t₀ t₁ t₂ params n r l id c.requires.params placed x₁ c.in_ok-term.ensures.id in
    let y₄ : Extends t₂ t₄ = extends_trans t₂ t₃ t₄ c.may_have_type.ensures.extends c.has_form.ensures.extends in
    let y₅ : Extends t₂ t₅ = extends_trans t₂ t₄ t₅ y₄ c.form_id.ensures.extends in
    let formula = form_with r.conclusion (nth_arg (trees_of t₀ params)) in
    let goal-id = c.in_ok-goal.goal in
    let is-term : tree_at t₅ id ≡ tree = y₅.same id c.in_ok-term.ensures.id.known ∙ made in
    let is-goal : tree_at t₅ goal-id ≡ formula = goal-was t₀ t₄ t₅ params r goal-id c.requires.params x₄ c.in_ok-goal.ensures.id in
    let same = g.met.S.Signature.same_types c.args.sig.now t₀ t₅ x₅ c.requires.holds in
    let checked = derives-at sig (g.S.Signature.declares c.args.sig.now t₅) t₀ t₅ hyps params n r l id goal-id
    same c.requires.hyps x₅ is-term is-goal in
    let same₃ = g.met.S.Signature.same_types c.args.sig.now t₀ t₃ x₃ c.requires.holds in
    let later : HasForm sig t₃ hyps params r l =
    subst (λ z. HasForm z t₃ hyps params r l) same₃ (c.in_ok-has_form.ensures.answer.0 c.if-not-branch-2.false) in
    let form : HasForm sig t₀ hyps params r l =
    form-back sig t₀ t₃ hyps params r l c.requires.hyps c.requires.params placed x₃ later in
    let has = has_rule sig (g.met.S.Known.known c.args.sig.now t₀ c.requires.holds) n r row in
    λ q. subst (λ (z : Type 0). z) (sym checked)
    (proves_conclusion sig t₀ hyps params n r l has.0 has.1 c.requires.premises (c.has_room-room.ensures q) form)

pub is_proof-requires-clause-kept : goal.is_proof-requires-clause-kept
is_proof-requires-clause-kept g c =
    let t₀ = c.args.table.now in
    let t₁ = c.rule_in_signature.new.table in
    let t₂ = c.conclusion_term.new.table in
    let t₃ = c.may_have_type.new.table in
    let t₄ = c.has_form.new.table in
    let t₅ = c.form_id.new.table in
    let x₁ : Extends t₀ t₁ = c.rule_in_signature.ensures.extends in
    let x₂ : Extends t₀ t₂ = extends_trans t₀ t₁ t₂ x₁ c.conclusion_term.ensures.extends in
    let x₃ : Extends t₀ t₃ = extends_trans t₀ t₂ t₃ x₂ c.may_have_type.ensures.extends in
    let x₄ : Extends t₀ t₄ = extends_trans t₀ t₃ t₄ x₃ c.has_form.ensures.extends in
    let x₅ : Extends t₀ t₅ = extends_trans t₀ t₄ t₅ x₄ c.form_id.ensures.extends in
    let after = g.S.Signature.declares c.args.sig.now in
    let y : Extends t₄ t₅ = c.form_id.ensures.extends in
    let held = g.met.S.Signature.still_holds c.args.sig.now t₀ t₄ x₄ c.requires.holds in
    let same = g.met.S.Signature.same_types c.args.sig.now t₄ t₅ y held in
    kept-grown c.has_form.new.kept _ (after t₄) (after t₅) t₄ t₅ c.has_form.ensures.kept y same c.form_id.ensures.kept refl

pub returns-then-not-branch-3-clause-answer : goal.returns-then-not-branch-3-clause-answer
returns-then-not-branch-3-clause-answer g c =
    let t₀ = c.args.table.now in
    let t₁ = c.rule_in_signature.new.table in
    let t₂ = c.conclusion_term.new.table in
    let t₃ = c.may_have_type.new.table in
    let t₄ = c.has_form.new.table in
    let t₅ = c.form_id.new.table in
    let x₁ : Extends t₀ t₁ = c.rule_in_signature.ensures.extends in
    let x₂ : Extends t₀ t₂ = extends_trans t₀ t₁ t₂ x₁ c.conclusion_term.ensures.extends in
    let x₃ : Extends t₀ t₃ = extends_trans t₀ t₂ t₃ x₂ c.may_have_type.ensures.extends in
    let x₄ : Extends t₀ t₄ = extends_trans t₀ t₃ t₄ x₃ c.has_form.ensures.extends in
    let x₅ : Extends t₀ t₅ = extends_trans t₀ t₄ t₅ x₄ c.form_id.ensures.extends in
    let sig = g.S.Signature.declares c.args.sig.now t₀ in
    let hyps = c.args.hyps.now in
    let params = c.args.params.now in
    let n = c.args.number in
    let l = sequents_of c.args.premises.now in
    let r = rule_of c.in-Some.rule.now in
    let row : rule_in_signature sig n ≡ Some r = sym c.in_ok-rule.ensures.rule ∙ ap (option_map (λ z. rule_of z.now)) c.in-Some.is in
    let placed = are_placed sig t₀ l c.requires.premises in
    let tree = by_rule n (trees_of t₀ params) (proofs_taken t₀ r.premises l) in
    let id = c.in_ok-term.term in
    let made : tree_at t₂ id ≡ tree = term-was t₀ t₁ t₂ params n r l id c.requires.params placed x₁ c.in_ok-term.ensures.id in
    let y₄ : Extends t₂ t₄ = extends_trans t₂ t₃ t₄ c.may_have_type.ensures.extends c.has_form.ensures.extends in
    let y₅ : Extends t₂ t₅ = extends_trans t₂ t₄ t₅ y₄ c.form_id.ensures.extends in
    let formula = form_with r.conclusion (nth_arg (trees_of t₀ params)) in
    let goal-id = c.in_ok-goal.goal in
    let is-term : tree_at t₅ id ≡ tree = y₅.same id c.in_ok-term.ensures.id.known ∙ made in
    let is-goal : tree_at t₅ goal-id ≡ formula = goal-was t₀ t₄ t₅ params r goal-id c.requires.params x₄ c.in_ok-goal.ensures.id in
    let same = g.met.S.Signature.same_types c.args.sig.now t₀ t₅ x₅ c.requires.holds in
    let checked = derives-at sig (g.S.Signature.declares c.args.sig.now t₅) t₀ t₅ hyps params n r l id goal-id
    same c.requires.hyps x₅ is-term is-goal in
    let unproved : HasForm sig t₀ hyps params r l → Derives sig t₀ hyps params n r l → ⊥ = λ _ derives.
    let there = subst (λ (z : Type 0). z) (sym checked) derives in
    let yes : false ≡ true = sym c.if-not-branch-3.true ∙ c.in_ok-is_proof.ensures.exact.1 there in
    cc in
    not_derived sig t₀ c.is_proof.new.table hyps params n r l row unproved

pub returns-clause-answer : goal.returns-clause-answer
returns-clause-answer g c =
    let t₀ = c.args.table.now in
    let t₁ = c.rule_in_signature.new.table in
    let t₂ = c.conclusion_term.new.table in
    let t₃ = c.may_have_type.new.table in
    let t₄ = c.has_form.new.table in
    let t₅ = c.form_id.new.table in
    let t₆ = c.is_proof.new.table in
    let x₁ : Extends t₀ t₁ = c.rule_in_signature.ensures.extends in
    let x₂ : Extends t₀ t₂ = extends_trans t₀ t₁ t₂ x₁ c.conclusion_term.ensures.extends in
    let x₃ : Extends t₀ t₃ = extends_trans t₀ t₂ t₃ x₂ c.may_have_type.ensures.extends in
    let x₄ : Extends t₀ t₄ = extends_trans t₀ t₃ t₄ x₃ c.has_form.ensures.extends in
    let x₅ : Extends t₀ t₅ = extends_trans t₀ t₄ t₅ x₄ c.form_id.ensures.extends in
    let x₆ : Extends t₀ t₆ = extends_trans t₀ t₅ t₆ x₅ c.is_proof.ensures.extends in
    let sig = g.S.Signature.declares c.args.sig.now t₀ in
    let hyps = c.args.hyps.now in
    let params = c.args.params.now in
    let n = c.args.number in
    let l = sequents_of c.args.premises.now in
    let r = rule_of c.in-Some.rule.now in
    let row : rule_in_signature sig n ≡ Some r = sym c.in_ok-rule.ensures.rule ∙ ap (option_map (λ z. rule_of z.now)) c.in-Some.is in
    let placed = are_placed sig t₀ l c.requires.premises in
    let tree = by_rule n (trees_of t₀ params) (proofs_taken t₀ r.premises l) in
    let id = c.in_ok-term.term in
    let made : tree_at t₂ id ≡ tree = term-was t₀ t₁ t₂ params n r l id c.requires.params placed x₁ c.in_ok-term.ensures.id in
    let y₄ : Extends t₂ t₄ = extends_trans t₂ t₃ t₄ c.may_have_type.ensures.extends c.has_form.ensures.extends in
    let y₅ : Extends t₂ t₅ = extends_trans t₂ t₄ t₅ y₄ c.form_id.ensures.extends in
    let formula = form_with r.conclusion (nth_arg (trees_of t₀ params)) in
    let goal-id = c.in_ok-goal.goal in
    let is-term : tree_at t₅ id ≡ tree = y₅.same id c.in_ok-term.ensures.id.known ∙ made in
    let is-goal : tree_at t₅ goal-id ≡ formula = goal-was t₀ t₄ t₅ params r goal-id c.requires.params x₄ c.in_ok-goal.ensures.id in
    let same = g.met.S.Signature.same_types c.args.sig.now t₀ t₅ x₅ c.requires.holds in
    let checked = derives-at sig (g.S.Signature.declares c.args.sig.now t₅) t₀ t₅ hyps params n r l id goal-id
    same c.requires.hyps x₅ is-term is-goal in
    let same₃ = g.met.S.Signature.same_types c.args.sig.now t₀ t₃ x₃ c.requires.holds in
    let later : HasForm sig t₃ hyps params r l =
    subst (λ z. HasForm z t₃ hyps params r l) same₃ (c.in_ok-has_form.ensures.answer.0 c.if-not-branch-2.false) in
    let form : HasForm sig t₀ hyps params r l =
    form-back sig t₀ t₃ hyps params r l c.requires.hyps c.requires.params placed x₃ later in
    let last : Extends t₅ t₆ = c.is_proof.ensures.extends in
    let derives : Derives sig t₀ hyps params n r l =
    subst (λ (z : Type 0). z) checked (c.in_ok-is_proof.ensures.exact.0 c.if-not-branch-3.false) in
    let term-known : IsKnown t₅ id = omega (arith, c.in_ok-term.ensures.id.known, y₅.longer) in
    let term-there : IsKnown t₆ id = omega (arith, term-known, last.longer) in
    let goal-known : IsKnown t₅ goal-id = c.in_ok-goal.ensures.id.known in
    let goal-there : IsKnown t₆ goal-id = omega (arith, goal-known, last.longer) in
    let same-hyps : c.in_ok-to_vec.field-0.items ≡ hyps = search rules in
    let s : Sequent = record { hyps = c.in_ok-to_vec.field-0; goal = goal-id; term = id } in
    let concludes = concluded sig t₀ t₆ hyps params n r l s c.requires.hyps x₆ same-hyps
    goal-there (last.same goal-id goal-known ∙ is-goal) term-there (last.same id term-known ∙ is-term) derives in
    subst (λ o. IsRowAnswer sig t₀ t₆ hyps params n o l (Some s)) (sym row) (form, concludes)
