use Rattle.std.proofs.Common.{rules, arith, ◌≡◌, ◌∙◌, IsTrue, refl, sym, ap, subst}
use Rattle.term_table.specs.Table.{IsKnown, AllKnown, tree_at, ctx_of, Extends}
use Rattle.lf_signature.specs.Terms.{pf}
use Rattle.lf_signature.specs.Typing.{Checks}
use Rattle.lf_signature.specs.Constants.{declared}
use Rattle.lf_signature.specs.declared.editions.WordSignature.TheVariants.{Sigma3}
use Rattle.lf_lemmas.specs.Lemmas.{formulas_of, with_lemmas}
use Rattle.lf_lemmas.specs.Tables.{lemmas_in}
use Rattle.lf_lemmas.specs.Laws.Lawful.{lemmas_same, proved_hold}
use Rattle.lf_sequents.specs.Sequents.{IsSequent}
use Rattle.lf_sequents.proofs.Fitting.{sequent-more}
use Rattle.test_layers.proofs.rules.is_sequent.Goals as goal

pub returns-in-Ok-true-clause-holds : goal.returns-in-Ok-true-clause-holds
returns-in-Ok-true-clause-holds c =
    let sig = declared Sigma3 in
    proved_hold sig sig c.args.lemmas.now c.are_proved.new.table c.check_term.new.table refl
    c.in-Ok-true.ensures.extends c.in_ok-are_proved.ensures.holds

pub returns-in-Ok-true-clause-sequent : goal.returns-in-Ok-true-clause-sequent
returns-in-Ok-true-clause-sequent c =
    let ids = c.args.lemmas.now in
    let t₀ = c.args.table.now in
    let t₁ = c.pf.new.table in
    let t₂ = c.are_proved.new.table in
    let t₃ = c.check_term.new.table in
    let s = c.args.s.now in
    let x : Extends t₀ t₁ = c.in-Ok.ensures.extends in
    let y : Extends t₁ t₂ = c.in_ok-are_proved.ensures.extends in
    let z : Extends t₂ t₃ = c.in-Ok-true.ensures.extends in
    let known : IsKnown t₀ s.goal = c.in_ok-known.ensures in
    let later : IsKnown t₁ s.goal = omega (arith, known, x.longer) in
    let sig = with_lemmas (declared Sigma3) (formulas_of (lemmas_in t₂ ids)) in
    let yes : IsTrue c.in-Ok-true.field-0 = search rules in
    let kind : tree_at t₂ c.in-Ok.kind ≡ pf (tree_at t₂ s.goal) =
    y.same c.in-Ok.kind c.in-Ok.ensures.id.known ∙ c.in-Ok.ensures.id.is
    ∙ ap pf (sym (x.same s.goal known)) ∙ ap pf (sym (y.same s.goal later)) in
    let proves : Checks sig (ctx_of t₂ s.hyps.items) (tree_at t₂ s.term) (pf (tree_at t₂ s.goal)) =
    subst (λ (z : Type 0). z)
    (λ i. Checks sig (ctx_of t₂ (c.as_slice-2.ensures.value i)) (tree_at t₂ s.term) (kind i))
    (c.in-Ok-true.ensures.answer.0 yes) in
    let here : IsSequent sig t₃ s =
    sequent-more sig t₂ t₃ s (record {
      placed = record {
        hyps = subst (λ z. AllKnown t₂ z) c.as_slice.ensures.value c.in_ok-all_known.ensures;
        goal = omega (arith, later, y.longer);
        term = c.in_ok-known-2.ensures;
      };
      proves = proves;
    }) z in
    subst (λ z. IsSequent z t₃ s)
    (sym (lemmas_same (declared Sigma3) (declared Sigma3) ids t₂ t₃ refl c.in_ok-are_proved.ensures.holds.lemmas z))
    here
