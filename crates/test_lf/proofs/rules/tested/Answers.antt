use Rattle.std.proofs.Common.{rules, arith, ◌≡◌, ◌∙◌, IsTrue, sym, ap, subst}
use Rattle.term_table.specs.Table.{IsKnown, AllKnown, tree_at, ctx_of, Extends}
use Rattle.lf_signature.specs.Terms.{pf}
use Rattle.lf_signature.specs.Typing.{Checks}
use Rattle.lf_signature.specs.Constants.{declared}
use Rattle.lf_sequents.proofs.Fitting.{sequent-more}
use Rattle.test_lf.proofs.rules.tested.Goals as goal

pub returns-in-Ok-true-clause-sequent : goal.returns-in-Ok-true-clause-sequent
returns-in-Ok-true-clause-sequent c =
    let t₀ = c.args.table.now in
    let t₁ = c.pf.new.table in
    let s = c.args.s.now in
    let x : Extends t₀ t₁ = c.in-Ok.ensures.extends in
    let goal : IsKnown t₀ s.goal = c.in_ok-known.ensures in
    let yes : IsTrue c.in-Ok-true.field-0 = search rules in
    let kind : tree_at t₁ c.in-Ok.kind ≡ pf (tree_at t₁ s.goal) = c.in-Ok.ensures.id.is ∙ ap pf (sym (x.same s.goal goal)) in
    let proves : Checks (declared c.args.sig.now) (ctx_of t₁ s.hyps.items) (tree_at t₁ s.term) (pf (tree_at t₁ s.goal)) =
    subst (λ (z : Type 0). z) (λ i. Checks (declared c.args.sig.now) (ctx_of t₁ (c.as_slice-2.ensures.value i)) (tree_at t₁ s.term) (kind i)) (c.in-Ok-true.ensures.answer.0 yes) in
    sequent-more (declared c.args.sig.now) t₁ c.check_term.new.table s (record {
      placed = record {
        hyps = subst (λ z. AllKnown t₁ z) c.as_slice.ensures.value c.in_ok-all_known.ensures;
        goal = omega (arith, goal, x.longer);
        term = c.in_ok-known-2.ensures;
      };
      proves = proves;
    }) c.in-Ok-true.ensures.extends
