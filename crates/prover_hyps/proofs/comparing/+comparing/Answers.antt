use Rattle.std.proofs.Common.{◌≡◌, [], ◌∷◌, OnOk, not, sym, ◌∙◌, subst, arith, Some}
use Rattle.term_table.specs.Table.{IsKnown, tree_at}
use Rattle.prover_ids.specs.Hypotheses.{AreHyps}
use Rattle.prover_class.specs.Hypotheses.{compared, comparison, comparison_hyps, other_hyps, tested_hyps, with_new}
use Rattle.prover_ids.proofs.HypRows.{hyps-after}
use Rattle.prover_hyps.proofs.Compared.{tested-split}
use Rattle.prover_hyps.proofs.comparing.+comparing.Goals as goal

pub add_comparison-returns-clause-exact : goal.add_comparison-returns-clause-exact
add_comparison-returns-clause-exact t c = λ Γ x y h a b.
    let s = c.args.table.now in
    let u = c.comparison.new.table in
    let su = c.in_ok-form.ensures.extends in
    let C = comparison c.args.holds c.args.rel x y in
    let form = (c.in_ok-form.ensures.exact x y a b).is in
    let proof : tree_at u c.args.proof ≡ tree_at s c.args.proof = su.same c.args.proof c.requires.proof in
    let Δ = with_new Γ ((C, tree_at u c.args.proof) ∷ []) in
    let first : AreHyps u c.add.new.hyps Δ = c.in_ok-add.ensures.exact Γ C (hyps-after s u c.args.hyps.now Γ c.requires.hyps su h) form in
    let rest = c.add_others.ensures.exact Δ x y first (su.same c.args.a c.requires.a ∙ a) (su.same c.args.b c.requires.b ∙ b) in
    subst (λ p. OnOk c.add_others.result (AreHyps c.add_others.new.table c.add_others.new.hyps (with_new (with_new Γ ((C, p) ∷ [])) (other_hyps (tested_hyps x) c.args.holds c.args.rel x y p)))) proof rest

pub add_tested-returns-in_ok-proof-in-Some-clause-exact : goal.add_tested-returns-in_ok-proof-in-Some-clause-exact
add_tested-returns-in_ok-proof-in-Some-clause-exact t c = λ Γ x h a.
    let s = c.args.table.now in
    let u = c.tested.new.table in
    let su = c.in_ok-proof-in-Some.ensures.extends in
    let at = c.in-Apply.ensures.is x a in
    let proved = c.in_ok-proof-in-Some.ensures.exact at.left at.right at.left_is at.right_is in
    let is : compared c.in-Apply.op ≡ Some (c.in-Some.rel, c.in-Some.place) = sym c.compared.ensures.exact ∙ c.in-Some.is in
    let ka : IsKnown s c.in-Apply.x = omega (arith, c.requires.a, c.in-Apply.ensures.below.0) in
    let kb : IsKnown s c.in-Apply.y = omega (arith, c.requires.a, c.in-Apply.ensures.below.1) in
    let rest = c.add_comparison.ensures.exact Γ at.left at.right (hyps-after s u c.args.hyps.now Γ c.requires.hyps su h) (su.same c.in-Apply.x ka ∙ at.left_is) (su.same c.in-Apply.y kb ∙ at.right_is) in
    subst (λ z. OnOk c.add_comparison.result (AreHyps c.add_comparison.new.table c.add_comparison.new.hyps (with_new Γ (tested_hyps z c.args.is_zero (tree_at s c.args.proof))))) (sym at.is)
    (subst (λ L. OnOk c.add_comparison.result (AreHyps c.add_comparison.new.table c.add_comparison.new.hyps (with_new Γ L))) (tested-split c.args.is_zero c.in-Apply.op c.in-Some.rel c.in-Some.place at.left at.right (tree_at s c.args.proof) is)
    (subst (λ p. OnOk c.add_comparison.result (AreHyps c.add_comparison.new.table c.add_comparison.new.hyps (with_new Γ (comparison_hyps (tested_hyps at.left) (not c.args.is_zero) c.in-Some.rel at.left at.right p)))) proved.is rest))
