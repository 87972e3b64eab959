use Rattle.std.proofs.Common.{rules, ◌≡◌, ℕ, sym, ◌∙◌, ap, subst, arith}
use Rattle.term_table.specs.Tree.{Var}
use Rattle.term_table.specs.Table.{IsKnown, tree_at}
use Rattle.prover_ids.specs.Hypotheses.{AreHyps}
use Rattle.prover_ids.proofs.Standing.{twice}
use Rattle.prover_class.specs.Hypotheses.{split_hyps, with_new}
use Rattle.view_marks.proofs.Gathering.{known_at, split-step}
use Rattle.view_marks.proofs.hints.hypotheses_of.Goals as goal

pub add_formula-requires-clause-form : goal.add_formula-requires-clause-form
add_formula-requires-clause-form c =
    let s = c.args.table.now in
    let x = c.index-known-i.result in
    let first : IsKnown s x =
    subst (IsKnown s) (sym c.index-known-i.is) (known_at s c.args.known.now c.loop-i.i x c.requires c.loop-i-test.true) in
    omega (arith, first, c.loop-i.invariant.extends.longer)

pub loop-i-preserved : goal.loop-i-preserved
loop-i-preserved c =
    let s = c.args.table.now in
    let t = c.loop-i.table in
    let n = c.add_formula.new in
    let i = c.loop-i.i in
    let l = c.args.known.now in
    let x = c.index-known-i.result in
    let before = c.loop-i.invariant in
    let done = c.in_ok-add_formula-in-Ok.ensures in
    let k_is : c.in-Ok.k ≡ i = search rules in
    record {
      extends = twice before.extends done.extends;
      hyps_known = done.known;
      exact = λ Fs e. split-step s t n.table l Fs i x c.loop-i.hyps n.hyps c.requires before.extends e c.loop-i-test.true
          (λ Γ F g q. subst (λ (m : ℕ). AreHyps n.table n.hyps (with_new Γ (split_hyps F (Var m)))) k_is
          (done.exact Γ F g (ap (tree_at t) c.index-known-i.is ∙ q))) (before.exact Fs e);
    }
