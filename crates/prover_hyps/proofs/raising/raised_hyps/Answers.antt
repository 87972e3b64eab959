use Rattle.std.proofs.Common.{[], ◌∷◌, ◌++◌, ◌+◌, ◌≤◌, cond, length, get_or, sym, ◌∙◌, ap, subst, arith}
use Rattle.term_table.specs.Tree.{shift}
use Rattle.formula_tree.specs.Formulas.{shift_form}
use Rattle.prover_ids.specs.Hypotheses.{AreKnownHyps, AreHyps}
use Rattle.prover_class.specs.Hypotheses.{raised_hyps}
use Rattle.hereditary_subst.specs.Limits.{is_limited, left_of}
use Rattle.hereditary_subst.proofs.Limits.{charge-within}
use Rattle.hereditary_subst.proofs.Rows.{grows_more}
use Rattle.prover_hyps.proofs.Raised.{known-at, raised-step}
use Rattle.prover_hyps.proofs.raising.raised_hyps.Goals as goal

pub push_raised-requires-clause-form : goal.push_raised-requires-clause-form
push_raised-requires-clause-form c =
    let s = c.args.table.now in
    let l = c.as_slice-list.result.now in
    let k = known-at s l c.loop-i.i c.index-list-i.result (subst (AreKnownHyps s) (sym c.as_slice-list.ensures) c.requires.hyps) c.loop-i-test.true in
    omega (arith, k.0, c.loop-i.invariant.extends.longer)

pub push_raised-requires-clause-proof : goal.push_raised-requires-clause-proof
push_raised-requires-clause-proof c =
    let s = c.args.table.now in
    let l = c.as_slice-list.result.now in
    let k = known-at s l c.loop-i.i c.index-list-i-in-loop-i.result (subst (AreKnownHyps s) (sym c.as_slice-list.ensures) c.requires.hyps) c.loop-i-test.true in
    omega (arith, k.1, c.loop-i.invariant.extends.longer)

pub loop-i-preserved : goal.loop-i-preserved
loop-i-preserved c =
    let s = c.args.table.now in
    let t = c.loop-i.table in
    let u = c.push_raised.new.table in
    let st = c.loop-i.invariant.extends in
    let done = c.in_ok-push_raised.ensures in
    let l = c.as_slice-list.result.now in
    let i = c.loop-i.i in
    let d = c.index-list-i.result in
    let e = c.index-list-i-in-loop-i.result in
    let known = subst (AreKnownHyps s) (sym c.as_slice-list.ensures) c.requires.hyps in
    let form = (known-at s l i d known c.loop-i-test.true).0 in
    let proof = (known-at s l i e known c.loop-i-test.true).1 in
    let more = c.push_raised.new.under in
    record {
      known = done.known;
      extends = grows_more s t u st done.extends;
      memo = done.memo;
      limited = done.spends.0 ∙ c.loop-i.invariant.limited;
      less = omega (arith, done.spends.1, c.loop-i.invariant.less);
      left = λ y.
          let one : left_of c.push_raised.new.memo + 1 ≤ left_of c.loop-i.memo =
          subst (λ b. left_of c.push_raised.new.memo + cond b 1 0 ≤ left_of c.loop-i.memo) (c.loop-i.invariant.limited ∙ y) done.left in
          omega (arith, one, c.loop-i.invariant.left y);
      exact = raised-step s u l i d e more c.loop-i-test.true
          (λ Γ A a q. subst (λ p. AreHyps u more (raised_hyps Γ ++ (shift_form 1 0 A, shift 1 0 p) ∷ [])) (st.same (get_or l i e).proof proof)
          (done.exact (raised_hyps Γ) A (c.loop-i.invariant.exact Γ a) (st.same (get_or l i d).form form ∙ q)));
    }

pub returns-clause-left : goal.returns-clause-left
returns-clause-left c =
    let inv = c.loop-i.invariant in
    charge-within (is_limited c.args.memo.now) (left_of c.loop-i.memo) (left_of c.args.memo.now) (length c.args.hyps.now) inv.less
    (λ e. omega (arith, inv.left e, c.loop-i-test.false, ap length c.as_slice-list.ensures))
