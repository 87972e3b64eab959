use Rattle.std.proofs.Common.{◌≡◌, Vec, Global, ◌<◌, ◌≤◌, ◌+◌, length, List, [], refl, sym, ◌∙◌, ap, subst, arith}
use Rattle.term_table.specs.Table.{IsKnown, AllKnown, tree_at}
use Rattle.lf_terms.specs.Encoding.{exp_encoding}
use Rattle.prover_ids.specs.declared.hypotheses.Hypothesis.{Hypothesis}
use Rattle.prover_ids.proofs.HypRows.{known_hyps-more}
use Rattle.prover_ids.proofs.Standing.{twice}
use Rattle.prover_bounds.proofs.Scans.{hyp_known}
use Rattle.prover_goals.proofs.WordRows.{itself}
use Rattle.view_marks.specs.Inside.Nearness.{access_at}
use Rattle.view_marks.proofs.Gathering.{all_known-more, known_push, AreFound, near-step, far-step, near-end}
use Rattle.view_marks.proofs.nearness.near.Goals as goal
use Rattle.view_marks.proofs.nearness.near.Goals.{then-branch+in_ok-push, else-branch}

pub loop-i-init : goal.loop-i-init
loop-i-init c =
    let t = c.args.table.now in
    let k = access_at c.args.asked.now.store in
    let none = sym c.new-found.ensures.items in
    record {
      extends = itself t;
      search = c.in_ok-spend_steps.ensures.search t c.requires.search;
      kept = c.new-kept.ensures [] t;
      found_known = subst (AllKnown t) none tt;
      exact = λ Γ a g q. subst (λ (l : List _). AreFound t l k a Γ 0) none refl;
    }

pub form_at-hyp-requires-clause-hyps : goal.form_at-hyp-requires-clause-hyps
form_at-hyp-requires-clause-hyps c =
    known_hyps-more c.args.table.now c.loop-i.table c.args.hyps.now c.requires.hyps c.loop-i.invariant.extends

pub loop-i-preserved : goal.loop-i-preserved
loop-i-preserved c =
    let s = c.args.table.now in
    let t = c.loop-i.table in
    let u = c.is_near.new.table in
    let i = c.loop-i.i in
    let l = c.args.hyps.now in
    let x = c.form_at-hyp.result in
    let address = c.args.asked.now.address in
    let k = access_at c.args.asked.now.store in
    let old = c.loop-i.found.items in
    let more = c.if-branch.found in
    let b = c.in_ok-is_near.field-0 in
    let before = c.loop-i.invariant in
    let done = c.in_ok-is_near.ensures in
    let at = c.form_at-hyp.ensures in
    let low : i < length l = c.loop-i-test.true in
    let first : IsKnown s x.form =
    subst (λ (z : Hypothesis). IsKnown s z.form) (sym at.at) (hyp_known s l i x c.requires.hyps low).0 in
    let later : IsKnown u x.form = omega (arith, at.known, done.extends.longer) in
    record {
      extends = twice before.extends done.extends;
      search = done.search;
      kept = done.kept;
      found_known = elim c.if-branch.branch [
        | then-branch+in_ok-push w ↦ known_push u old more.items x.form (all_known-more t u old before.found_known done.extends) later
            (ap (λ (v : Vec _ Global). v.items) w.found-is ∙ w.in_ok-push.ensures.items)
        | else-branch w ↦ subst (λ (v : Vec _ Global). AllKnown u v.items) (sym w.found-is) (all_known-more t u old before.found_known done.extends)
      ];
      exact = λ Γ a g q.
          let there : tree_at t address ≡ exp_encoding a = before.extends.same address c.requires.asked ∙ q in
          elim c.if-branch.branch [
            | then-branch+in_ok-push w ↦ near-step s t u l Γ i k a x old b more.items at.at g low before.extends first before.found_known done.extends
                (λ A j. done.exact a A there j) w.if-branch.true (ap (λ (v : Vec _ Global). v.items) w.found-is ∙ w.in_ok-push.ensures.items)
                (before.exact Γ a g q)
            | else-branch w ↦ subst (λ (v : Vec _ Global). AreFound u v.items k a Γ (i + 1)) (sym w.found-is)
                (far-step s t u l Γ i k a x old b at.at g low before.extends first before.found_known done.extends
                (λ A j. done.exact a A there j) w.if-branch.false (before.exact Γ a g q))
          ];
    }

pub returns-clause-exact : goal.returns-clause-exact
returns-clause-exact c = λ Γ a g q.
    let s = c.args.table.now in
    let i = c.loop-i.i in
    let l = c.args.hyps.now in
    let last : length l ≤ i = omega (arith, c.loop-i-test.false) in
    near-end s c.loop-i.table l Γ i (access_at c.args.asked.now.store) a c.loop-i.found.items g last
    (c.loop-i.invariant.exact Γ a g q)
