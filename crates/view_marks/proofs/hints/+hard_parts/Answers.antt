use Rattle.std.proofs.Common.{sym, ◌∙◌, ap, subst, ◌++◌, arith}
use Rattle.term_table.specs.Table.{IsKnown, AllKnown}
use Rattle.prover_goals.proofs.WordRows.{after_twice}
use Rattle.view_marks.proofs.Gathering.{all_known-more}
use Rattle.view_marks.proofs.Conjuncts.{known-both, parts-none, parts-alone, parts-both}
use Rattle.view_marks.proofs.hints.+hard_parts.Goals as goal

pub proof_by_all_means-requires-clause-search : goal.proof_by_all_means-requires-clause-search
proof_by_all_means-requires-clause-search t c =
    c.in_ok-spend_steps.ensures.search c.args.table.now c.requires.search

pub returns-then-is_some-clause-known : goal.returns-then-is_some-clause-known
returns-then-is_some-clause-known t c =
    subst (AllKnown c.proof_by_all_means.new.table) (sym c.new.ensures.items) tt

pub returns-then-is_some-clause-exact : goal.returns-then-is_some-clause-exact
returns-then-is_some-clause-exact t c =
    let a = c.args in
    let o = c.in_ok-proof in
    parts-none a.counted a.table.now c.proof_by_all_means.new.table a.context.now a.goal o.proof
    c.requires.outside o.ensures.exact (sym c.is_some.ensures ∙ c.if-is_some.true)
    c.new.result.items c.new.ensures.items

pub returns-in_ok-whole-in-None-clause-known : goal.returns-in_ok-whole-in-None-clause-known
returns-in_ok-whole-in-None-clause-known t c =
    let u = c.proof_by_all_means.new.table in
    let here : IsKnown u c.args.goal = omega (arith, c.requires.goal, c.in_ok-proof.ensures.extends.longer) in
    subst (AllKnown u) (sym c.in_ok-whole-in-None.ensures) (here, tt)

pub returns-in_ok-whole-in-None-clause-exact : goal.returns-in_ok-whole-in-None-clause-exact
returns-in_ok-whole-in-None-clause-exact t c =
    let a = c.args in
    let o = c.in_ok-proof in
    let w = c.in_ok-whole-in-None in
    parts-alone a.counted a.table.now c.proof_by_all_means.new.table a.context.now a.goal o.proof
    c.requires.outside o.ensures.exact (sym c.is_some.ensures ∙ c.if-is_some.false)
    o.ensures.extends c.requires.goal c.in-None.ensures.is w.whole.items w.ensures

pub returns-in_ok-extend_from_slice-in-Some-clause-known :
    goal.returns-in_ok-extend_from_slice-in-Some-clause-known
returns-in_ok-extend_from_slice-in-Some-clause-known t c =
    let v = c.hard_parts.new.table in
    let w = c.hard_parts-in-Some.new.table in
    let p = c.in_ok-parts-in-Some in
    let q = c.in_ok-others-in-Some in
    let all = c.in_ok-extend_from_slice-in-Some.ensures.items
    ∙ ap (λ l. p.parts.items ++ l) c.as_slice.ensures.value in
    subst (AllKnown w) (sym all)
    (known-both w p.parts.items q.others.items
    (all_known-more v w p.parts.items p.ensures.known q.ensures.extends) q.ensures.known)

pub returns-in_ok-extend_from_slice-in-Some-clause-exact :
    goal.returns-in_ok-extend_from_slice-in-Some-clause-exact
returns-in_ok-extend_from_slice-in-Some-clause-exact t c =
    let a = c.args in
    let n = c.proof_by_all_means.new in
    let m = c.hard_parts.new in
    let k = c.hard_parts-in-Some.new in
    let o = c.in_ok-proof in
    let s = c.in-Some in
    let p = c.in_ok-parts-in-Some in
    let q = c.in_ok-others-in-Some in
    let kb : IsKnown n.table s.sides.right =
    omega (arith, s.ensures.below.1, c.requires.goal, o.ensures.extends.longer) in
    let all = c.in_ok-extend_from_slice-in-Some.ensures.items
    ∙ ap (λ l. p.parts.items ++ l) c.as_slice.ensures.value in
    parts-both a.counted a.table.now n.table a.context.now a.goal o.proof c.requires.outside o.ensures.exact
    m.table k.table n.search m.search n.context m.context s.sides.left s.sides.right
    p.parts.items q.others.items c.extend_from_slice.new.self.items
    (sym c.is_some.ensures ∙ c.if-is_some.false) c.requires.context.hyps c.requires.goal
    o.ensures.extends o.ensures.after s.ensures.is kb p.ensures.extends q.ensures.extends
    p.ensures.after p.ensures.exact q.ensures.exact p.ensures.known all

pub returns-in_ok-extend_from_slice-in-Some-clause-after :
    goal.returns-in_ok-extend_from_slice-in-Some-clause-after
returns-in_ok-extend_from_slice-in-Some-clause-after t c =
    let a = c.args.context.now in
    let n = c.proof_by_all_means.new in
    let m = c.hard_parts.new in
    let k = c.hard_parts-in-Some.new in
    after_twice m.table k.table m.search k.search a m.context k.context
    (after_twice n.table m.table n.search m.search a n.context m.context
    c.in_ok-proof.ensures.after c.in_ok-parts-in-Some.ensures.after)
    c.in_ok-others-in-Some.ensures.after
