use Rattle.std.proofs.Common.{◌≡◌, ◌<◌, ◌-◌, length, take, drop, sym, ◌∙◌, ap, arith}
use Rattle.term_table.specs.Tree.{shift}
use Rattle.term_table.specs.Table.{IsKnown, tree_at}
use Rattle.term_table.specs.Measures.{height_of}
use Rattle.prover_goals.proofs.Kept.{context-more}
use Rattle.prover_goals.proofs.WordRows.{with_memo}
use Rattle.prover_goals.proofs.Connecting.{height-shift}
use Rattle.view_marks.specs.Inside.Shapes.{Alone, Two, Given, row_kind}
use Rattle.view_marks.proofs.Pushing.{if_ok, starts, parts-none, parts-alone, parts-two, parts-given}
use Rattle.view_marks.proofs.Descending.{marked-easy, marked-parts, marked-both, marked-under}
use Rattle.view_marks.proofs.marking.+marking.Goals as goal

pub push_both-returns-in_ok-rest-in-And-clause-exact :
    goal.push_both-returns-in_ok-rest-in-And-clause-exact
push_both-returns-in_ok-rest-in-And-clause-exact t c =
    let a = c.args in
    let i = c.in-And in
    let o = c.in_ok-rest-in-And in
    let n = c.push_marks.new in
    let m = c.push_marks-in-And in
    let known : IsKnown a.table.now i.b = omega (arith, i.ensures.below.1, c.requires.goal) in
    if_ok m.result
    (λ end second. marked-both a.counted a.table.now n.table n.search a.context.now n.context a.goal i.a i.b a.rows.now o.rest.now end.now
    a.marks.now.items n.marks.items m.new.marks.items c.requires.context.hyps known o.ensures.extends o.ensures.after i.ensures.is o.ensures.exact second)
    m.ensures.exact

pub push_marks-returns-then-is_some-clause-exact :
    goal.push_marks-returns-then-is_some-clause-exact
push_marks-returns-then-is_some-clause-exact t c =
    let a = c.args in
    let o = c.in_ok-proof in
    let r = c.in_ok-rest in
    marked-easy a.counted a.table.now c.proof_by_all_means.new.table a.context.now.hyps a.context.now.outside a.goal o.proof a.rows.now r.rest.now
    a.marks.now.items c.push_easy.new.marks.items (sym c.is_some.ensures ∙ c.if-is_some.true) o.ensures.exact r.ensures.exact

pub push_marks-returns-clause-exact : goal.push_marks-returns-clause-exact
push_marks-returns-clause-exact t c =
    let a = c.args in
    let o = c.in_ok-proof in
    let n = c.proof_by_all_means.new in
    let m = c.push_parts in
    if_ok m.result
    (λ rest parts. marked-parts a.counted a.table.now n.table n.search a.context.now n.context a.goal o.proof a.rows.now rest.now a.marks.now.items m.new.marks.items
    c.requires.context.hyps c.requires.goal o.ensures.extends o.ensures.after (sym c.is_some.ensures ∙ c.if-is_some.false) o.ensures.exact parts)
    m.ensures.exact

pub push_parts-returns-in-empty-clause-exact : goal.push_parts-returns-in-empty-clause-exact
push_parts-returns-in-empty-clause-exact t c =
    let a = c.args in
    let old = a.marks.now.items in
    parts-none a.counted a.table.now a.context.now.hyps a.context.now.outside a.goal a.rows.now a.rows.now old old c.in-empty.len_below

pub push_parts-returns-in_ok-push-in-Goal-clause-exact :
    goal.push_parts-returns-in_ok-push-in-Goal-clause-exact
push_parts-returns-in_ok-push-in-Goal-clause-exact t c =
    let a = c.args in
    let rows = a.rows.now in
    let s = starts rows c.first-item.result Alone c.in-len1-up.len_at_least c.first-item.is (ap row_kind c.in-Goal.is) in
    parts-alone a.counted a.table.now a.context.now.hyps a.context.now.outside a.goal rows (take (length rows - 1) (drop 1 rows)) a.marks.now.items
    c.push.new.self.items s c.in_ok-push-in-Goal.ensures.items

pub push_parts-returns-in-Both-clause-exact : goal.push_parts-returns-in-Both-clause-exact
push_parts-returns-in-Both-clause-exact t c =
    let a = c.args in
    let rows = a.rows.now in
    let n = c.push_both in
    let s = starts rows c.first-item.result Two c.in-len1-up.len_at_least c.first-item.is (ap row_kind c.in-Both.is) in
    if_ok n.result
    (λ end both. parts-two a.counted a.table.now a.context.now.hyps a.context.now.outside a.goal rows (take (length rows - 1) (drop 1 rows)) a.marks.now.items
    n.new.marks.items end.now s both)
    n.ensures.exact

pub push_parts-returns-in-Under-clause-exact : goal.push_parts-returns-in-Under-clause-exact
push_parts-returns-in-Under-clause-exact t c =
    let a = c.args in
    let rows = a.rows.now in
    let n = c.push_under in
    let s = starts rows c.first-item.result Given c.in-len1-up.len_at_least c.first-item.is (ap row_kind c.in-Under.is) in
    if_ok n.result
    (λ end under. parts-given a.counted a.table.now a.context.now.hyps a.context.now.outside a.goal rows (take (length rows - 1) (drop 1 rows)) a.marks.now.items
    n.new.marks.items end.now s under)
    n.ensures.exact

pub push_under-push_marks-requires : goal.push_under-push_marks-requires
push_under-push_marks-requires t c =
    let a = c.args in
    let i = c.in-Imp in
    let u = c.under_hypothesis.new in
    let v = c.raised.new in
    let h = c.in_ok-under-in-Imp in
    let r = c.in_ok-inner-in-Imp in
    let known : IsKnown a.table.now i.b = omega (arith, i.ensures.below.1, c.requires.goal) in
    let lower : height_of (tree_at a.table.now i.b) < height_of (tree_at a.table.now a.goal) = i.ensures.lower.1 in
    let same : height_of (tree_at v.table r.inner) ≡ height_of (tree_at a.table.now i.b) =
    ap height_of (r.ensures.id.is ∙ ap (shift 1 0) (h.ensures.extends.same i.b known)) ∙ height-shift (tree_at a.table.now i.b) 1 0 in (
      omega (arith, same, lower, c.decreases),
      (
        r.ensures.id.known,
        (
          with_memo u.table v.table u.search v.memo h.ensures.search r.ensures.extends r.ensures.memo,
          context-more h.under u.table v.table h.ensures.under.context r.ensures.extends,
        ),
      ),
    )

pub push_under-returns-in_ok-inner-in-Imp-clause-exact :
    goal.push_under-returns-in_ok-inner-in-Imp-clause-exact
push_under-returns-in_ok-inner-in-Imp-clause-exact t c =
    let a = c.args in
    let i = c.in-Imp in
    let h = c.in_ok-under-in-Imp in
    let r = c.in_ok-inner-in-Imp in
    let n = c.push_marks in
    let ka : IsKnown a.table.now i.a = omega (arith, i.ensures.below.0, c.requires.goal) in
    let kb : IsKnown a.table.now i.b = omega (arith, i.ensures.below.1, c.requires.goal) in
    if_ok n.result
    (λ end marked. marked-under a.counted a.table.now c.under_hypothesis.new.table c.raised.new.table a.context.now h.under a.goal i.a i.b r.inner a.rows.now end.now
    a.marks.now.items n.new.marks.items ka kb h.ensures.extends r.ensures.extends h.ensures.under h.ensures.under.context.hyps r.ensures.id i.ensures.is marked)
    n.ensures.exact
