use Rattle.std.proofs.Common.{sym, ◌∙◌}
use Rattle.prover_goals.proofs.Kept.{search-more}
use Rattle.view_marks.proofs.Descending.{part-easy, part-parts}
use Rattle.view_marks.proofs.marking.push_part.Goals as goal

pub proof_by_all_means-requires-clause-search : goal.proof_by_all_means-requires-clause-search
proof_by_all_means-requires-clause-search c =
    search-more c.args.search.now c.args.table.now c.new.new.table c.requires.search c.in_ok-context.ensures.extends

pub returns-then-is_some-clause-exact : goal.returns-then-is_some-clause-exact
returns-then-is_some-clause-exact c =
    let a = c.args in
    let k = c.in_ok-context in
    let o = c.in_ok-proof in
    let e = c.in_ok-push_easy in
    part-easy a.counted a.table.now c.new.new.table c.proof_by_all_means.new.table k.context a.inner o.proof a.rows.now e.field-0.now a.marks.now.items c.push_easy.new.marks.items
    (k.ensures.hyps ∙ c.new-none.ensures) k.ensures.outside c.requires.inner k.ensures.extends (sym c.is_some.ensures ∙ c.if-is_some.true) o.ensures.exact e.ensures.exact

pub returns-clause-exact : goal.returns-clause-exact
returns-clause-exact c =
    let a = c.args in
    let k = c.in_ok-context in
    let o = c.in_ok-proof in
    let u = c.in_ok-push_under in
    let n = c.proof_by_all_means.new in
    part-parts a.counted a.table.now c.new.new.table n.table n.search k.context n.context a.inner o.proof a.rows.now u.field-0.now a.marks.now.items c.push_under.new.marks.items
    (k.ensures.hyps ∙ c.new-none.ensures) k.ensures.outside c.requires.inner k.ensures.extends o.ensures.extends o.ensures.after
    (sym c.is_some.ensures ∙ c.if-is_some.false) o.ensures.exact u.ensures.exact
