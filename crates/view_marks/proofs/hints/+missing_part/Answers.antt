use Rattle.std.proofs.Common.{sym, ◌∙◌, arith}
use Rattle.term_table.specs.Table.{IsKnown}
use Rattle.view_marks.proofs.Leading.{first-part, second-part}
use Rattle.view_marks.proofs.hints.+missing_part.Goals as goal

pub returns-in_ok-part-in-And-clause-exact : goal.returns-in_ok-part-in-And-clause-exact
returns-in_ok-part-in-And-clause-exact t c =
    let a = c.args in
    let i = c.in-And in
    let n = c.proof_by_all_means.new in
    let o = c.in_ok-proof-in-And in
    let p = c.in_ok-part-in-And in
    let kb : IsKnown a.table.now i.b = omega (arith, i.ensures.below.1, c.requires.goal) in
    second-part a.counted a.table.now n.table c.missing_part.new.table n.search a.context.now n.context a.goal i.a i.b o.proof p.part
    c.requires.context.hyps o.ensures.extends o.ensures.after c.requires.outside o.ensures.exact i.ensures.is
    (sym c.is_some.ensures ∙ c.if-is_some.true) kb p.ensures.exact

pub returns-in_ok-part-in-And-2-clause-exact : goal.returns-in_ok-part-in-And-2-clause-exact
returns-in_ok-part-in-And-2-clause-exact t c =
    let a = c.args in
    let i = c.in-And in
    let n = c.proof_by_all_means.new in
    let o = c.in_ok-proof-in-And in
    let p = c.in_ok-part-in-And-2 in
    let ka : IsKnown a.table.now i.a = omega (arith, i.ensures.below.0, c.requires.goal) in
    first-part a.counted a.table.now n.table c.missing_part-else-is_some.new.table n.search a.context.now n.context a.goal i.a i.b o.proof p.part
    c.requires.context.hyps o.ensures.extends o.ensures.after c.requires.outside o.ensures.exact i.ensures.is
    (sym c.is_some.ensures ∙ c.if-is_some.false) ka p.ensures.exact
