use Rattle.std.proofs.Common.{ap, arith, ◌-◌, length, take, drop}
use Rattle.view_marks.specs.Inside.Shapes.{Alone, Two, Given, row_kind}
use Rattle.view_marks.proofs.Pushing.{if_ok, starts, easy-none, easy-alone, easy-two, easy-given}
use Rattle.view_marks.proofs.marking.+push_easy.Goals as goal

pub returns-in-empty-clause-exact : goal.returns-in-empty-clause-exact
returns-in-empty-clause-exact t c =
    let rows = c.args.rows.now in
    let old = c.args.marks.now.items in
    easy-none rows rows old old c.in-empty.len_below

pub returns-in_ok-push-in-Goal-clause-exact : goal.returns-in_ok-push-in-Goal-clause-exact
returns-in_ok-push-in-Goal-clause-exact t c =
    let rows = c.args.rows.now in
    let s = starts rows c.first-item.result Alone c.in-len1-up.len_at_least c.first-item.is (ap row_kind c.in-Goal.is) in
    easy-alone rows (take (length rows - 1) (drop 1 rows)) c.args.marks.now.items c.push.new.self.items s c.in_ok-push-in-Goal.ensures.items

pub returns-in_ok-others-in-Both-clause-exact : goal.returns-in_ok-others-in-Both-clause-exact
returns-in_ok-others-in-Both-clause-exact t c =
    let rows = c.args.rows.now in
    let o = c.in_ok-others-in-Both in
    let n = c.push_easy-in-Both in
    let s = starts rows c.first-item.result Two c.in-len1-up.len_at_least c.first-item.is (ap row_kind c.in-Both.is) in
    if_ok n.result
    (λ end second. easy-two rows (take (length rows - 1) (drop 1 rows)) o.others.now end.now c.args.marks.now.items c.push_easy.new.marks.items n.new.marks.items s o.ensures.exact second)
    n.ensures.exact

pub returns-in-Under-clause-exact : goal.returns-in-Under-clause-exact
returns-in-Under-clause-exact t c =
    let rows = c.args.rows.now in
    let n = c.push_easy-in-Under in
    let s = starts rows c.first-item.result Given c.in-len1-up.len_at_least c.first-item.is (ap row_kind c.in-Under.is) in
    if_ok n.result
    (λ end inner. easy-given rows (take (length rows - 1) (drop 1 rows)) end.now c.args.marks.now.items n.new.marks.items s inner)
    n.ensures.exact
