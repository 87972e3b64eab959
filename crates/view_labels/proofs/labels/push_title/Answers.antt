use Rattle.view_labels.proofs.LabelTexts.{title-later}
use Rattle.view_labels.proofs.labels.push_title.Goals as goal

pub returns : goal.returns
returns c =
    title-later c.args.lines.now c.args.number c.args.at c.args.out.now.items
    c.push_numbered.new.out.items c.push_indexed.new.out.items c.if-number-eq0.false
    c.in_ok-push_numbered.ensures c.in_ok-push_indexed.ensures
