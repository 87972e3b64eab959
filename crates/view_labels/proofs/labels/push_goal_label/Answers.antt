use Rattle.std.proofs.Common.{◌++◌, ◌∙◌, ap}
use Rattle.std.specs.Prelude.{codes}
use Rattle.view_labels.specs.Labels.{numbered, indexed, why_text, mark_text}
use Rattle.view_labels.proofs.LabelTexts.{four}
use Rattle.view_labels.proofs.labels.push_goal_label.Goals as goal

pub returns : goal.returns
returns c =
    let lines = c.args.lines.now in
    four c.args.out.now.items (indexed lines (codes "goal ") c.args.at) (why_text lines c.args.why)
    (numbered (codes ", known 0 to ") c.args.depth) (mark_text c.args.mark)
    c.push_indexed.new.out.items c.push_why.new.out.items c.push_numbered.new.out.items
    c.push_mark.new.out.items c.in_ok-push_indexed.ensures c.in_ok-push_why.ensures
    (c.in_ok-push_numbered.ensures
    ∙ ap (λ n. c.push_why.new.out.items ++ numbered (codes ", known 0 to ") n) c.from.ensures)
    c.in_ok-push_mark.ensures
