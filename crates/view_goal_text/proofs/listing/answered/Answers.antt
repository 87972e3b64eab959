use Rattle.std.proofs.Common.{Ok, sym, ◌∙◌, ap}
use Rattle.proof_container.specs.Views.{contents_of}
use Rattle.view_goal_text.specs.Styles.{style_view}
use Rattle.view_goal_text.proofs.Answering.{goals-listed}
use Rattle.view_goal_text.proofs.listing.answered.Goals as goal

pub returns-in-Ok : goal.returns-in-Ok
returns-in-Ok c =
    let p = c.args.passed in
    goals-listed (style_view c.args.style.now) c.args.policy.now c.args.bytes.now (contents_of p.container) p.cut.code p.cut.marks
    c.requires.passes c.requires.first
    ∙ ap Ok (sym c.in-Ok.ensures)
