use Rattle.std.proofs.Common.{Err, sym, ◌∙◌, ap, subst}
use Rattle.pcc_gate.specs.Answers.{IsFrontAnswer}
use Rattle.view_goal_text.specs.Styles.{style_view}
use Rattle.view_goal_text.proofs.Answering.{goals-refused}
use Rattle.view_goal_text.proofs.listing.list_goals.Goals as goal

pub returns-in-Err-Refused : goal.returns-in-Err-Refused
returns-in-Err-Refused c =
    let policy = c.args.policy.now in
    let bytes = c.args.bytes.now in
    let first =
    subst (λ f. IsFrontAnswer policy bytes (Err f)) c.in-Err-Refused.field-0-is
    c.in-Err-Refused.ensures.exact in
    record {
      exact = goals-refused (style_view c.args.style.now) policy bytes c.in-Err-Refused.refusal first
          ∙ ap Err (sym c.in-Err-Refused.refusal-is);
    }
