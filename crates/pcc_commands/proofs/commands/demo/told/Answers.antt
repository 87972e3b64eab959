use Rattle.std.proofs.Common.{◌≡◌, ℕ, List, Err, ◌∙◌, ap, sym, subst}
use Rattle.policy_set.specs.Views.{PolicyView}
use Rattle.pcc_lines.specs.declared.demo.DemoSummary.{DemoSummary}
use Rattle.pcc_stages.specs.Stage.{gives, ◌>>=◌}
use Rattle.pcc_stages.specs.Stops.{end_of}
use Rattle.pcc_stages.specs.Answers.{StopsAs}
use Rattle.pcc_stages.proofs.StageLemmas.{pure_stops, pure_gives}
use Rattle.pcc_commands.specs.Stages.Judging.{shown_in}
use Rattle.pcc_commands.specs.Commands.Demo.{demo_container, demo_told, summary_of}
use Rattle.pcc_commands.specs.Inside.Shows.{shown_by}
use Rattle.pcc_commands.proofs.commands.demo.told.Goals as goal

pub returns-in-Err : goal.returns-in-Err
unfolding demo_told
returns-in-Err c =
    let policy = c.args.policy.now in
    pure_stops (λ container. shown_in policy container >>= λ shown. gives (summary_of policy c.args.n shown)) (demo_container policy c.args.n) c.in-Err.stop c.in-Err.ensures

pub returns-in-Err-accepted_in : goal.returns-in-Err-accepted_in
unfolding demo_told
returns-in-Err-accepted_in c =
    let policy = c.args.policy.now in
    let items : List ℕ = c.in-Ok.container.items in
    let why = c.in-Err-accepted_in.stop in
    pure_gives (λ container. shown_in policy container >>= λ shown. gives (summary_of policy c.args.n shown)) (λ (t : DemoSummary). t) (demo_container policy c.args.n) items c.in-Ok.ensures (Err why)
    (pure_stops (λ shown. gives (summary_of policy c.args.n shown)) (shown_in policy items) why
    (subst (λ (b : List ℕ). StopsAs (shown_in policy b) (end_of why)) c.deref.ensures.value c.in-Err-accepted_in.ensures.shown))

pub returns-in-Ok-summary : goal.returns-in-Ok-summary
unfolding demo_told
returns-in-Ok-summary c =
    let policy = c.args.policy.now in
    let items : List ℕ = c.in-Ok.container.items in
    let a = c.in-Ok-accepted_in in
    let shows : shown_in policy items ≡ gives (shown_by a.accepted) = subst (λ (b : List ℕ). shown_in policy b ≡ gives (shown_by a.accepted)) c.deref.ensures.value a.ensures.shown in
    let same : c.in-Ok-summary.told ≡ summary_of policy c.args.n (shown_by a.accepted) =
    c.in-Ok-summary.ensures ∙ ap (λ (p : PolicyView). summary_of p c.args.n (shown_by a.accepted))
    a.ensures.policy in
    ap (λ s. s >>= λ container. shown_in policy container >>= λ shown. gives (summary_of policy c.args.n shown)) c.in-Ok.ensures
    ∙ ap (λ s. s >>= λ shown. gives (summary_of policy c.args.n shown)) shows ∙ ap gives (sym same)
