use Rattle.std.proofs.Common.{[], ◌++◌, map, is_some, ◌∙◌, subst, arith}
use Rattle.term_table.specs.Table.{tree_at}
use Rattle.lf_terms.specs.Encoding.{form_encoding}
use Rattle.prover_class.specs.Hypotheses.{Hyps}
use Rattle.prover_goals.proofs.Kept.{search-more}
use Rattle.view_lines.specs.Shown.{shown_line, line_view, AreAdded}
use Rattle.view_lines.proofs.Adding.{lines-known, id-known, added-more, added-later}
use Rattle.view_marks.specs.Hints.{known_hyps, hint_of}
use Rattle.view_marks.specs.Answers.{IsHint}
use Rattle.view_goal_text.specs.Hints.{missing_lines, said_lines}
use Rattle.view_goal_text.proofs.HintLines.{hint-known, hint-more}
use Rattle.view_goal_text.proofs.hints.push_part_hint.Goals as goal

pub push_missing-requires-clause-lines : goal.push_missing-requires-clause-lines
push_missing-requires-clause-lines c =
    lines-known c.args.table.now c.hint_about.new.table c.in_ok-hint.ensures.extends
    c.args.lines.now.items c.requires.lines

pub push_said-requires-clause-hint : goal.push_said-requires-clause-hint
push_said-requires-clause-hint c =
    hint-known c.hint_about.new.table c.push_missing.new.table c.in_ok-push_missing.ensures.extends
    c.in_ok-hint.hint c.in_ok-hint.ensures.known

pub push_said-requires-clause-missing : goal.push_said-requires-clause-missing
push_said-requires-clause-missing c =
    omega (arith, c.requires.part, c.in_ok-hint.ensures.extends.longer, c.in_ok-push_missing.ensures.extends.longer)

pub push_said-requires-clause-search : goal.push_said-requires-clause-search
push_said-requires-clause-search c =
    search-more c.hint_about.new.search c.hint_about.new.table c.push_missing.new.table
    c.in_ok-hint.ensures.search c.in_ok-push_missing.ensures.extends

pub returns-clause-exact : goal.returns-clause-exact
returns-clause-exact c = λ Fs M e q.
    let t = c.args.table.now in
    let u = c.hint_about.new.table in
    let v = c.push_missing.new.table in
    let w = c.push_said.new.table in
    let bound = c.args.bound in
    let counted = is_some bound in
    let Γ : Hyps = known_hyps [] 0 Fs in
    let aim = tree_at t c.args.goal in
    let hint = c.in_ok-hint.hint in
    let grown = c.in_ok-hint.ensures.extends in
    let later = c.in_ok-push_missing.ensures.extends in
    let found : IsHint u (hint_of counted Γ M) hint =
    subst (λ b. IsHint u (hint_of b Γ M) hint) c.is_some.ensures (c.in_ok-hint.ensures.exact Fs M e q) in
    let old = c.args.lines.now.items in
    let mid = c.push_missing.new.lines.items in
    let new = c.push_said.new.lines.items in
    let part_is = grown.same c.args.part c.requires.part ∙ q in
    let goal_is = grown.same c.args.goal c.requires.goal in
    let first : AreAdded bound t v old (missing_lines bound (form_encoding M) aim) mid =
    added-later bound t u v grown old c.requires.lines (missing_lines bound (form_encoding M) aim) mid
    (c.in_ok-push_missing.ensures.exact
    ∙ (λ k. map (line_view u) old ++ map (shown_line bound) (missing_lines bound (part_is k) (goal_is k)))) in
    let second : AreAdded bound v w mid (said_lines counted M (hint_of counted Γ M)) new =
    c.in_ok-push_said.ensures.exact M (hint_of counted Γ M)
    (later.same c.args.part (id-known t u grown c.args.part c.requires.part) ∙ part_is)
    (hint-more u v later (hint_of counted Γ M) hint
    c.in_ok-hint.ensures.known found) in
    added-more bound t v w old (missing_lines bound (form_encoding M) aim) mid
    (said_lines counted M (hint_of counted Γ M)) new first second

pub returns-clause-search : goal.returns-clause-search
returns-clause-search c = c.in_ok-push_said.ensures.search
