use Rattle.std.proofs.Common.{◌≡◌, [], ◌++◌, map, is_some, sym, ◌∙◌, ap, subst}
use Rattle.term_table.specs.Table.{AllKnown, tree_at}
use Rattle.lf_terms.specs.Encoding.{form_encoding}
use Rattle.lf_encode.specs.Reading.{form_of}
use Rattle.prover_class.specs.Hypotheses.{Hyps}
use Rattle.view_lines.specs.Shown.{shown_line, line_view}
use Rattle.view_lines.proofs.Adding.{lines-known, added-later}
use Rattle.view_marks.specs.Hints.{known_hyps, missing_parts}
use Rattle.view_goal_text.specs.Hints.{part_hints, goal_hint}
use Rattle.view_goal_text.proofs.FormTerms.{forms-back}
use Rattle.view_goal_text.proofs.HintLines.{all-known, all-more}
use Rattle.view_goal_text.proofs.hints.push_hint.Goals as goal

pub push_part_hints-requires-clause-lines : goal.push_part_hints-requires-clause-lines
push_part_hints-requires-clause-lines c =
    lines-known c.args.table.now c.missing_parts.new.table c.in_ok-parts.ensures.extends
    c.args.lines.now.items c.requires.lines

pub push_part_hints-requires-clause-known : goal.push_part_hints-requires-clause-known
push_part_hints-requires-clause-known c =
    all-known c.args.table.now c.missing_parts.new.table c.in_ok-parts.ensures.extends
    c.args.known.now c.requires.known

pub push_part_hints-requires-clause-parts : goal.push_part_hints-requires-clause-parts
push_part_hints-requires-clause-parts c =
    subst (AllKnown c.missing_parts.new.table) (sym c.as_slice.ensures.value) c.in_ok-parts.ensures.known

pub returns-clause-exact : goal.returns-clause-exact
unfolding goal_hint
returns-clause-exact c forms aim =
    let t = c.args.table.now in
    let u = c.missing_parts.new.table in
    let v = c.push_part_hints.new.table in
    let m = c.args.manner.now in
    let bound = m.bound in
    let all = m.style.now.all in
    let grown = c.in_ok-parts.ensures.extends in
    let trees = map (tree_at t) c.args.known.now in
    let Fs = map form_of trees in
    let g = tree_at t c.args.goal in
    let A = form_of g in
    let Γ : Hyps = known_hyps [] 0 Fs in
    let Ms = missing_parts all (is_some bound) Γ A in
    let e = sym (forms-back trees forms) in
    let found : map (tree_at u) c.in_ok-parts.parts.items ≡ map form_encoding Ms =
    c.in_ok-parts.ensures.exact Fs A e (sym aim)
    ∙ ap (λ b. map form_encoding (missing_parts all b Γ A)) c.is_some.ensures in
    let are = ap (map (tree_at u)) c.as_slice.ensures.value ∙ found in
    let known_is = all-more t u grown c.args.known.now c.requires.known ∙ e in
    let goal_is = grown.same c.args.goal c.requires.goal in
    let old = c.args.lines.now.items in
    added-later bound t u v grown old c.requires.lines (part_hints bound Γ Ms g)
    c.push_part_hints.new.lines.items
    (c.in_ok-push_part_hints.ensures.exact Fs Ms known_is are
    ∙ (λ k. map (line_view u) old ++ map (shown_line bound) (part_hints bound Γ Ms (goal_is k))))
