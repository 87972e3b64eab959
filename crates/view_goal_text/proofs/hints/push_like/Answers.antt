use Rattle.std.proofs.Common.{◌≡◌, [], ◌∷◌, is_some, ◌∙◌, ap, subst}
use Rattle.std.specs.Prelude.{codes}
use Rattle.term_table.specs.Table.{tree_at}
use Rattle.lf_terms.specs.Encoding.{form_encoding}
use Rattle.prover_goals.proofs.Kept.{search-more}
use Rattle.view_lines.specs.Lines.{before}
use Rattle.view_lines.specs.Shown.{AreAdded}
use Rattle.view_lines.proofs.Adding.{lines-known, added-more, added-later}
use Rattle.view_marks.specs.Halves.{half_of}
use Rattle.view_goal_text.specs.Hints.{half_lines}
use Rattle.view_goal_text.proofs.hints.push_like.Goals as goal

pub push_formula-requires-clause-lines : goal.push_formula-requires-clause-lines
push_formula-requires-clause-lines c =
    lines-known c.args.table.now c.half_of.new.table c.in_ok-half.ensures.extends
    c.args.lines.now.items c.requires.lines

pub returns-clause-exact : goal.returns-clause-exact
returns-clause-exact c = λ M F qm qf.
    let t = c.args.table.now in
    let u = c.half_of.new.table in
    let v = c.push_formula.new.table in
    let bound = c.args.missing.now.bound in
    let id = c.args.id in
    let word = codes "  like it: " in
    let old = c.args.lines.now.items in
    let mid = c.push_formula.new.lines.items in
    let new = c.push_half.new.lines.items in
    let grown = c.in_ok-half.ensures.extends in
    let half = c.in_ok-half.ensures.exact M F qm qf ∙ ap (λ b. half_of b M F) c.is_some.ensures in
    let there : tree_at u id ≡ form_encoding F = grown.same id c.requires.id ∙ qf in
    let line = before word (form_encoding F) in
    let first : AreAdded bound t v old (line ∷ []) mid =
    added-later bound t u v grown old c.requires.lines (line ∷ []) mid
    (subst (λ s. AreAdded bound u v old (before word s ∷ []) mid) there
    (subst (λ l. AreAdded bound u v old (before l (tree_at u id) ∷ []) mid) c.in_ok-label.ensures
    c.in_ok-push_formula.ensures.exact)) in
    let second : AreAdded bound v v mid (half_lines (half_of (is_some bound) M F)) new =
    subst (λ h. AreAdded bound v v mid (half_lines h) new) half (c.in_ok-push_half.ensures.exact bound) in
    added-more bound t v v old (line ∷ []) mid (half_lines (half_of (is_some bound) M F)) new first second

pub returns-clause-search : goal.returns-clause-search
returns-clause-search c =
    search-more c.half_of.new.search c.half_of.new.table c.push_formula.new.table
    c.in_ok-half.ensures.search c.in_ok-push_formula.ensures.extends
