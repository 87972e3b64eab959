use Rattle.std.proofs.Common.{rules, ◌≡◌, ◌<◌, ◌≤◌, List, [], ◌++◌, map, drop, length, refl, sym, ◌∙◌, ap, subst, arith}
use Rattle.std.proofs.lemmas.List.{append-nil, drop_all, length-map}
use Rattle.term_table.specs.Table.{IsKnown, tree_at}
use Rattle.formula_tree.specs.Formulas.{Form}
use Rattle.lf_terms.specs.Encoding.{form_encoding}
use Rattle.proof_container.proofs.Ordering.{known-get}
use Rattle.prover_class.specs.Hypotheses.{Hyps}
use Rattle.view_lines.specs.Shown.{shown_line, line_view, AreAdded}
use Rattle.view_lines.proofs.Adding.{grown-not, grown-twice, id-known}
use Rattle.view_marks.specs.Hints.{known_hyps}
use Rattle.view_marks.proofs.Gathering.{form_at}
use Rattle.view_goal_text.specs.Hints.{part_hint, part_hints}
use Rattle.view_goal_text.proofs.HintLines.{all-known, all-more, one-step}
use Rattle.view_goal_text.proofs.hints.push_part_hints.Goals as goal

pub loop-index-init : goal.loop-index-init
loop-index-init c = record {
  extends = grown-not c.args.table.now;
  lines = c.requires.lines;
  known = c.requires.known;
  ids = c.requires.parts;
  aim = c.requires.goal;
  search = c.requires.search;
  exact = λ Fs Ms e f. refl;
}

pub loop-index-preserved : goal.loop-index-preserved
loop-index-preserved c =
    let t = c.args.table.now in
    let u = c.loop-index.table in
    let v = c.push_part_hint.new.table in
    let bound = c.args.bound in
    let known = c.args.known.now in
    let parts = c.args.parts.now in
    let i = c.loop-index.index in
    let x = c.id_at-part.result in
    let lt : i < length parts = search rules in
    let inv = c.loop-index.invariant in
    let grown = c.in_ok-push_part_hint.ensures.extends in
    let mid = c.loop-index.lines.items in
    let new = c.push_part_hint.new.lines.items in
    let here : IsKnown t x = subst (IsKnown t) (sym c.id_at-part.ensures.at) (known-get t parts i x c.requires.parts lt) in
    record {
      extends = grown-twice t u v inv.extends grown;
      lines = c.in_ok-push_part_hint.ensures.known;
      known = all-known u v grown known inv.known;
      ids = all-known u v grown parts inv.ids;
      aim = id-known u v grown c.args.goal inv.aim;
      search = c.in_ok-push_part_hint.ensures.search;
      exact = λ Fs Ms e f.
          let Γ : Hyps = known_hyps [] 0 Fs in
          let g = tree_at t c.args.goal in
          let it = form_at t parts Ms i x f lt in
          let known_is = all-more t u inv.extends known c.requires.known ∙ e in
          let part_is = inv.extends.same x here ∙ ap (tree_at t) c.id_at-part.ensures.at ∙ it.is in
          let goal_is = inv.extends.same c.args.goal c.requires.goal in
          let added : AreAdded bound u v mid (part_hint bound Γ it.now g) new =
          c.in_ok-push_part_hint.ensures.exact Fs it.now known_is part_is
          ∙ (λ k. map (line_view u) mid ++ map (shown_line bound) (part_hint bound Γ it.now (goal_is k))) in
          one-step bound u v (λ M. part_hint bound Γ M g) (λ Ns. part_hints bound Γ Ns g) (λ M Ns. refl)
          Ms i it.now mid new _ it.rest added (inv.exact Fs Ms e f);
    }

pub returns-clause-exact : goal.returns-clause-exact
returns-clause-exact c = λ Fs Ms e f.
    let t = c.args.table.now in
    let u = c.loop-index.table in
    let bound = c.args.bound in
    let parts = c.args.parts.now in
    let i = c.loop-index.index in
    let Γ : Hyps = known_hyps [] 0 Fs in
    let g = tree_at t c.args.goal in
    let long : length Ms ≡ length parts = sym (length-map Ms form_encoding) ∙ sym (ap length f) ∙ length-map parts (tree_at t) in
    let end : length parts ≤ i = search rules in
    let past : drop i Ms ≡ [] = drop_all i Ms (omega (arith, long, end)) in
    let new = map (line_view u) c.loop-index.lines.items in
    sym (append-nil new)
    ∙ ap (λ (l : List Form). new ++ map (shown_line bound) (part_hints bound Γ l g)) (sym past)
    ∙ c.loop-index.invariant.exact Fs Ms e f
