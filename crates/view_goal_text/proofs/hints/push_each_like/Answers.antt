use Rattle.std.proofs.Common.{rules, ◌≡◌, ◌<◌, ◌≤◌, List, [], ◌++◌, map, drop, length, is_some, refl, sym, ◌∙◌, ap, subst, arith}
use Rattle.std.specs.List.{flat_map}
use Rattle.std.proofs.lemmas.List.{append-nil, drop_all, length-map}
use Rattle.term_table.specs.Table.{IsKnown, tree_at}
use Rattle.formula_tree.specs.Formulas.{Form}
use Rattle.lf_terms.specs.Encoding.{form_encoding}
use Rattle.proof_container.proofs.Ordering.{known-get}
use Rattle.view_lines.specs.Shown.{shown_line, line_view}
use Rattle.view_lines.proofs.Adding.{grown-not, grown-twice, id-known}
use Rattle.view_marks.proofs.Gathering.{form_at}
use Rattle.view_goal_text.specs.Hints.{like_line}
use Rattle.view_goal_text.proofs.HintLines.{all-known, one-step}
use Rattle.view_goal_text.proofs.hints.push_each_like.Goals as goal

pub loop-index-init : goal.loop-index-init
loop-index-init c = record {
  extends = grown-not c.args.table.now;
  lines = c.requires.lines;
  part = c.requires.missing;
  ids = c.requires.ids;
  search = c.requires.search;
  exact = λ M Fs q e. refl;
}

pub loop-index-preserved : goal.loop-index-preserved
loop-index-preserved c =
    let t = c.args.table.now in
    let u = c.loop-index.table in
    let v = c.push_like.new.table in
    let bound = c.args.missing.now.bound in
    let part = c.args.missing.now.part in
    let ids = c.args.ids.now in
    let i = c.loop-index.index in
    let x = c.id_at-id.result in
    let lt : i < length ids = search rules in
    let inv = c.loop-index.invariant in
    let done = c.in_ok-push_like.ensures in
    let here : IsKnown t x = subst (IsKnown t) (sym c.id_at-id.ensures.at) (known-get t ids i x c.requires.ids lt) in
    record {
      extends = grown-twice t u v inv.extends done.extends;
      lines = done.known;
      part = id-known u v done.extends part inv.part;
      ids = all-known u v done.extends ids inv.ids;
      search = done.search;
      exact = λ M Fs q e.
          let it = form_at t ids Fs i x e lt in
          let id_is = inv.extends.same x here ∙ ap (tree_at t) c.id_at-id.ensures.at ∙ it.is in
          let part_is = inv.extends.same part c.requires.missing ∙ q in
          one-step bound u v (like_line (is_some bound) M) (flat_map (like_line (is_some bound) M))
          (λ F Gs. refl) Fs i it.now c.loop-index.lines.items c.push_like.new.lines.items _ it.rest
          (done.exact M it.now part_is id_is) (inv.exact M Fs q e);
    }

pub returns-clause-exact : goal.returns-clause-exact
returns-clause-exact c = λ M Fs q e.
    let t = c.args.table.now in
    let u = c.loop-index.table in
    let bound = c.args.missing.now.bound in
    let ids = c.args.ids.now in
    let i = c.loop-index.index in
    let long : length Fs ≡ length ids = sym (length-map Fs form_encoding) ∙ sym (ap length e) ∙ length-map ids (tree_at t) in
    let end : length ids ≤ i = search rules in
    let past : drop i Fs ≡ [] = drop_all i Fs (omega (arith, long, end)) in
    let new = map (line_view u) c.loop-index.lines.items in
    sym (append-nil new)
    ∙ ap (λ (l : List Form). new ++ map (shown_line bound) (flat_map (like_line (is_some bound) M) l)) (sym past)
    ∙ c.loop-index.invariant.exact M Fs q e
