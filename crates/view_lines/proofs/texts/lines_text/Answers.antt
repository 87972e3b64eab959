use Rattle.std.proofs.Common.{◌≡◌, ◌++◌, ℕ, List, map, sym, ◌∙◌, ap, subst}
use Rattle.std.specs.List.{AllByRecursion, flat_map}
use Rattle.term_table.specs.Tree.{Tree}
use Rattle.term_table.specs.Table.{IsKnown, id_trees}
use Rattle.proof_container.specs.Inside.Walked.{left_trees}
use Rattle.view_lines.specs.Texts.{entries_text}
use Rattle.view_lines.specs.Shown.{line_view, shown_text, shown_longs}
use Rattle.view_lines.proofs.ShownTexts.{walked}
use Rattle.view_lines.proofs.texts.lines_text.Goals as goal

pub walk_from-requires-clause-known : goal.walk_from-requires-clause-known
walk_from-requires-clause-known c =
    let t = c.args.table.now in (
      subst (λ l. AllByRecursion (λ (p : ℕ × ℕ). IsKnown t p.1) l) (sym c.deref.ensures.value)
          c.in_ok-ids.ensures.known,
      tt,
    )

pub push_lines-requires-clause-left : goal.push_lines-requires-clause-left
push_lines-requires-clause-left c =
    let t = c.args.table.now in
    let trees : List (ℕ × ℕ) → List Tree = λ l. map (λ p. p.1) (id_trees t l) in
    (walked t c.deref.result.now _ c.in_ok-walk.walk
    (ap trees c.deref.ensures.value ∙ c.in_ok-ids.ensures.exact) c.in_ok-walk.ensures).left

pub push_lines-requires-clause-listed : goal.push_lines-requires-clause-listed
push_lines-requires-clause-listed c =
    let t = c.args.table.now in
    let trees : List (ℕ × ℕ) → List Tree = λ l. map (λ p. p.1) (id_trees t l) in
    (walked t c.deref.result.now _ c.in_ok-walk.walk
    (ap trees c.deref.ensures.value ∙ c.in_ok-ids.ensures.exact) c.in_ok-walk.ensures).listed

pub copy_of-requires-clause-left : goal.copy_of-requires-clause-left
copy_of-requires-clause-left c =
    let t = c.args.table.now in
    let trees : List (ℕ × ℕ) → List Tree = λ l. map (λ p. p.1) (id_trees t l) in
    (walked t c.deref.result.now _ c.in_ok-walk.walk
    (ap trees c.deref.ensures.value ∙ c.in_ok-ids.ensures.exact) c.in_ok-walk.ensures).left

pub copy_of-requires-clause-order : goal.copy_of-requires-clause-order
copy_of-requires-clause-order c =
    let t = c.args.table.now in
    let trees : List (ℕ × ℕ) → List Tree = λ l. map (λ p. p.1) (id_trees t l) in
    (walked t c.deref.result.now _ c.in_ok-walk.walk
    (ap trees c.deref.ensures.value ∙ c.in_ok-ids.ensures.exact) c.in_ok-walk.ensures).order

pub returns : goal.returns
returns c =
    let t = c.args.table.now in
    let views = map (line_view t) c.args.lines.now in
    let trees : List (ℕ × ℕ) → List Tree = λ l. map (λ p. p.1) (id_trees t l) in
    let w = walked t c.deref.result.now (shown_longs views) c.in_ok-walk.walk
    (ap trees c.deref.ensures.value ∙ c.in_ok-ids.ensures.exact) c.in_ok-walk.ensures in
    let es = left_trees t c.in_ok-walk.walk in
    let lines : c.push_lines.new.out.items ≡ flat_map (shown_text es) views =
    c.in_ok-push_lines.ensures
    ∙ ap (λ (l : List ℕ). l ++ flat_map (shown_text es) views) c.new-out.ensures.items in
    c.in_ok-push_entries.ensures
    ∙ (λ k. lines k ++ entries_text (c.in_ok-entries.ensures k))
    ∙ (λ k. flat_map (shown_text (w.are k)) views ++ entries_text (w.are k))
