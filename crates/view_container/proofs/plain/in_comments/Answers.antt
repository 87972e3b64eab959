use Rattle.std.proofs.Common.{◌≡◌, ◌++◌, ◌∷◌, [], ℕ, List, map, ap, ◌∙◌}
use Rattle.std.specs.List.{flat_map}
use Rattle.term_table.specs.Table.{id_trees}
use Rattle.proof_container.specs.Views.{contents_of}
use Rattle.view_container.specs.Words.{indices_of}
use Rattle.view_container.specs.Notes.{notes_of}
use Rattle.view_container.specs.Plain.{comment_line, index_lines, inv_entries, entry_lines, no_source_text}
use Rattle.view_container.proofs.Lines.{four_groups}
use Rattle.view_container.proofs.plain.in_comments.Goals as goal

pub returns : goal.returns
returns c =
    let k = c.args.container.now in
    let indices = flat_map (index_lines (contents_of k)) (indices_of k.code.now) in
    let named : List (ℕ × ℕ) → ℕ = λ l. inv_entries k.table.trees (id_trees k.table l) in
    let count = c.inv_entries-count.ensures.exact ∙ ap named c.deref.ensures.value in
    let notes : map (λ v. v.items) c.deref-2.result.now ≡ notes_of (contents_of k) =
    ap (map (λ v. v.items)) c.deref-2.ensures.value ∙ c.in_ok-notes.ensures in
    let why : c.as_bytes.result.now ≡ no_source_text c.args.why = c.as_bytes.ensures.value ∙ c.text.ensures in
    let behind = c.push_comments.new.out.items in
    let text : ℕ → List (List ℕ) → List ℕ =
    λ n others. flat_map comment_line
    (indices ++ (entry_lines k.table.trees n ++ (others ++ no_source_text c.args.why ∷ []))) in
    four_groups indices (entry_lines k.table.trees c.inv_entries-count.result)
    (map (λ v. v.items) c.deref-2.result.now) (no_source_text c.args.why) _ _ _ _
    (c.in_ok-push_indices.ensures
    ∙ ap (λ l. l ++ flat_map comment_line indices) c.new-out.ensures.items)
    c.in_ok-push_entries.ensures c.in_ok-push_comments.ensures
    (c.in_ok-push_comment.ensures ∙ ap (λ t. behind ++ comment_line t) why)
    ∙ (λ j. text (count j) (notes j))
    ∙ (λ j. flat_map comment_line
    (indices ++ (entry_lines (c.requires.canonical.trees j)
    (inv_entries (c.requires.canonical.trees j) (id_trees k.table k.invs.items))
    ++ (notes_of (contents_of k) ++ no_source_text c.args.why ∷ []))))
