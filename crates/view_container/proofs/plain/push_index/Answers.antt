use Rattle.std.proofs.Common.{◌++◌, ◌∷◌, [], ℕ, List, ◌∙◌}
use Rattle.std.specs.List.{flat_map}
use Rattle.term_table.specs.Tree.{Tree}
use Rattle.term_table.specs.Table.{id_trees}
use Rattle.view_container.specs.Plain.{comment_line, index_inv, inv_lines, word_line}
use Rattle.view_container.proofs.Lines.{pushed-more}
use Rattle.view_container.proofs.plain.push_index.Goals as goal

pub returns : goal.returns
returns c =
    let k = c.args.container.now in
    let old = c.args.out.now.items in
    let lines : List Tree → List (ℕ × ℕ) → List (List ℕ) =
    λ ts l. inv_lines ts (index_inv c.args.i (id_trees k.table l)) in
    pushed-more comment_line (lines k.table.trees c.deref.result.now)
    (word_line c.profile_of-profile.result k.code.now c.args.i) old _ _
    c.in_ok-push_word_line.ensures c.in_ok-push_inv_of.ensures
    ∙ (λ j. old ++ flat_map comment_line
    (lines (c.requires.canonical.trees j) (c.deref.ensures.value j)
    ++ word_line (c.profile_of-profile.ensures.exact j) k.code.now c.args.i ∷ []))
