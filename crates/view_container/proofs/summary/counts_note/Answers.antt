use Rattle.std.proofs.Common.{◌≡◌, ◌++◌, List, ℕ, length, sym, ap, ◌∙◌, rules}
use Rattle.std.specs.Prelude.{codes, decimal}
use Rattle.std.proofs.lemmas.List.{length-map}
use Rattle.term_table.specs.Table.{tree_at, id_trees}
use Rattle.proof_container.specs.Postorder.{entries}
use Rattle.proof_container.specs.Contents.{roots}
use Rattle.proof_container.specs.Views.{contents_of}
use Rattle.view_container.proofs.Lists.{four_texts}
use Rattle.view_container.proofs.summary.counts_note.Goals as goal

pub returns : goal.returns
returns c =
    let k = c.args.container.now in
    let of_invs : List ℕ = codes " invariants, " in
    let of_entries : List ℕ = codes " entries" in
    let len : c.len.result ≡ length k.invs.items = search rules in
    let invs : c.len.result ≡ length (id_trees k.table k.invs.items) =
    len ∙ sym (length-map k.invs.items (λ p. (p.0, tree_at k.table p.1))) in
    let count : c.count.result ≡ length (entries (roots (contents_of k))) =
    c.count.ensures ∙ ap length c.requires.canonical.trees in
    c.in_ok-extend_from_slice-2.ensures.items
    ∙ ap (λ l. l ++ of_entries)
    (c.in_ok-push_number-2.ensures
    ∙ ap (λ l. l ++ decimal c.count.result)
    (c.in_ok-extend_from_slice.ensures.items
    ∙ ap (λ l. l ++ of_invs)
    (c.in_ok-push_number.ensures ∙ ap (λ l. l ++ decimal c.len.result) c.new-out.ensures.items)))
    ∙ four_texts (decimal c.len.result) of_invs (decimal c.count.result) of_entries
    ∙ (λ i. decimal (invs i) ++ (of_invs ++ (decimal (count i) ++ of_entries)))
