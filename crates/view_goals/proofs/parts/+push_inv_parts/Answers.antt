use Rattle.std.proofs.Common.{rules, ◌≡◌, ℕ, ◌+◌, [], ◌∷◌, ◌++◌, List, map, drop, sym, ◌∙◌, ap, arith}
use Rattle.std.specs.Prelude.{slice_index_or}
use Rattle.std.proofs.lemmas.List.{drop_more}
use Rattle.term_table.specs.Table.{tree_at}
use Rattle.view_goals.specs.Rows.{part_view}
use Rattle.view_goals.specs.Inside.Reading.{first_argument}
use Rattle.view_goals.specs.Inside.Parts.{part_by, inv_outline, inv_parts_by}
use Rattle.view_goals.proofs.Appending.{parts-behind}
use Rattle.view_goals.proofs.parts.+push_inv_parts.Goals as goal

pub returns : goal.returns
returns t c =
    let u = c.args.program.now.table.now in
    let cut = c.args.program.now.cut.now in
    let counted = c.args.program.now.counted in
    let invs : List (ℕ × ℕ) = c.args.invs.now in
    let pair : ℕ × ℕ = c.index-invs-from.result in
    let at_from : c.index-invs-from.result ≡ slice_index_or c.args.invs.now c.args.from c.index-invs-from.result = search rules in
    let later = map (λ (p : ℕ × ℕ). p.0) (drop (c.args.from + 1) invs) in
    let others = inv_parts_by cut.code cut.marks counted later (tree_at u c.right-others.result) in
    let whole = tree_at u c.args.rest in
    let outline = inv_outline cut.code cut.marks counted pair.0 in
    let here : part_view u c.in_ok-part.part ≡ part_by counted pair.0 outline (first_argument whole) =
    c.in_ok-part.ensures.exact ∙ ap (part_by counted pair.0 outline) c.left-here.ensures.is in
    let rest = ap (inv_parts_by cut.code cut.marks counted later) c.right-others.ensures.is in
    let split = drop_more invs c.args.from pair (omega arith) ∙ ap (λ (p : ℕ × ℕ). p ∷ drop (c.args.from + 1) invs) (sym at_from) in
    let all = inv_parts_by cut.code cut.marks counted (map (λ (p : ℕ × ℕ). p.0) (drop c.args.from invs)) whole in
    let made : (part_view u c.in_ok-part.part ∷ []) ++ others ≡ all =
    (λ i. here i ∷ rest i) ∙ ap (λ (l : List (ℕ × ℕ)). inv_parts_by cut.code cut.marks counted (map (λ (p : ℕ × ℕ). p.0) l) whole) (sym split) in
    parts-behind u c.args.out.now.items c.push.new.out.items c.push_inv_parts.new.out.items (part_view u c.in_ok-part.part ∷ []) others
    all c.push_inv_parts.result made
    c.in_ok-push.ensures c.push_inv_parts.ensures
