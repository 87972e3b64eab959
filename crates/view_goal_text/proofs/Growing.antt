-- What rows and parts show stays as the table grows.
use Rattle.std.proofs.Common.{◌≡◌, ℕ, List, [], ◌∷◌, map, drop, get_or, refl, sym, subst, ◌+◌, arith}
use Rattle.std.specs.Prelude.{All}
use Rattle.std.proofs.lemmas.List.{get_or-drop, length-drop}
use Rattle.std.proofs.lemmas.List.Elements.{All-head, All-tail}
use Rattle.term_table.specs.Table.{TableView, Extends}
use Rattle.view_lines.proofs.Adding.{id-known}
use Rattle.view_goals.specs.declared.rows.Row.{Row}
use Rattle.view_goals.specs.declared.rows.Row.TheVariants as row
use Rattle.view_goals.specs.declared.rows.PartRows.{PartRows}
use Rattle.view_goals.specs.Rows.{GoalRow, UnderRow, row_view, HasKnownId, part_view, HasKnownIds}

module _ (t u : TableView) (grown : Extends t u) where
  pub row-more : (r : Row) → HasKnownId t r → row_view u r ≡ row_view t r
  row-more (row.Goal i w A d) h = λ k. GoalRow i w (grown.same A h k) d
  row-more row.Both h = refl
  row-more (row.Under i taken A d) h = λ k. UnderRow i taken (grown.same A h k) d

  pub row-known : (r : Row) → HasKnownId t r → HasKnownId u r
  row-known (row.Goal i w A d) h = id-known t u grown A h
  row-known row.Both h = tt
  row-known (row.Under i taken A d) h = id-known t u grown A h

  pub rows-more : (rows : List Row) → All (HasKnownId t) rows
      → map (row_view u) rows ≡ map (row_view t) rows
  rows-more [] h = refl
  rows-more (r ∷ rows) h =
      let first = row-more r (All-head (HasKnownId t) r rows h) in
      let others = rows-more rows (All-tail (HasKnownId t) r rows h) in
      λ k. first k ∷ others k

  pub part-more : (p : PartRows) → HasKnownIds t p → part_view u p ≡ part_view t p
  part-more p h =
      let formula = grown.same p.formula h.0 in
      let known = grown.same p.known h.1 in
      let rows = rows-more p.rows.items h.2 in
      λ k. record { at = p.at; formula = formula k; known = known k; rows = rows k }

  pub part-known : (p : PartRows) → HasKnownIds t p → HasKnownIds u p
  part-known p h = (id-known t u grown p.formula h.0, id-known t u grown p.known h.1, λ k d lt. row-known (get_or p.rows.items k d) (h.2 k d lt))

  pub parts-more : (parts : List PartRows) → All (HasKnownIds t) parts
      → map (part_view u) parts ≡ map (part_view t) parts
  parts-more [] h = refl
  parts-more (p ∷ parts) h =
      let first = part-more p (All-head (HasKnownIds t) p parts h) in
      let others = parts-more parts (All-tail (HasKnownIds t) p parts h) in
      λ k. first k ∷ others k

  pub parts-known : (parts : List PartRows) → All (HasKnownIds t) parts → All (HasKnownIds u) parts
  parts-known parts h = λ k d lt. part-known (get_or parts k d) (h k d lt)

-- of later parts, too
pub parts-behind : (t : TableView) (n : ℕ) (parts : List PartRows) → All (HasKnownIds t) parts
    → All (HasKnownIds t) (drop n parts)
parts-behind t n parts h = λ k d lt.
    subst (HasKnownIds t) (sym (get_or-drop n parts k d))
    (h (n + k) d (omega (arith, length-drop n parts, lt)))
