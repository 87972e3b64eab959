-- Rows that are written one after another.
use Rattle.std.proofs.Common.{◌≡◌, ℕ, ◌+◌, Bool, List, [], ◌∷◌, ◌++◌, map, Result, Ok, Err, IfOk, ◌∙◌, ap, subst, append_assoc}
use Rattle.term_table.specs.Tree.{Tree}
use Rattle.term_table.specs.Table.{TableView}
use Rattle.view_goals.specs.declared.rows.Row.{Row}
use Rattle.view_goals.specs.declared.rows.PartRows.{PartRows}
use Rattle.view_goals.specs.Rows.{RowView, BothRow, UnderRow, row_view, PartRowsView, part_view}
use Rattle.view_goals.specs.Inside.Reading.{first_argument, last_argument}
use Rattle.view_goals.specs.Inside.Outlines.{Outline, Two, Behind, rows_by}
use Rattle.view_goals.specs.Inside.Appended.{IsAppended}
use Rattle.view_goals.specs.Inside.Parts.{ArePartsAppended}

-- what is added in two steps
pub behind : (t : TableView) (a b c : List Row) (p q : List RowView) → IsAppended t a p b → IsAppended t b q c → IsAppended t a (p ++ q) c
behind t a b c p q x y = record {
  rows = y.rows ∙ ap (λ l. l ++ q) x.rows ∙ append_assoc (map (row_view t) a) p q;
  known = λ h. y.known (x.known h);
}

-- the rows of two that are both asked, by those of their terms
two-rows : (t : TableView) (old b c new : List Row) (d : ℕ) (S T : Outline) (tree one other : Tree) → one ≡ first_argument tree → other ≡ last_argument tree
    → IsAppended t old (BothRow ∷ []) b → IsAppended t b (rows_by d S one) c → IsAppended t c (rows_by d T other) new
    → IsAppended t old (rows_by d (Two S T) tree) new
two-rows t old b c new d S T tree one other e f x y z =
    behind t old b new (BothRow ∷ []) (rows_by d S (first_argument tree) ++ rows_by d T (last_argument tree)) x
    (behind t b c new (rows_by d S (first_argument tree)) (rows_by d T (last_argument tree))
    (subst (λ (k : Tree). IsAppended t b (rows_by d S k) c) e y)
    (subst (λ (k : Tree). IsAppended t c (rows_by d T k) new) f z))

-- the same of what may have failed at its end
pub two : {E : Type 0} (t : TableView) (old b c new : List Row) (d : ℕ) (S T : Outline) (tree one other : Tree) (r : Result (Unit {0}) E)
    → one ≡ first_argument tree → other ≡ last_argument tree → IsAppended t old (BothRow ∷ []) b → IsAppended t b (rows_by d S one) c
    → IfOk r (λ _. IsAppended t c (rows_by d T other) new) → IfOk r (λ _. IsAppended t old (rows_by d (Two S T) tree) new)
two t old b c new d S T tree one other (Ok u) e f x y z = two-rows t old b c new d S T tree one other e f x y z
two t old b c new d S T tree one other (Err u) e f x y z = z

-- the rows of what stands behind a branch, by those of their terms
pub side : {E : Type 0} (t : TableView) (old b new : List Row) (d i : ℕ) (taken : Bool) (T : Outline) (tree one other : Tree) (r : Result (Unit {0}) E)
    → one ≡ first_argument tree → other ≡ last_argument tree → IsAppended t old (UnderRow i taken one d ∷ []) b
    → IfOk r (λ _. IsAppended t b (rows_by (d + 1) T other) new) → IfOk r (λ _. IsAppended t old (rows_by d (Behind i taken T) tree) new)
side t old b new d i taken T tree one other (Ok u) e f x z =
    behind t old b new (UnderRow i taken (first_argument tree) d ∷ []) (rows_by (d + 1) T (last_argument tree))
    (subst (λ (k : Tree). IsAppended t old (UnderRow i taken k d ∷ []) b) e x)
    (subst (λ (k : Tree). IsAppended t b (rows_by (d + 1) T k) new) f z)
side t old b new d i taken T tree one other (Err u) e f x z = z

-- ---- parts

parts-rows : (t : TableView) (old b new : List PartRows) (p q : List PartRowsView) → ArePartsAppended t old p b → ArePartsAppended t b q new
    → ArePartsAppended t old (p ++ q) new
parts-rows t old b new p q x y = record {
  parts = y.parts ∙ ap (λ l. l ++ q) x.parts ∙ append_assoc (map (part_view t) old) p q;
  known = λ h. y.known (x.known h);
}

-- parts that are written in two steps, of which the second may have failed
pub parts-behind : {E : Type 0} (t : TableView) (old b new : List PartRows) (p q all : List PartRowsView) (r : Result (Unit {0}) E) → p ++ q ≡ all
    → ArePartsAppended t old p b → IfOk r (λ _. ArePartsAppended t b q new) → IfOk r (λ _. ArePartsAppended t old all new)
parts-behind t old b new p q all (Ok u) e x y =
    subst (λ (l : List PartRowsView). ArePartsAppended t old l new) e (parts-rows t old b new p q x y)
parts-behind t old b new p q all (Err u) e x y = y
