-- What the answer says.
use Rattle.std.specs.Prelude.{◌≡◌, map}
use Rattle.term_table.specs.Table.{TableView, AllKnown, tree_at}
use Rattle.lf_terms.specs.Encoding.{form_encoding}
use Rattle.view_marks.specs.Hints.{HintView, Plain, Bounds, Rights}
use Rattle.view_marks.specs.declared.hints.Hint.{Hint}
use Rattle.view_marks.specs.declared.hints.Hint.TheVariants as H

-- the hint shows these words, or formulas
abbrev pub IsHint : TableView → HintView → Hint → Type 0
IsHint t Plain H.Plain = Unit {0}
IsHint t (Bounds upper lower) (H.Bounds u l) = (u ≡ upper) × (l ≡ lower)
IsHint t (Rights Fs) (H.Rights ids) = map (tree_at t) ids.items ≡ map form_encoding Fs
IsHint t _ _ = ⊥

-- the ids of a hint are the table's
abbrev pub IsKnownHint : TableView → Hint → Type 0
IsKnownHint t H.Plain = Unit {0}
IsKnownHint t (H.Bounds u l) = Unit {0}
IsKnownHint t (H.Rights ids) = AllKnown t ids.items
