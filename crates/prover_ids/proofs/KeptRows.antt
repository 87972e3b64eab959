-- Kept answers as the table grows.
use Rattle.std.specs.declared.cmp.Ordering.{Ordering}
use Rattle.term_table.specs.Table.{TableView}
use Rattle.prover_ids.specs.Kept.{AreRight}
use Rattle.prover_ids.specs.declared.kept.Kept.{Kept}

-- each kept answer stays right, where each right one does
pub right-more : {Q A : Type 0} {cmp : Q → Q → Ordering} {kept : Kept Q A} (R : TableView → Q → A → Type 0) (t u : TableView) → ((q : Q) (r : A) → R t q r → R u q r) → AreRight cmp R t kept → AreRight cmp R u kept
right-more R t u lasts h = record { each = λ q r i. lasts q r (h.each q r i) }
