-- Answers that are kept.
use Rattle.std.specs.Prelude.{◌≡◌, Some}
use Rattle.std.specs.BTreeMap.{get}
use Rattle.std.specs.declared.cmp.Ordering.{Ordering}
use Rattle.term_table.specs.Table.{TableView}
use Rattle.prover_ids.specs.declared.kept.Kept.{Kept}

-- each kept answer is right of its question and the table
pub record AreRight {Q A : Type 0} (cmp : Q → Q → Ordering) (is_right : TableView → Q → A → Type 0) (t : TableView) (kept : Kept Q A) : Type 0 where
  pub each : (q : Q) (r : A) → get cmp kept.rows q ≡ Some r → is_right t q r
