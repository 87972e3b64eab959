-- What is kept, as the table grows.
use Rattle.std.proofs.Common.{◌≡◌, Option}
use Rattle.term_table.specs.Tree.{Tree, Const}
use Rattle.term_table.specs.Table.{TableView, Extends}
use Rattle.lf_check.specs.Kept.{AreKept}
use Rattle.lf_check.specs.declared.judgements.Kept.{Kept}
use Rattle.lf_check.proofs.Rows.{kept-more}

-- what is kept stays right
pub kept-last : (k : Kept) (sig : TableView → Const → Option Tree) (t u : TableView) → AreKept (sig t) t k → Extends t u → sig u ≡ sig t → AreKept (sig u) u k
kept-last k sig t u h x e = kept-more k (sig t) (sig u) t u h x e
