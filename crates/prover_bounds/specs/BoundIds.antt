-- What ids say of the bounds that the definitions give, and what is kept of upper bounds.
use Rattle.std.specs.Prelude.{◌≡◌}
use Rattle.term_table.specs.Table.{TableView, IsKnown, tree_at}
use Rattle.prover_class.specs.Bounds.{WordBound, word_bound}
use Rattle.prover_bounds.specs.declared.bounds.Bound.{Bound}

-- the word is the bound's, and the id stands for its proof
pub record IsWordBound (t : TableView) (w : WordBound) (b : Bound) : Type 0 where
  pub known : IsKnown t b.proof
  pub value : b.value ≡ w.value
  pub is : tree_at t b.proof ≡ w.proof

-- the bound that a word and the id of a proof are
abbrev pub bound_by_ids : TableView → Bound → WordBound
bound_by_ids t b = word_bound b.value (tree_at t b.proof)
