-- What a walk over a table's ids has left.
use Rattle.std.specs.Prelude.{◌≡◌, ℕ, ◌<◌, if◌then◌else◌, List, ◌++◌, map, length, get_or, Option, Some, None}
use Rattle.std.specs.Option.{option_map}
use Rattle.term_table.specs.Tree.{Tree}
use Rattle.term_table.specs.Table.{TableView, AllKnown, tree_at, id_trees}
use Rattle.lf_lemmas.specs.Tables.{lemmas_in}
use Rattle.proof_container.specs.declared.walk.Walk.{Walk}
use Rattle.proof_container.specs.Contents.{one_or_none, lemma_roots}
use Rattle.proof_container.specs.Postorder.{is_emitted}
use Rattle.proof_container.specs.Encoding.{entry_number}

-- the trees of the roots: the invariants in order, then each lemma's formula and proof, then the
-- proof
abbrev pub root_trees : TableView → List (ℕ × ℕ) → List (ℕ × ℕ) → Option ℕ → List Tree
root_trees t invs lemmas proof =
    map (λ p. p.1) (id_trees t invs)
    ++ (lemma_roots (lemmas_in t lemmas) ++ one_or_none (option_map (tree_at t) proof))

-- the number of a tree among those that were left, if it was left
abbrev pub mark : List Tree → Tree → Option ℕ
mark ts t = if is_emitted t ts then Some (entry_number ts t) else None

-- each id of the table has its tree's mark
pub record AreMarks (t : TableView) (ts : List Tree) (marks : List (Option ℕ)) : Type 0 where
  pub count : length marks ≡ length t.trees
  pub at : (id : ℕ) → id < length t.trees → get_or marks id None ≡ mark ts (tree_at t id)

-- the ids were left, whose trees these are
pub record IsLeft (t : TableView) (ts : List Tree) (w : Walk) : Type 0 where
  pub known : AllKnown t w.left.items
  pub left : map (tree_at t) w.left.items ≡ ts
  pub marks : AreMarks t ts w.numbers.items
