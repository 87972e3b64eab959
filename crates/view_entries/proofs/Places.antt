-- Where a tree stands among different ones.
use Rattle.std.proofs.Common.{◌≡◌, ℕ, ◌<◌, List, length}
use Rattle.term_table.specs.Tree.{Tree}
use Rattle.term_table.specs.Table.{tree_in, AreDifferent}
use Rattle.proof_container.specs.Encoding.{entry_number}
use Rattle.proof_container.proofs.Walks.{number-at}

-- number-at, by a name that an attribute can have
pub number_known : (ts : List Tree) (id : ℕ) → AreDifferent ts → id < length ts →
    entry_number ts (tree_in ts id) ≡ id
number_known ts id d h = number-at ts d id h
