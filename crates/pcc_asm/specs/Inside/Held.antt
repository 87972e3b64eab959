-- What was assembled, as it stands in memory, and what makes its view writable.
use Rattle.std.specs.Prelude.{◌≡◌, ℕ, ◌*◌, ◌/◌, ◌<◌, ◌≤◌, List, [], length, Option, None}
use Rattle.term_table.specs.Table.{TableView, id_trees}
use Rattle.proof_container.specs.declared.limits.TheConstants.{MAX_WORDS, MAX_ENTRIES, MAX_INVS}
use Rattle.proof_container.specs.declared.container.Head.{Head}
use Rattle.proof_container.specs.Versions.{IsVersion, IsHead, IsBoundOf}
use Rattle.proof_container.specs.Contents.{Contents, roots}
use Rattle.proof_container.specs.Postorder.{entries}
use Rattle.proof_container.specs.Encoding.{AreRising}
use Rattle.proof_container.specs.Views.{AreKnown, AllTerms}

-- contents without lemmas and proof, the invariants' terms standing in a table
abbrev pub held_contents : ℕ → Head → Option ℕ → List ℕ → TableView → List (ℕ × ℕ) → Contents
held_contents version head bound code table invs = record {
  version = version;
  head = head;
  bound = bound;
  code = code;
  invs = id_trees table invs;
  lemmas = [];
  proof = None;
}

-- the invariants are ids of the table, and the contents keep to the format's limits
pub record IsWritableContents (table : TableView) (ids : List (ℕ × ℕ)) (c : Contents) : Type 0 where
  pub version : IsVersion c.version
  pub head : IsHead c.version c.head
  pub bound : IsBoundOf c.version c.bound
  pub known : AreKnown table ids None
  pub terms : AllTerms c.version (roots c)
  pub whole : 4 * (length c.code / 4) ≡ length c.code
  pub some : 0 < length c.code
  pub short : length c.code ≤ 4 * MAX_WORDS
  pub entries : length (entries (roots c)) ≤ MAX_ENTRIES
  pub invs : length ids ≤ MAX_INVS
  pub rising : AreRising 0 (length c.code / 4) c.invs
