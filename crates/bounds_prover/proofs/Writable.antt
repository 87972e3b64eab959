-- What can be written.
use Rattle.std.proofs.Common.{ℕ, ◌≤◌, List, [], ◌∷◌, length, arith}
use Rattle.std.proofs.lemmas.List.{length-map}
use Rattle.term_table.specs.Tree.{Tree}
use Rattle.term_table.specs.Table.{tree_at}
use Rattle.lf_lemmas.specs.Tables.{LemmasKnown}
use Rattle.proof_container.specs.declared.container.View.{View}
use Rattle.proof_container.specs.Contents.{roots}
use Rattle.proof_container.specs.Encoding.{AreTerms, IsContents}
use Rattle.proof_container.specs.Views.{AllTerms, AreKnown, IsWritable, view_contents}
use Rattle.proof_container.proofs.LemmaIds.{of_ids}

-- terms alone
all_terms : (v : ℕ) (ts : List Tree) → AreTerms v ts → AllTerms v ts
all_terms v [] h = tt
all_terms v (t ∷ ts) h = (h.0, all_terms v ts h.2)

-- what a view shows can be written
pub can_write : (v : View) → AreKnown v.table.now v.invs.now v.proof
    → LemmasKnown v.table.now v.lemmas.now → IsContents (view_contents v) → IsWritable v
can_write v known lemmas h =
    let few : length v.invs.now ≤ 256 =
    omega (
      arith,
      h.invs,
      length-map {B = ℕ × Tree} v.invs.now (λ inv. (inv.0, tree_at v.table.now inv.1)),
    ) in
    record {
      version = h.version;
      head = h.head;
      bound = h.bound;
      known = known;
      known_lemmas = lemmas;
      terms = all_terms v.version (roots (view_contents v)) h.terms;
      whole = h.whole;
      some = h.some;
      short = h.short;
      entries = h.entries;
      invs = few;
      rising = h.rising;
      lemmas = of_ids v.table.now v.version v.lemmas.now h.lemmas;
    }
