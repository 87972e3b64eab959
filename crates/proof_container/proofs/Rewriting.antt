-- What was read can be written.
use Rattle.std.proofs.Common.{◌≡◌, ℕ, ◌≤◌, List, [], ◌∷◌, length, refl, sym, subst, arith}
use Rattle.std.proofs.lemmas.List.{length-map}
use Rattle.term_table.specs.Tree.{Tree}
use Rattle.term_table.specs.Table.{tree_at}
use Rattle.proof_container.specs.declared.container.Container.{Container}
use Rattle.proof_container.specs.declared.container.View.{View}
use Rattle.proof_container.specs.Contents.{roots}
use Rattle.proof_container.specs.Encoding.{AreTerms, IsContents, EncodesContents}
use Rattle.proof_container.specs.Views.{AllTerms, AreKnown, IsCanonical, IsWritable, Shows, contents_of, view_contents}
use Rattle.proof_container.proofs.LemmaIds.{of_ids}

AreTerms-all : (v : ℕ) (ts : List Tree) → AreTerms v ts → AllTerms v ts
AreTerms-all v [] h = tt
AreTerms-all v (t ∷ ts) h = (h.0, AreTerms-all v ts h.2)

-- a view of it shows what it holds
shown : (c : Container) (v : View) → Shows c v → view_contents v ≡ contents_of c
shown c v s = rw (s.version, s.head, s.bound, s.code, s.table, s.invs, s.lemmas, s.proof) refl

pub rewritable : (bytes : List ℕ) (c : Container) (v : View) → EncodesContents bytes (contents_of c) → IsCanonical c → Shows c v → IsWritable v
rewritable bytes c v p q s =
    let h : IsContents (view_contents v) = subst IsContents (sym (shown c v s)) p.contents in
    let known : AreKnown v.table.now v.invs.now v.proof = rw (s.table, s.invs, s.proof) q.known in
    let tree : ℕ × ℕ → ℕ × Tree = λ inv. (inv.0, tree_at v.table.now inv.1) in
    let few : length v.invs.now ≤ 256 = omega (arith, h.invs, length-map v.invs.now tree) in
    record {
      version = h.version;
      head = h.head;
      bound = h.bound;
      known = known;
      known_lemmas = rw (s.table, s.lemmas) q.known_lemmas;
      terms = AreTerms-all v.version (roots (view_contents v)) h.terms;
      whole = h.whole;
      some = h.some;
      short = h.short;
      entries = h.entries;
      invs = few;
      rising = h.rising;
      lemmas = of_ids v.table.now v.version v.lemmas.now h.lemmas;
    }
