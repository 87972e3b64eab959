-- A view that can be written: what its walk has left, and what it holds.
use Rattle.std.proofs.Common.{◌≡◌, ℕ, ◌/◌, true, List, [], ◌∷◌, ◌++◌, length, map, Option, Some, None, IfSome, sym, ◌∙◌, ap, subst, append_assoc, arith}
use Rattle.std.specs.Option.{option_map}
use Rattle.std.proofs.lemmas.List.{length-map}
use Rattle.term_table.specs.Tree.{Tree, Var, Con, App, Lam, Fam, TApp, Pi}
use Rattle.term_table.specs.Table.{TableView, IsKnown, tree_at, AreSmall, id_trees}
use Rattle.lf_lemmas.specs.Tables.{lemmas_in, LemmasKnown}
use Rattle.proof_container.specs.declared.container.View.{View}
use Rattle.proof_container.specs.declared.walk.Walk.{Walk}
use Rattle.proof_container.specs.Contents.{Contents, one_or_none, lemma_roots, roots}
use Rattle.proof_container.specs.Postorder.{is_emitted, HasPartsFirst, ArePostorder, AreEmitted, entries}
use Rattle.term_table.specs.Bytes.{IsBytes}
use Rattle.proof_container.specs.Encoding.{field_bytes, head_bytes, tail_fields, encoding_of, AreTerms, IsContents}
use Rattle.proof_container.specs.Views.{AreKnown, AllTerms, IsWritable, view_contents}
use Rattle.proof_container.specs.Inside.Walked.{IsReady, HaveParts, left_trees}
use Rattle.proof_container.specs.Walks.{IsLeft, root_trees}
use Rattle.proof_container.proofs.LemmaIds.{in_ids}
use Rattle.proof_container.proofs.Small.{AreEmitted-split}
use Rattle.proof_container.proofs.Walks.{listed-left, entries_grow, entries_listed}

-- ---- parts of all entries

HasPartsFirst-more : (ts us : List Tree) (t : Tree) → HasPartsFirst ts t → HasPartsFirst (ts ++ us) t
HasPartsFirst-more ts us (Var n) h = tt
HasPartsFirst-more ts us (Con c) h = tt
HasPartsFirst-more ts us (App f a) h = (listed-left f ts us h.0, listed-left a ts us h.1)
HasPartsFirst-more ts us (Lam b) h = listed-left b ts us h
HasPartsFirst-more ts us (Fam a) h = tt
HasPartsFirst-more ts us (TApp p a) h = (listed-left p ts us h.0, listed-left a ts us h.1)
HasPartsFirst-more ts us (Pi a b) h = (listed-left a ts us h.0, listed-left b ts us h.1)

have_parts : (ts us : List Tree) → ArePostorder ts us → HaveParts (ts ++ us) us
have_parts ts [] extends = tt
have_parts ts (u ∷ us) extends =
    (HasPartsFirst-more ts (u ∷ us) u extends.0, subst (λ (z : List Tree). HaveParts z us) (append_assoc ts (u ∷ []) us) (have_parts (ts ++ u ∷ []) us extends.2))

-- ---- what the roots' trees are

listed_invs : (t : TableView) (es : List Tree) (invs : List (ℕ × ℕ)) → AreEmitted es (map (λ p. p.1) (id_trees t invs)) → AreEmitted es (map (λ inv. tree_at t inv.1) invs)
listed_invs t es [] listed = tt
listed_invs t es (inv ∷ invs) listed = (listed.0, listed_invs t es invs listed.1)

listed_proof : (t : TableView) (es : List Tree) (proof : Option ℕ) → AreEmitted es (one_or_none (option_map (tree_at t) proof)) → IfSome proof (λ id. is_emitted (tree_at t id) es ≡ true)
listed_proof t es None listed = tt
listed_proof t es (Some id) listed = listed.0

pub ready : (v : View) (w : Walk) → IsWritable v → IsLeft v.table.now (entries (root_trees v.table.now v.invs.now v.lemmas.now v.proof)) w → IsReady v w
ready v w writable is =
    let t : TableView = v.table.now in
    let rs : List Tree = root_trees t v.invs.now v.lemmas.now v.proof in
    let same : entries rs ≡ left_trees t w = sym is.left in
    let listed : AreEmitted (entries rs) rs = entries_listed rs in
    let of_lemmas : List Tree = lemma_roots (lemmas_in t v.lemmas.now) in
    let of_proof : List Tree = one_or_none (option_map (tree_at t) v.proof) in
    let apart =
    AreEmitted-split (entries rs) (map (λ p. p.1) (id_trees t v.invs.now)) (of_lemmas ++ of_proof)
    listed in
    let both = AreEmitted-split (entries rs) of_lemmas of_proof apart.1 in
    record {
      left = subst (λ (z : List Tree). IsLeft t z w) same is;
      parts = subst (λ (z : List Tree). HaveParts z z) same (have_parts [] (entries rs) (entries_grow rs));
      known = writable.known;
      invs = subst (λ (z : List Tree). AreEmitted z (map (λ inv. tree_at t inv.1) v.invs.now)) same (listed_invs t (entries rs) v.invs.now apart.0);
      known_lemmas = writable.known_lemmas;
      lemmas = subst (λ (z : List Tree). AreEmitted z of_lemmas) same both.0;
      proof = subst (λ (z : List Tree). IfSome v.proof (λ id. is_emitted (tree_at t id) z ≡ true)) same (listed_proof t (entries rs) v.proof both.1);
      few = omega (arith, length-map w.left.items (tree_at t), ap length is.left, writable.entries);
      few_invs = writable.invs;
      few_lemmas = writable.lemmas;
    }

-- ---- what the view holds

-- the trees of lemmas and a proof
abbrev last_trees : TableView → List (ℕ × ℕ) → Option ℕ → List Tree
last_trees t lemmas proof =
    lemma_roots (lemmas_in t lemmas) ++ one_or_none (option_map (tree_at t) proof)

last_terms : (v : ℕ) (t : TableView) (lemmas : List (ℕ × ℕ)) (proof : Option ℕ)
    → LemmasKnown t lemmas → IfSome proof (IsKnown t) → AreSmall t.trees
    → AllTerms v (last_trees t lemmas proof) → AreTerms v (last_trees t lemmas proof)
last_terms v t [] None known has small terms = tt
last_terms v t [] (Some id) known has small terms = (terms.0, small id has, tt)
last_terms v t (l ∷ lemmas) proof known has small terms =
    let others = last_terms v t lemmas proof known.2 has small terms.1.1 in
    (terms.0, small l.0 known.0, (terms.1.0, small l.1 known.1, others))

root_terms : (v : ℕ) (t : TableView) (invs lemmas : List (ℕ × ℕ)) (proof : Option ℕ)
    → AreKnown t invs proof → LemmasKnown t lemmas → AreSmall t.trees
    → AllTerms v (root_trees t invs lemmas proof) → AreTerms v (root_trees t invs lemmas proof)
root_terms v t [] lemmas proof known has small terms =
    last_terms v t lemmas proof has known.1 small terms
root_terms v t (inv ∷ invs) lemmas proof known has small terms =
    let others = root_terms v t invs lemmas proof (known.0.1, known.1) has small terms.1 in
    (terms.0, small inv.1 known.0.0, others)

pub view_holds : (v : View) → IsWritable v → IsBytes v.code.now → AreSmall v.table.now.trees
    → IsContents (view_contents v)
view_holds v writable bytes small = record {
  version = writable.version;
  head = writable.head;
  bound = writable.bound;
  bytes = bytes;
  whole = writable.whole;
  some = writable.some;
  short = writable.short;
  terms =
      root_terms v.version v.table.now v.invs.now v.lemmas.now v.proof writable.known
      writable.known_lemmas small writable.terms;
  entries = writable.entries;
  invs = omega (arith, writable.invs, length-map {B = ℕ × Tree} v.invs.now (λ inv. (inv.0, tree_at v.table.now inv.1)));
  rising = writable.rising;
  lemmas = in_ids v.table.now v.version v.lemmas.now writable.lemmas;
}

pub is_spelling : (c : Contents) (es : List Tree) (out : List ℕ) → es ≡ entries (roots c)
    → out ≡ (head_bytes c (length c.code / 4) ++ c.code) ++ field_bytes (tail_fields es c)
    → out ≡ encoding_of c
unfolding encoding_of
is_spelling c es out same e =
    let front : List ℕ = head_bytes c (length c.code / 4) in
    e ∙ ap (λ (z : List Tree). (front ++ c.code) ++ field_bytes (tail_fields z c)) same
    ∙ append_assoc front c.code (field_bytes (tail_fields (entries (roots c)) c))
