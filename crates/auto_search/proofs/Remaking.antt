-- Containers that are made of others, and compared.
use Rattle.std.proofs.Common.{◌≡◌, ℕ, ◌*◌, ◌/◌, ◌<◌, ◌≤◌, List, [], ◌∷◌, ◌++◌, map, length, Option, Some, None}
use Rattle.std.proofs.Common.{Vec, IfOk, IfSome}
use Rattle.std.specs.Global.{Global}
use Rattle.std.proofs.Common.{option_map, Result, Ok, Err, refl, sym, ap, ◌∙◌, subst, arith}
use Rattle.std.proofs.lemmas.List.{length-map}
use Rattle.term_table.specs.Tree.{Tree}
use Rattle.term_table.specs.Table.{TableView, IsKnown, Extends, tree_at, id_trees}
use Rattle.lf_lemmas.specs.Tables.{lemmas_in, LemmasKnown}
use Rattle.lf_lemmas.specs.Laws.Lawful.{lemmas_stay, lemmas_known}
use Rattle.proof_container.specs.declared.container.Container.{Container}
use Rattle.proof_container.specs.declared.container.Head.{Head}
use Rattle.proof_container.specs.declared.container.View.{View}
use Rattle.proof_container.specs.declared.limits.TheConstants.{MAX_WORDS, MAX_ENTRIES, MAX_INVS}
use Rattle.proof_container.specs.Versions.{IsVersion, IsHead, IsBoundOf, AreLemmasOf}
use Rattle.proof_container.specs.Contents.{Contents, one_or_none, lemma_roots, roots}
use Rattle.proof_container.specs.Decoding.{decoded_container}
use Rattle.proof_container.specs.Postorder.{entries}
use Rattle.proof_container.specs.Encoding.{IsContents, AreTerms, AreRising, EncodesContents}
use Rattle.proof_container.specs.Views.{AllTerms, AreKnown, IsWritable, contents_of, view_contents}
use Rattle.proof_container.proofs.LemmaIds.{of_ids}
use Rattle.auto_search.specs.Outcomes.{IsOf}
use Rattle.auto_search.specs.Inside.Terms.{IsPlain, ArePlain, AreRisingIds, with_invs, IsEncoded, IsRemade, IsRemadeOf, IsKeptOf, AreSameBut, HasInvariants}
use Rattle.auto_search.proofs.Copies.{any_version, known-plain, terms-plain, rising-ids}

-- the lemmas' terms, which stand behind the invariants' and before the proof's
lemma_terms : (v : ℕ) (ts lemmas others last : List Tree) → AreTerms v (ts ++ (lemmas ++ others))
    → AllTerms v last → AllTerms v (lemmas ++ last)
lemma_terms v [] [] others last h k = k
lemma_terms v [] (t ∷ lemmas) others last h k = (h.0, lemma_terms v [] lemmas others last h.2 k)
lemma_terms v (t ∷ ts) lemmas others last h k = lemma_terms v ts lemmas others last h.2 k

-- the term of a proof, if there is one
optional-known : (u : TableView) (o : Option ℕ) → IfSome o (IsPlain u) → IfSome o (IsKnown u)
optional-known u None h = tt
optional-known u (Some p) h = h.0

optional-terms : (v : ℕ) (u : TableView) (o : Option ℕ) → IfSome o (IsPlain u)
    → AllTerms v (one_or_none (option_map (tree_at u) o))
optional-terms v u None h = tt
optional-terms v u (Some p) h = (any_version v (tree_at u p) h.1, tt)

-- whole words
abbrev IsWhole : List ℕ → Type 0
IsWhole l = 4 * (length l / 4) ≡ length l

-- what a view shows with other invariants, and perhaps a proof, can be written
pub can_remake : (k : Container) (u : TableView) (v : View) (invs : List (ℕ × ℕ)) (o : Option ℕ)
    → IsContents (contents_of k) → LemmasKnown k.table k.lemmas.items → Extends k.table u
    → ArePlain u invs → IfSome o (IsPlain u) → length invs ≤ MAX_INVS → AreRisingIds 0 (length k.code.now / 4) invs
    → v.version ≡ k.version → v.head ≡ k.head → v.bound ≡ k.bound → v.code.now ≡ k.code.now
    → v.table.now ≡ u → v.invs.now ≡ invs → v.lemmas.now ≡ k.lemmas.items → v.proof ≡ o
    → length (entries (roots (view_contents v))) ≤ MAX_ENTRIES → IsWritable v
can_remake k u v invs o h lemmas x plain proved few rising version head bound code table invs_are lemmas_are proof entries =
    let here : List (ℕ × ℕ) = k.lemmas.items in
    let last : List Tree = one_or_none (option_map (tree_at u) o) in
    let same : lemmas_in u here ≡ lemmas_in k.table here = lemmas_stay here k.table u lemmas x in
    let terms : AllTerms k.version (map (λ p. p.1) (id_trees u invs) ++ (lemma_roots (lemmas_in u here) ++ last)) =
    terms-plain k.version u invs (lemma_roots (lemmas_in u here) ++ last) plain
    (subst (λ (l : List (Tree × Tree)). AllTerms k.version (lemma_roots l ++ last)) (sym same)
    (lemma_terms k.version (map (λ p. p.1) (contents_of k).invs) (lemma_roots (lemmas_in k.table here))
    (one_or_none (contents_of k).proof) last h.terms (optional-terms k.version u o proved))) in
    record {
      version = subst IsVersion (sym version) h.version;
      head =
          subst (λ n. IsHead n v.head) (sym version)
          (subst (λ (o : Head). IsHead k.version o) (sym head) h.head);
      bound =
          subst (λ n. IsBoundOf n v.bound) (sym version)
          (subst (λ (o : Option ℕ). IsBoundOf k.version o) (sym bound) h.bound);
      known =
          subst (λ (t : TableView). AreKnown t v.invs.now v.proof) (sym table)
          (subst (λ (l : List (ℕ × ℕ)). AreKnown u l v.proof) (sym invs_are)
          (subst (λ (o : Option ℕ). AreKnown u invs o) (sym proof) (known-plain u invs plain, optional-known u o proved)));
      known_lemmas =
          subst (λ (t : TableView). LemmasKnown t v.lemmas.now) (sym table)
          (subst (λ (l : List (ℕ × ℕ)). LemmasKnown u l) (sym lemmas_are)
          (lemmas_known here k.table u lemmas x));
      terms =
          subst (λ n. AllTerms n (roots (view_contents v))) (sym version)
          (subst (λ (l : List Tree). AllTerms k.version l) (sym shown) terms);
      whole = subst IsWhole (sym code) h.whole;
      some = subst (λ (l : List ℕ). 0 < length l) (sym code) h.some;
      short = subst (λ (l : List ℕ). length l ≤ 4 * MAX_WORDS) (sym code) h.short;
      entries = entries;
      invs = subst (λ (l : List (ℕ × ℕ)). length l ≤ MAX_INVS) (sym invs_are) few;
      rising =
          subst (λ (l : List ℕ). AreRising 0 (length l / 4) (view_contents v).invs) (sym code)
          (subst (λ (t : TableView). AreRising 0 (length k.code.now / 4) (id_trees t v.invs.now)) (sym table)
          (subst (λ (l : List (ℕ × ℕ)). AreRising 0 (length k.code.now / 4) (id_trees u l)) (sym invs_are)
          (rising-ids u 0 (length k.code.now / 4) invs rising)));
      lemmas =
          subst (λ n. AreLemmasOf n v.lemmas.now) (sym version)
          (subst (λ (l : List (ℕ × ℕ)). AreLemmasOf k.version l) (sym lemmas_are)
          (of_ids u k.version here
          (subst (λ (l : List (Tree × Tree)). AreLemmasOf k.version l) (sym same) h.lemmas)));
    }
  where
    -- what the view shows
    shown : roots (view_contents v)
        ≡ map (λ p. p.1) (id_trees u invs) ++ (lemma_roots (lemmas_in u k.lemmas.items) ++ one_or_none (option_map (tree_at u) o))
    shown =
        (λ i. map (λ p. p.1) (id_trees (table i) (invs_are i))
        ++ (lemma_roots (lemmas_in (table i) (lemmas_are i)) ++ one_or_none (option_map (tree_at (table i)) (proof i))))

-- the contents that a view of a container's parts shows with other invariants
abbrev shown_with : Container → TableView → List (ℕ × ℕ) → List (ℕ × ℕ) → Contents
shown_with k u invs lemmas = record {
  version = k.version;
  head = k.head;
  bound = k.bound;
  code = k.code.now;
  invs = id_trees u invs;
  lemmas = lemmas_in u lemmas;
  proof = None;
}

-- those are the container's contents with these invariants
shows-remade : (k : Container) (u : TableView) (invs shown lemmas : List (ℕ × ℕ))
    → LemmasKnown k.table k.lemmas.items → Extends k.table u → shown ≡ invs → lemmas ≡ k.lemmas.items
    → shown_with k u shown lemmas ≡ with_invs (contents_of k) (id_trees u invs)
shows-remade k u invs shown lemmas known x invs_are lemmas_are =
    (λ i. shown_with k u (invs_are i) (lemmas_are i))
    ∙ ap (λ (l : List (Tree × Tree)). record {
      version = k.version;
      head = k.head;
      bound = k.bound;
      code = k.code.now;
      invs = id_trees u invs;
      lemmas = l;
      proof = None;
    }) (lemmas_stay k.lemmas.items k.table u known x)

-- so what encodes it is the container remade
pub encoded-remade : (c d : Contents) (invs : List (ℕ × Tree)) (count : ℕ) (out : List ℕ)
    → d ≡ with_invs c invs → length invs ≡ count → IsEncoded d out → IsRemade c count out
encoded-remade c d invs count out same size h = record {
  invs = invs;
  encoded = subst (λ (x : Contents). IsEncoded x out) same h;
  size = size;
}

pub size-trees : (u : TableView) (invs : List (ℕ × ℕ)) → length (id_trees u invs) ≡ length invs
size-trees u invs = length-map {B = ℕ × Tree} invs (λ p. (p.0, tree_at u p.1))

-- what is written of such a view is the container remade
pub remade-written : {E : Type 0} (r : Result (Option (Vec ℕ Global)) E) (k : Container) (u : TableView)
    (invs shown lemmas : List (ℕ × ℕ)) (count : ℕ)
    → LemmasKnown k.table k.lemmas.items → Extends k.table u → shown ≡ invs → lemmas ≡ k.lemmas.items
    → length invs ≡ count
    → IfOk r (λ o. IfSome o (λ out. IsEncoded (shown_with k u shown lemmas) out.items))
    → IfOk r (λ o. IfSome o (λ out. IsRemade (contents_of k) count out.items))
remade-written (Ok (Some out)) k u invs shown lemmas count known x invs_are lemmas_are size h =
    encoded-remade (contents_of k) (shown_with k u shown lemmas) (id_trees u invs) count out.items
    (shows-remade k u invs shown lemmas known x invs_are lemmas_are) (size-trees u invs ∙ size) h
remade-written (Ok None) k u invs shown lemmas count known x invs_are lemmas_are size h = tt
remade-written (Err e) k u invs shown lemmas count known x invs_are lemmas_are size h = tt

-- ---- of the bytes of a container

-- what is remade is the container but for invariants and proof
pub remade-is : (input out : List ℕ) (count : ℕ) → IsRemadeOf input count out → IsOf input out count
remade-is input out count h = record {
  before = h.contents;
  after = with_invs h.contents h.remade.invs;
  had = h.had;
  has = h.remade.encoded.decoded;
  same = record { version = refl; head = refl; bound = refl; code = refl; lemmas = refl };
  count = h.remade.size;
}

none : (invs : List (ℕ × Tree)) → length invs ≡ 0 → invs ≡ []
none [] e = refl
none (inv ∷ invs) e = absurd (omega (arith, e))

-- containers whose bare forms have the same bytes are the same but for invariants and proof
pub same-bare : ((bytes : List ℕ) (c d : Contents) → EncodesContents bytes c → EncodesContents bytes d → c ≡ d)
    → (input out first second : List ℕ) → IsRemadeOf input 0 first → IsRemadeOf out 0 second
    → first ≡ second → AreSameBut input out
same-bare one input out first second h k same =
    let bare_of : Contents → Contents = λ c. with_invs c [] in
    let a : EncodesContents first (bare_of h.contents) =
    subst (λ (l : List (ℕ × Tree)). EncodesContents first (with_invs h.contents l))
    (none h.remade.invs h.remade.size) h.remade.encoded.encodes in
    let b : EncodesContents second (bare_of k.contents) =
    subst (λ (l : List (ℕ × Tree)). EncodesContents second (with_invs k.contents l))
    (none k.remade.invs k.remade.size) k.remade.encoded.encodes in
    let e : bare_of k.contents ≡ bare_of h.contents =
    one second (bare_of k.contents) (bare_of h.contents) b
    (subst (λ (l : List ℕ). EncodesContents l (bare_of h.contents)) same a) in
    record {
      before = h.contents;
      after = k.contents;
      had = h.had;
      has = k.had;
      same = record {
        version = ap (λ (c : Contents). c.version) e;
        head = ap (λ (c : Contents). c.head) e;
        bound = ap (λ (c : Contents). c.bound) e;
        code = ap (λ (c : Contents). c.code) e;
        lemmas = ap (λ (c : Contents). c.lemmas) e;
      };
    }

-- and the second has so many invariants
pub counted-is : (input out : List ℕ) (count : ℕ) → AreSameBut input out → HasInvariants out count
    → IsOf input out count
counted-is input out count h k =
    let same : k.contents ≡ h.after = let both : Ok k.contents ≡ Ok h.after = sym k.has ∙ h.has in cc in
    record {
      before = h.before;
      after = h.after;
      had = h.had;
      has = h.has;
      same = h.same;
      count = ap (λ (c : Contents). length c.invs) (sym same) ∙ k.size;
    }

-- ---- answers

-- what is made of the contents that bytes are read as is made of the bytes
pub remade-read : {E : Type 0} (r : Result (Option (Vec ℕ Global)) E) (input : List ℕ) (c : Contents)
    (count : ℕ) → decoded_container input ≡ Ok c
    → IfOk r (λ o. IfSome o (λ out. IsRemade c count out.items))
    → IfOk r (λ o. IfSome o (λ out. IsRemadeOf input count out.items))
remade-read (Ok (Some out)) input c count had h = record { contents = c; had = had; remade = h }
remade-read (Ok None) input c count had h = tt
remade-read (Err e) input c count had h = tt

-- what is remade is kept
pub remade-kept : (o : Option (Vec ℕ Global)) (input : List ℕ) (count : ℕ)
    → IfSome o (λ out. IsRemadeOf input count out.items) → IfSome o (λ out. IsKeptOf input out.items)
remade-kept (Some out) input count h = (count, remade-is input out.items count h)
remade-kept None input count h = tt
