-- The same contents with another head. Contents whose policy is named by a number are of version 1,
-- which has no bound and no lemmas.
use Rattle.std.proofs.Common.{◌≡◌, ℕ, true, false, ◌+◌, ◌*◌, ◌≤◌, List, [], ◌∷◌, ◌++◌, map, length, Option, Some, None, refl, ap, ◌∙◌, subst, arith}
use Rattle.std.specs.Prelude.{sum_by}
use Rattle.std.specs.Option.{option_map}
use Rattle.term_table.specs.Tree.{Tree, Var, Con, App, Lam, Fam, TApp, Pi, Const, Num, Lit, Calc, Fact, Deny, Lemma}
use Rattle.term_table.specs.Table.{tree_at, id_trees}
use Rattle.lf_lemmas.specs.Tables.{lemmas_in}
use Rattle.policy_set.specs.Views.{PolicyView}
use Rattle.policy_set.specs.Digest.{digest_of}
use Rattle.proof_container.specs.declared.container.Container.{Container}
use Rattle.proof_container.specs.declared.container.View.{View}
use Rattle.proof_container.specs.declared.container.Head.{Head}
use Rattle.proof_container.specs.declared.container.Head.TheVariants.{Number, Digest}
use Rattle.proof_container.specs.declared.limits.TheConstants.{MAX_ENTRIES}
use Rattle.proof_container.specs.Versions.{IsVersion, IsHead, IsBoundOf, AreLemmasOf, lemmas_size}
use Rattle.proof_container.specs.Contents.{Contents, one_or_none, lemma_roots, roots}
use Rattle.proof_container.specs.Postorder.{entries}
use Rattle.proof_container.specs.Encoding.{IsEntryTerm, AreTerms, IsContents, field_bytes, policy_bytes, bound_fields, encoding_of}
use Rattle.proof_container.specs.Decoding.{entry_size}
use Rattle.proof_container.specs.Views.{AllTerms, IsWritable, contents_of, view_contents, Shows}
use Rattle.proof_container.proofs.FieldLaws.{length-field_bytes}
use Rattle.proof_container.proofs.Written.{length-encoding_of}
use Rattle.lf_signature.specs.Laws.Signatures.{numbered-version}
use Rattle.gate_upgrade.specs.declared.limits.TheConstants.{OLD_VERSION, NEW_VERSION}
use Rattle.gate_upgrade.specs.Upgrading.{with_digest}
use Rattle.pcc_gate.proofs.Digests.{digest-head}

-- the new version is built
two-built : IsVersion NEW_VERSION
two-built = (omega arith, omega arith)

-- ---- what version 1 has

-- contents whose policy is named by a number are of version 1
pub first-version : (c : Contents) (n : ℕ) → IsContents c → c.head ≡ Number n → c.version ≡ OLD_VERSION
first-version c n held is = numbered-version c.version (subst (λ (h : Head). IsHead c.version h) is held.head).0

none-bounded : (b : Option ℕ) → IsBoundOf OLD_VERSION b → b ≡ None
none-bounded None bounded = refl
none-bounded (Some n) bounded = let wrong : false ≡ true = bounded.0 in cc

-- and bound no steps
pub first-unbounded : (c : Contents) (n : ℕ) → IsContents c → c.head ≡ Number n → c.bound ≡ None
first-unbounded c n held is =
    none-bounded c.bound
    (subst (λ (v : ℕ). IsBoundOf v c.bound) (first-version c n held is) held.bound)

-- and has no lemmas
pub none-there : {A : Type 0} (lemmas : List A) → AreLemmasOf OLD_VERSION lemmas → lemmas ≡ []
none-there [] h = refl
none-there (l ∷ lemmas) h = let wrong : false ≡ true = h.0 in cc

pub first-lemmas : (c : Contents) (n : ℕ) → IsContents c → c.head ≡ Number n → c.lemmas ≡ []
first-lemmas c n held is =
    none-there c.lemmas
    (subst (λ (v : ℕ). AreLemmasOf v c.lemmas) (first-version c n held is) held.lemmas)

-- ---- terms of version 1

const-term : (v : ℕ) (c : Const) → IsEntryTerm OLD_VERSION (Con c) → IsEntryTerm v (Con c)
const-term v (Num n) h = tt
const-term v (Lit w) h = tt
const-term v (Calc o a b) h = tt
const-term v (Fact p a b) h = tt
const-term v (Deny p a b) h = tt
const-term v (Lemma n) h = let wrong : false ≡ true = h in cc

-- a term that cites no lemma may stand in a container of each version
entry-term : (v : ℕ) (t : Tree) → IsEntryTerm OLD_VERSION t → IsEntryTerm v t
entry-term v (Var n) h = tt
entry-term v (Con c) h = const-term v c h
entry-term v (App f a) h = (entry-term v f h.0, h.1, entry-term v a h.2)
entry-term v (Lam b) h = entry-term v b h
entry-term v (Fam a) h = absurd h
entry-term v (TApp p a) h = absurd h
entry-term v (Pi a b) h = absurd h

are-terms : (v : ℕ) (ts : List Tree) → AreTerms OLD_VERSION ts → AreTerms v ts
are-terms v [] h = tt
are-terms v (t ∷ ts) h = (entry-term v t h.0, h.1, are-terms v ts h.2)

pub all-terms : (v : ℕ) (ts : List Tree) → AllTerms OLD_VERSION ts → AllTerms v ts
all-terms v [] h = tt
all-terms v (t ∷ ts) h = (entry-term v t h.0, all-terms v ts h.1)

-- ---- the contents with the digest of a policy as head, in version 2

-- without lemmas these have the same roots
pub renamed-roots : (policy : PolicyView) (c : Contents) → c.lemmas ≡ []
    → roots c ≡ roots (with_digest policy c)
renamed-roots policy c none =
    ap
    (λ (l : List (Tree × Tree)). map (λ p. p.1) c.invs ++ (lemma_roots l ++ one_or_none c.proof))
    none

pub renamed-holds : (policy : PolicyView) (c : Contents) (n : ℕ) → IsContents c
    → c.head ≡ Number n → IsContents (with_digest policy c)
renamed-holds policy c n h is =
    let same : roots c ≡ roots (with_digest policy c) =
    renamed-roots policy c (first-lemmas c n h is) in
    let terms : AreTerms OLD_VERSION (roots c) =
    subst (λ (v : ℕ). AreTerms v (roots c)) (first-version c n h is) h.terms in
    record {
      version = two-built;
      head = digest-head policy NEW_VERSION refl;
      bound = refl;
      bytes = h.bytes;
      whole = h.whole;
      some = h.some;
      short = h.short;
      terms = subst (λ (ts : List Tree). AreTerms NEW_VERSION ts) same (are-terms NEW_VERSION (roots c) terms);
      entries = subst (λ (ts : List Tree). length (entries ts) ≤ MAX_ENTRIES) same h.entries;
      invs = h.invs;
      rising = h.rising;
      lemmas = tt;
    }

-- the encoding is as much longer as a digest is than a number
pub renamed-length : (policy : PolicyView) (c : Contents) (n : ℕ) → IsContents c
    → c.head ≡ Number n
    → length (encoding_of (with_digest policy c)) ≡ length (encoding_of c) + 28
renamed-length policy c n held is =
    let long : length (policy_bytes (Digest (digest_of policy))) ≡ 32 =
    (digest-head policy NEW_VERSION refl).1 in
    let unbounded : length (bound_fields c.bound) ≡ 0 =
    ap (λ (b : Option ℕ). length (bound_fields b)) (first-unbounded c n held is) in
    let few : length (policy_bytes c.head) ≡ length (field_bytes (n ∷ [])) =
    ap (λ (h : Head). length (policy_bytes h)) is in
    let none : lemmas_size c.version (length c.lemmas) ≡ 0 =
    ap (λ (v : ℕ). lemmas_size v (length c.lemmas)) (first-version c n held is) in
    let size : ℕ = sum_by entry_size (entries (roots c)) in
    let same : size ≡ sum_by entry_size (entries (roots (with_digest policy c))) =
    ap (λ (ts : List Tree). sum_by entry_size (entries ts))
    (renamed-roots policy c (first-lemmas c n held is)) in
    let before : length (encoding_of c)
    ≡ length (policy_bytes c.head) + 4 * length (bound_fields c.bound)
    + 4 * (6 + size + 2 * length c.invs + lemmas_size c.version (length c.lemmas)) + length c.code =
    length-encoding_of c in
    let after : length (encoding_of (with_digest policy c))
    ≡ length (policy_bytes (Digest (digest_of policy))) + 4 * 0
    + 4 * (6 + sum_by entry_size (entries (roots (with_digest policy c))) + 2 * length c.invs + 0)
    + length c.code =
    length-encoding_of (with_digest policy c) in
    omega (
      arith,
      long,
      few,
      unbounded,
      none,
      same,
      length-field_bytes (n ∷ []),
      before,
      after,
    )

-- ---- a view with the digest as head

-- a view that names its policy by a number is of version 1
view-first : (v : View) (n : ℕ) → IsWritable v → v.head ≡ Number n → v.version ≡ OLD_VERSION
view-first v n h is = numbered-version v.version (subst (λ (x : Head). IsHead v.version x) is h.head).0

-- what a view shows besides lemmas
abbrev bare_roots : View → List Tree
bare_roots v =
    map (λ p. p.1) (id_trees v.table.now v.invs.now)
    ++ one_or_none (option_map (tree_at v.table.now) v.proof)

view-roots : (v : View) (n : ℕ) → IsWritable v → v.head ≡ Number n
    → roots (view_contents v) ≡ bare_roots v
view-roots v n h is =
    let none : v.lemmas.now ≡ [] =
    none-there v.lemmas.now
    (subst (λ (x : ℕ). AreLemmasOf x v.lemmas.now) (view-first v n h is) h.lemmas) in
    ap
    (λ (l : List (ℕ × ℕ)). map (λ p. p.1) (id_trees v.table.now v.invs.now)
    ++ (lemma_roots (lemmas_in v.table.now l)
    ++ one_or_none (option_map (tree_at v.table.now) v.proof)))
    none

-- so what it shows is terms of version 2, and has no more entries
pub view-terms : (v : View) (n : ℕ) → IsWritable v → v.head ≡ Number n
    → AllTerms NEW_VERSION (bare_roots v)
view-terms v n h is =
    let first : AllTerms OLD_VERSION (roots (view_contents v)) =
    subst (λ (x : ℕ). AllTerms x (roots (view_contents v))) (view-first v n h is) h.terms in
    all-terms NEW_VERSION (bare_roots v)
    (subst (λ (ts : List Tree). AllTerms OLD_VERSION ts) (view-roots v n h is) first)

pub view-entries : (v : View) (n : ℕ) → IsWritable v → v.head ≡ Number n
    → length (entries (bare_roots v)) ≤ MAX_ENTRIES
view-entries v n h is =
    subst (λ (ts : List Tree). length (entries ts) ≤ MAX_ENTRIES) (view-roots v n h is) h.entries

-- what a view of the container shows, with the digest as head
pub shown-renamed : (c : Container) (v : View) (policy : PolicyView) (h : Head) → Shows c v
    → h ≡ Digest (digest_of policy) → (w : Contents)
    → w ≡ record {
      version = NEW_VERSION;
      head = h;
      bound = None;
      code = (view_contents v).code;
      invs = (view_contents v).invs;
      lemmas = [];
      proof = (view_contents v).proof;
    } → w ≡ with_digest policy (contents_of c)
shown-renamed c v policy h s is w shown = shown ∙ rw (s.code, s.table, s.invs, s.proof, is) refl
