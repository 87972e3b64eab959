-- The start and the end of a container, and its entries, invariants and lemmas with their counts.
use Rattle.term_table.specs.Steps.{◌>>=◌}
use Rattle.std.proofs.Common.{◌≡◌, ℕ, suc, ◌+◌, ◌*◌, ◌/◌, ◌<◌, ◌≤◌, true, false, cond, ltb, List, [], ◌∷◌, ◌++◌, length, drop, Option, Some, None, Result, Ok, refl, sym, ap, subst, ◌∙◌, append_assoc, length-append, inl, inr, arith}
use Rattle.std.specs.List.{flat_map}
use Rattle.std.proofs.lemmas.Bool.{ltb-false, le-ltb, cases_Bool}
use Rattle.term_table.specs.Tree.{Tree}
use Rattle.term_table.specs.Table.{AreDifferent}
use Rattle.proof_container.specs.declared.container.Head.{Head}
use Rattle.proof_container.specs.declared.container.Head.TheVariants.{Number, Digest}
use Rattle.proof_container.specs.declared.fault.Flaw.TheVariants.{Magic, Version, Count}
use Rattle.proof_container.specs.declared.limits.TheConstants.{MAX_BOUND, MAX_LEMMAS}
use Rattle.proof_container.specs.Versions.{is_numbered, is_bounded, has_lemmas, policy_size, bound_size, code_field, IsVersion, IsHead, IsBoundOf, AreLemmasOf}
use Rattle.proof_container.specs.Contents.{Contents, lemma_roots, roots}
use Rattle.proof_container.specs.Postorder.{entries, ArePostorder, AreEmitted}
use Rattle.term_table.specs.Bytes.{IsBytes}
use Rattle.proof_container.specs.Encoding.{field_bytes, entry_fields, lemma_fields, lemmas_fields, magic, policy_bytes, bound_fields, head_bytes, AreTerms}
use Rattle.proof_container.specs.Decoding.{Fault, field_at, exact_at, between_at, raw_at, policy_at, step_bound_at, Front, decoded_head, entries_at, decoded_entries, invs_at, decoded_invs, lemmas_at, decoded_lemmas, first_misplaced, unless_misplaced, decoded_end}
use Rattle.proof_container.proofs.Walks.{ArePostorder-different, misplaced_none}
use Rattle.proof_container.proofs.FieldLaws.{bind_ok, guard_ok, done, ok_is, field_takes, exact_takes, exact_again, between_takes, between_again, field_there, Stands, Stands-there, Stands-again, Stands-append, Stands-split, AreFields, AreFields-append, length-field_bytes, IsPiece, piece_then, fields_piece, behind_piece, IsRaw, raw_takes, raw_again}
use Rattle.proof_container.proofs.Sections.{entries_take, entries_again, AreInvs, invs_take, invs_again, lemmas_take, lemmas_again}
use Rattle.proof_container.proofs.LemmaIds.{few_lemmas, so_many_lemmas, no_lemmas}

-- ---- what names the policy, and the bound

-- what names the policy was read in this version
pub record IsNamed (bytes : List ℕ) (version : ℕ) (h : Head) : Type 0 where
  pub named : IsHead version h
  pub stands : IsPiece bytes 2 (policy_bytes h) (2 + policy_size version)

-- how it is read: a number is the next field, and a digest is raw
numbered_read : (bytes : List ℕ) (version : ℕ) → is_numbered version ≡ true
    → policy_at bytes version ≡ (field_at bytes 2 >>= (λ n. Ok (Number n)))
unfolding policy_at
numbered_read bytes version first =
    ap (λ b. cond b (field_at bytes 2 >>= (λ n. Ok (Number n)))
    (raw_at bytes 2 (policy_size version) >>= (λ d. Ok (Digest d)))) first

digest_size : (version : ℕ) → is_numbered version ≡ false → policy_size version ≡ 8
digest_size version later = ap (λ b. cond b 1 8) later

digest_read : (bytes : List ℕ) (version : ℕ) → is_numbered version ≡ false
    → policy_at bytes version ≡ (raw_at bytes 2 8 >>= (λ d. Ok (Digest d)))
unfolding policy_at
digest_read bytes version later =
    ap (λ b. cond b (field_at bytes 2 >>= (λ n. Ok (Number n)))
    (raw_at bytes 2 (policy_size version) >>= (λ d. Ok (Digest d)))) later
    ∙ ap (λ n. raw_at bytes 2 n >>= (λ d. Ok (Digest d))) (digest_size version later)

number_takes : (bytes : List ℕ) (version : ℕ) (h : Head) → IsBytes bytes
    → is_numbered version ≡ true → policy_at bytes version ≡ Ok h → IsNamed bytes version h
number_takes bytes version h fits first e =
    let n = bind_ok (field_at bytes 2) _ h (sym (numbered_read bytes version first) ∙ e) in
    let size : policy_size version ≡ 1 = ap (λ b. cond b 1 8) first in
    let made : IsNamed bytes version (Number n.0) = record {
      named = (first, (field_takes bytes 2 n.0 fits n.1).small);
      stands = subst (λ (k : ℕ). IsPiece bytes 2 (policy_bytes (Number n.0)) (2 + k)) (sym size)
          (fields_piece bytes 2 (n.0 ∷ []) fits (n.1, tt));
    } in
    subst (λ (x : Head). IsNamed bytes version x) (ok_is (Number n.0) h n.2) made

digest_takes : (bytes : List ℕ) (version : ℕ) (h : Head) → IsBytes bytes
    → is_numbered version ≡ false → policy_at bytes version ≡ Ok h → IsNamed bytes version h
digest_takes bytes version h fits later e =
    let d = bind_ok (raw_at bytes 2 8) _ h (sym (digest_read bytes version later) ∙ e) in
    let raw : IsRaw bytes 2 8 d.0 = raw_takes bytes 2 8 d.0 fits d.1 in
    let made : IsNamed bytes version (Digest d.0) = record {
      named = (later, raw.long, raw.fits);
      stands = subst (λ (n : ℕ). IsPiece bytes 2 d.0 (2 + n)) (sym (digest_size version later))
          raw.stands;
    } in
    subst (λ (x : Head). IsNamed bytes version x) (ok_is (Digest d.0) h d.2) made

pub policy_takes : (bytes : List ℕ) (version : ℕ) (h : Head) → IsBytes bytes
    → policy_at bytes version ≡ Ok h → IsNamed bytes version h
policy_takes bytes version h fits e =
    elim (cases_Bool (is_numbered version)) [
      | inl first ↦ number_takes bytes version h fits first e
      | inr later ↦ digest_takes bytes version h fits later e
    ]

pub policy_again : (bytes : List ℕ) (version : ℕ) (h : Head) (rest : List ℕ) → IsHead version h
    → drop (4 * 2) bytes ≡ policy_bytes h ++ rest → policy_at bytes version ≡ Ok h
policy_again bytes version (Number n) rest named e =
    let there : Stands bytes 2 (n ∷ []) = Stands-again bytes 2 (n ∷ []) rest e (named.1, tt) in
    numbered_read bytes version named.0 ∙ ap (λ r. r >>= (λ k. Ok (Number k))) there.0
policy_again bytes version (Digest d) rest named e =
    digest_read bytes version named.0
    ∙ ap (λ r. r >>= (λ x. Ok (Digest x))) (raw_again bytes 2 8 d rest e named.1 (omega arith))

pub length-policy : (version : ℕ) (h : Head) → IsHead version h
    → length (policy_bytes h) ≡ 4 * policy_size version
length-policy version (Number n) named = ap (λ b. 4 * cond b 1 8) (sym named.0)
length-policy version (Digest d) named = named.1 ∙ ap (λ b. 4 * cond b 1 8) (sym named.0)

-- the bound was read in this version
pub record IsBounded (bytes : List ℕ) (version : ℕ) (b : Option ℕ) : Type 0 where
  pub bounded : IsBoundOf version b
  pub small : AreFields (bound_fields b)
  pub stands : Stands bytes (2 + policy_size version) (bound_fields b)
  pub long : length (bound_fields b) ≡ bound_size version

-- no bound
abbrev no_steps : Option ℕ
no_steps = None

-- how it is read, if the version has one, and if it hasn't
bounded_read : (bytes : List ℕ) (version : ℕ) → is_bounded version ≡ true
    → step_bound_at bytes version
    ≡ (between_at bytes (2 + policy_size version) 1 MAX_BOUND Count >>= (λ n. Ok (Some n)))
unfolding step_bound_at
bounded_read bytes version bounded =
    ap (λ b. cond b (between_at bytes (2 + policy_size version) 1 MAX_BOUND Count >>= (λ n. Ok (Some n))) (Ok None))
    bounded

unbounded_read : (bytes : List ℕ) (version : ℕ) → is_bounded version ≡ false
    → step_bound_at bytes version ≡ done no_steps
unfolding step_bound_at
unbounded_read bytes version other =
    ap (λ b. cond b (between_at bytes (2 + policy_size version) 1 MAX_BOUND Count >>= (λ n. Ok (Some n))) (Ok None))
    other

no_bound : (bytes : List ℕ) (version : ℕ) (b : Option ℕ) → is_bounded version ≡ false
    → step_bound_at bytes version ≡ Ok b → IsBounded bytes version b
no_bound bytes version b other e =
    let size : bound_size version ≡ 0 = ap (λ x. cond x 1 0) other in
    let made : IsBounded bytes version None =
    record { bounded = other; small = tt; stands = tt; long = sym size } in
    subst (λ (x : Option ℕ). IsBounded bytes version x)
    (ok_is None b (sym (unbounded_read bytes version other) ∙ e)) made

-- it is one of the numbers that it may be
some_bound : (bytes : List ℕ) (version : ℕ) (b : Option ℕ) → is_bounded version ≡ true
    → step_bound_at bytes version ≡ Ok b → IsBounded bytes version b
some_bound bytes version b bounded e =
    let i : ℕ = 2 + policy_size version in
    let a = bind_ok (between_at bytes i 1 MAX_BOUND Count) _ b (sym (bounded_read bytes version bounded) ∙ e) in
    let n = between_takes bytes i 1 MAX_BOUND a.0 Count a.1 in
    let size : bound_size version ≡ 1 = ap (λ x. cond x 1 0) bounded in
    let made : IsBounded bytes version (Some a.0) = record {
      bounded = (bounded, n.1, n.2);
      small = (omega (arith, n.2), tt);
      stands = (n.0, tt);
      long = sym size;
    } in
    subst (λ (x : Option ℕ). IsBounded bytes version x) (ok_is (Some a.0) b a.2) made

pub bound_takes : (bytes : List ℕ) (version : ℕ) (b : Option ℕ)
    → step_bound_at bytes version ≡ Ok b → IsBounded bytes version b
bound_takes bytes version b e =
    elim (cases_Bool (is_bounded version)) [
      | inl bounded ↦ some_bound bytes version b bounded e
      | inr other ↦ no_bound bytes version b other e
    ]

pub bound_again : (bytes : List ℕ) (version : ℕ) (b : Option ℕ) → IsBoundOf version b
    → Stands bytes (2 + policy_size version) (bound_fields b) → step_bound_at bytes version ≡ Ok b
bound_again bytes version None bounded stands = unbounded_read bytes version bounded
bound_again bytes version (Some n) bounded stands =
    bounded_read bytes version bounded.0
    ∙ ap (λ r. r >>= (λ m. Ok (Some m)))
    (between_again bytes (2 + policy_size version) 1 MAX_BOUND n Count stands.0 bounded.1 bounded.2)

bound_small : (version : ℕ) (b : Option ℕ) → IsBoundOf version b → AreFields (bound_fields b)
bound_small version None bounded = tt
bound_small version (Some n) bounded = (omega (arith, bounded.2), tt)

pub length-bound : (version : ℕ) (b : Option ℕ) → IsBoundOf version b
    → length (bound_fields b) ≡ bound_size version
length-bound version None bounded = ap (λ x. cond x 1 0) (sym bounded)
length-bound version (Some n) bounded = ap (λ x. cond x 1 0) (sym bounded.0)

-- ---- what stands before the entries

-- the contents with this front
abbrev pub with_front : Front → List (ℕ × Tree) → List (Tree × Tree) → Option Tree → Contents
with_front f invs lemmas proof = record {
  version = f.version;
  head = f.head;
  bound = f.bound;
  code = f.code;
  invs = invs;
  lemmas = lemmas;
  proof = proof;
}

-- the front of the contents, whose count of entries is field next
abbrev pub front_with : Contents → ℕ → Front
front_with c next = record {
  version = c.version;
  head = c.head;
  bound = c.bound;
  code = c.code;
  next = next;
}

-- a front was read
pub record IsStart (bytes : List ℕ) (f : Front) : Type 0 where
  pub version : IsVersion f.version
  pub named : IsHead f.version f.head
  pub bounded : IsBoundOf f.version f.bound
  pub fits : IsBytes f.code
  pub whole : 4 * (length f.code / 4) ≡ length f.code
  pub some : 0 < length f.code
  pub short : length f.code ≤ 4 * 1024
  pub stands : IsPiece bytes 0
      (head_bytes (with_front f [] [] None) (length f.code / 4) ++ f.code) f.next

-- the fields before the policy, the policy, the bound, and how many words of code follow
head_stands : (bytes : List ℕ) (c : Contents) (words i : ℕ) → IsBytes bytes
    → Stands bytes 0 (magic ∷ c.version ∷ []) → IsPiece bytes 2 (policy_bytes c.head) i
    → Stands bytes i (bound_fields c.bound)
    → field_at bytes (i + length (bound_fields c.bound)) ≡ Ok words
    → IsPiece bytes 0 (head_bytes c words) (i + length (bound_fields c.bound) + 1)
head_stands bytes c words i fits first policy bound count =
    let n : ℕ = length (bound_fields c.bound) in
    let begin : List ℕ = field_bytes (magic ∷ c.version ∷ []) in
    let counts : List ℕ = bound_fields c.bound ++ words ∷ [] in
    let fields : Stands bytes i counts =
    Stands-append bytes i (i + n) (bound_fields c.bound) (words ∷ []) refl bound (count, tt) in
    let long : i + length counts ≡ i + n + 1 =
    omega (arith, length-append (bound_fields c.bound) (words ∷ [])) in
    let last : IsPiece bytes i (field_bytes counts) (i + n + 1) =
    subst (λ (k : ℕ). IsPiece bytes i (field_bytes counts) k) long
    (fields_piece bytes i counts fits fields) in
    let opening : IsPiece bytes 0 begin 2 =
    fields_piece bytes 0 (magic ∷ c.version ∷ []) fits first in
    piece_then bytes 0 2 2 (i + n + 1) begin (policy_bytes c.head ++ field_bytes counts) refl opening
    (piece_then bytes 2 i i (i + n + 1) (policy_bytes c.head) (field_bytes counts) refl policy last)

pub start_takes : (bytes : List ℕ) (f : Front) → IsBytes bytes → decoded_head bytes ≡ Ok f
    → IsStart bytes f
unfolding decoded_head
start_takes bytes f fits e =
    let a = bind_ok (exact_at bytes 0 magic Magic) _ f e in
    let b = bind_ok (between_at bytes 1 1 4 Version) _ f a.2 in
    let c = bind_ok (policy_at bytes b.0) _ f b.2 in
    let n = bind_ok (step_bound_at bytes b.0) _ f c.2 in
    let third : ℕ = 2 + policy_size b.0 in
    let fourth : ℕ = third + bound_size b.0 in
    let d = bind_ok (between_at bytes fourth 1 1024 Count) _ f n.2 in
    let r = bind_ok (raw_at bytes (code_field b.0) d.0) _ f d.2 in
    let version = between_takes bytes 1 1 4 b.0 Version b.1 in
    let policy : IsNamed bytes b.0 c.0 = policy_takes bytes b.0 c.0 fits c.1 in
    let bound : IsBounded bytes b.0 n.0 = bound_takes bytes b.0 n.0 n.1 in
    let words = between_takes bytes fourth 1 1024 d.0 Count d.1 in
    let raw : IsRaw bytes (code_field b.0) d.0 r.0 =
    raw_takes bytes (code_field b.0) d.0 r.0 fits r.1 in
    let count : d.0 ≡ length r.0 / 4 = omega (arith, raw.long) in
    let read : Front = record {
      version = b.0;
      head = c.0;
      bound = n.0;
      code = r.0;
      next = code_field b.0 + d.0;
    } in
    let held : Contents = with_front read [] [] None in
    let size : ℕ = length (bound_fields n.0) in
    let counted : field_at bytes (third + size) ≡ Ok d.0 =
    field_there bytes fourth (third + size) d.0 (omega (arith, bound.long)) words.0 in
    let opening : Stands bytes 0 (magic ∷ b.0 ∷ []) =
    (exact_takes bytes 0 magic a.0 Magic a.1, (version.0, tt)) in
    let front : IsPiece bytes 0 (head_bytes held d.0) (third + size + 1) =
    head_stands bytes held d.0 third fits opening policy.stands bound.stands counted in
    let all : IsPiece bytes 0 (head_bytes held d.0 ++ r.0) (code_field b.0 + d.0) =
    piece_then bytes 0 (third + size + 1) (code_field b.0) (code_field b.0 + d.0)
    (head_bytes held d.0) r.0 (omega (arith, bound.long)) front raw.stands in
    let made : IsStart bytes read = record {
      version = (version.1, version.2);
      named = policy.named;
      bounded = bound.bounded;
      fits = raw.fits;
      whole = omega (arith, raw.long);
      some = omega (arith, raw.long, words.1);
      short = omega (arith, raw.long, words.2);
      stands =
          subst (λ (k : ℕ). IsPiece bytes 0 (head_bytes held k ++ r.0) (code_field b.0 + d.0))
          count all;
    } in
    subst (λ (x : Front). IsStart bytes x) (ok_is read f r.2) made

-- what was read of the same bytes, at the same field
pub read_there : {A : Type 0} (f : List ℕ → ℕ → Result A Fault) (b bytes : List ℕ) (j i : ℕ) (x : A)
    → b ≡ bytes → j ≡ i → f b j ≡ Ok x → f bytes i ≡ Ok x
read_there f b bytes j i x same place e =
    sym (ap (λ (k : ℕ). f bytes k) place) ∙ (sym (ap (λ (z : List ℕ). f z j) same) ∙ e)

-- the parts before the entries, one after the other
pub start_read : (bytes : List ℕ) (first words : ℕ) (f : Front)
    → exact_at bytes 0 magic Magic ≡ Ok first → between_at bytes 1 1 4 Version ≡ Ok f.version
    → policy_at bytes f.version ≡ Ok f.head → step_bound_at bytes f.version ≡ Ok f.bound
    → between_at bytes (2 + policy_size f.version + bound_size f.version) 1 1024 Count ≡ Ok words
    → raw_at bytes (code_field f.version) words ≡ Ok f.code
    → f.next ≡ code_field f.version + words → decoded_head bytes ≡ Ok f
unfolding decoded_head
start_read bytes first words f a b c d n e place =
    let at : ℕ → Front = front_with (with_front f [] [] None) in
    let read : decoded_head bytes ≡ Ok (at (code_field f.version + words)) =
    rw (a, b, c, d, n, e) refl in
    read ∙ ap (λ (k : ℕ). done (at k)) (sym place)

-- the front of the contents, with n words of code, is read, and the rest is left
pub record IsBegun (bytes : List ℕ) (c : Contents) (n : ℕ) (rest : List ℕ) : Type 0 where
  pub read : decoded_head bytes ≡ Ok (front_with c (code_field c.version + n))
  pub left : drop (4 * (code_field c.version + n)) bytes ≡ rest

-- the bound and the count of words stand behind the policy, and the rest behind them
counts_again : (bytes : List ℕ) (i words : ℕ) (b : Option ℕ) (rest : List ℕ)
    → AreFields (bound_fields b) → words ≤ 1024
    → drop (4 * i) bytes ≡ field_bytes (bound_fields b ++ words ∷ []) ++ rest
    → Stands bytes i (bound_fields b) × (field_at bytes (i + length (bound_fields b)) ≡ Ok words)
    × (drop (4 * (i + (length (bound_fields b) + 1))) bytes ≡ rest)
counts_again bytes i words b rest small short e =
    let n : ℕ = length (bound_fields b) in
    let counts : List ℕ = bound_fields b ++ words ∷ [] in
    let all : Stands bytes i counts =
    Stands-again bytes i counts rest e
    (AreFields-append (bound_fields b) (words ∷ []) small (omega (arith, short), tt)) in
    let both = Stands-split bytes i (i + n) (bound_fields b) (words ∷ []) refl all in
    let long : length (field_bytes counts) ≡ 4 * (n + 1) =
    omega (arith, length-field_bytes counts, length-append (bound_fields b) (words ∷ [])) in
    (both.0, both.1.0, behind_piece bytes i (n + 1) (field_bytes counts) rest e long)

pub start_again : (bytes : List ℕ) (c : Contents) (words : ℕ) (rest : List ℕ)
    → IsVersion c.version → IsHead c.version c.head → IsBoundOf c.version c.bound
    → length c.code ≡ 4 * words → 1 ≤ words → words ≤ 1024
    → bytes ≡ head_bytes c words ++ (c.code ++ rest) → IsBegun bytes c words rest
unfolding decoded_head
start_again bytes c words rest known named bounded long some short e =
    let v : ℕ = c.version in
    let i : ℕ = 2 + policy_size v in
    let n : ℕ = length (bound_fields c.bound) in
    let front : List ℕ = field_bytes (magic ∷ v ∷ []) in
    let counts : List ℕ = field_bytes (bound_fields c.bound ++ words ∷ []) in
    let behind : List ℕ = policy_bytes c.head ++ (counts ++ (c.code ++ rest)) in
    let at_front : bytes ≡ front ++ behind =
    e ∙ append_assoc front (policy_bytes c.head ++ counts) (c.code ++ rest)
    ∙ ap (λ (x : List ℕ). front ++ x) (append_assoc (policy_bytes c.head) counts (c.code ++ rest)) in
    let first : Stands bytes 0 (magic ∷ v ∷ []) =
    Stands-again bytes 0 (magic ∷ v ∷ []) behind at_front
    (omega arith, (omega (arith, known.1), tt)) in
    let at_policy : drop (4 * 2) bytes ≡ behind =
    behind_piece bytes 0 2 front behind at_front refl in
    let at_counts : drop (4 * i) bytes ≡ counts ++ (c.code ++ rest) =
    behind_piece bytes 2 (policy_size v) (policy_bytes c.head) (counts ++ (c.code ++ rest)) at_policy
    (length-policy v c.head named) in
    let both = counts_again bytes i words c.bound (c.code ++ rest)
    (bound_small v c.bound bounded) short at_counts in
    let size : n ≡ bound_size v = length-bound v c.bound bounded in
    let at_code : drop (4 * code_field v) bytes ≡ c.code ++ rest =
    subst (λ (k : ℕ). drop (4 * k) bytes ≡ c.code ++ rest) (omega (arith, size)) both.2 in
    let magic_is : exact_at bytes 0 magic Magic ≡ Ok magic =
    exact_again bytes 0 magic Magic first.0 in
    let version_is : between_at bytes 1 1 4 Version ≡ Ok v =
    between_again bytes 1 1 4 v Version first.1.0 known.0 known.1 in
    let policy_is : policy_at bytes v ≡ Ok c.head =
    policy_again bytes v c.head (counts ++ (c.code ++ rest)) named at_policy in
    let bound_is : step_bound_at bytes v ≡ Ok c.bound =
    bound_again bytes v c.bound bounded both.0 in
    let words_there : field_at bytes (i + bound_size v) ≡ Ok words =
    field_there bytes (i + n) (i + bound_size v) words (omega (arith, size)) both.1 in
    let words_are : between_at bytes (i + bound_size v) 1 1024 Count ≡ Ok words =
    between_again bytes (i + bound_size v) 1 1024 words Count words_there some short in
    let code_is : raw_at bytes (code_field v) words ≡ Ok c.code =
    raw_again bytes (code_field v) words c.code rest at_code long some in
    record {
      read = start_read bytes magic words (front_with c (code_field v + words))
          magic_is version_is policy_is bound_is words_are code_is refl;
      left = behind_piece bytes (code_field v) words c.code rest at_code long;
    }

-- ---- entries, invariants and lemmas with their counts

-- the entries es are read in this version from field i on, up to the field before next
pub record AreEntries (v : ℕ) (bytes : List ℕ) (i : ℕ) (es : List Tree) (next : ℕ) : Type 0 where
  pub extends : ArePostorder [] es
  pub terms : AreTerms v es
  pub few : length es ≤ 262144
  pub stands : Stands bytes i (length es ∷ flat_map (entry_fields es) es)
  pub behind : next ≡ i + length (length es ∷ flat_map (entry_fields es) es)

pub entries_read_takes : (v : ℕ) (bytes : List ℕ) (i : ℕ) (es : List Tree) (next : ℕ) → IsBytes bytes
    → decoded_entries v bytes i ≡ Ok (es, next) → AreEntries v bytes i es next
unfolding decoded_entries
entries_read_takes v bytes i es next fits e =
    let a = bind_ok (between_at bytes i 0 262144 Count) _ (es, next) e in
    let n = between_takes bytes i 0 262144 a.0 Count a.1 in
    let b = entries_take v a.0 bytes (i + 1) [] (es, next) fits tt tt a.2 in
    let us : List Tree = b.0 in
    let is : us ≡ es = sym b.1.all in
    let count : field_at bytes i ≡ Ok (length us) = n.0 ∙ ap Ok (sym b.1.count) in
    let others : Stands bytes (suc i) (flat_map (entry_fields us) us) =
    Stands-there bytes (i + 1) (suc i) (flat_map (entry_fields us) us) (omega arith)
    b.1.stands in
    let made : AreEntries v bytes i us next = record {
      extends = b.1.extends;
      terms = b.1.terms;
      few = omega (arith, n.2, b.1.count);
      stands = (count, others);
      behind = omega (arith, b.1.next);
    } in
    subst (λ (x : List Tree). AreEntries v bytes i x next) is made

pub entries_read_again : (v : ℕ) (bytes : List ℕ) (i : ℕ) (es : List Tree) (next : ℕ)
    → AreEntries v bytes i es next → decoded_entries v bytes i ≡ Ok (es, next)
unfolding decoded_entries
entries_read_again v bytes i es next p =
    let count : between_at bytes i 0 262144 Count ≡ Ok (length es) =
    between_again bytes i 0 262144 (length es) Count p.stands.0 (omega arith) p.few in
    let there : Stands bytes (i + 1) (flat_map (entry_fields es) es) =
    Stands-there bytes (suc i) (i + 1) (flat_map (entry_fields es) es) (omega arith)
    p.stands.1 in
    let size : ℕ = length (flat_map (entry_fields es) es) in
    let others : entries_at v (length es) bytes (i + 1) [] ≡ Ok (es, i + 1 + size) =
    entries_again v es bytes (i + 1) [] p.extends p.terms there in
    let behind : i + 1 + size ≡ next = omega (arith, p.behind) in
    rw (count, others, behind) refl

pub invs_read_takes : (bytes : List ℕ) (i : ℕ) (es : List Tree) (words : ℕ) (invs : List (ℕ × Tree)) → ArePostorder [] es → decoded_invs bytes i es words ≡ Ok invs → (length invs ≤ 256) × (field_at bytes i ≡ Ok (length invs)) × AreInvs bytes (suc i) es words 0 invs
unfolding decoded_invs
invs_read_takes bytes i es words invs extends e =
    let a = bind_ok (between_at bytes i 0 256 Count) _ invs e in
    let n = between_takes bytes i 0 256 a.0 Count a.1 in
    let b = invs_take a.0 bytes (i + 1) es words 0 [] invs (ArePostorder-different es extends) a.2 in
    let next : i + 1 ≡ suc i = omega arith in
    let made : (length b.0 ≤ 256) × (field_at bytes i ≡ Ok (length b.0)) × AreInvs bytes (suc i) es words 0 b.0 = (omega (arith, n.2, b.2), n.0 ∙ ap Ok (sym b.2), subst (λ (k : ℕ). AreInvs bytes k es words 0 b.0) next b.3) in
    subst (λ (x : List (ℕ × Tree)). (length x ≤ 256) × (field_at bytes i ≡ Ok (length x)) × AreInvs bytes (suc i) es words 0 x) (sym b.1) made

pub invs_read_again : (bytes : List ℕ) (i : ℕ) (es : List Tree) (words : ℕ) (invs : List (ℕ × Tree)) → length invs ≤ 256 → field_at bytes i ≡ Ok (length invs) → AreInvs bytes (suc i) es words 0 invs → decoded_invs bytes i es words ≡ Ok invs
unfolding decoded_invs
invs_read_again bytes i es words invs few e p =
    let count : between_at bytes i 0 256 Count ≡ Ok (length invs) =
    between_again bytes i 0 256 (length invs) Count e (omega arith) few in
    let next : suc i ≡ i + 1 = omega arith in
    let others : invs_at (length invs) bytes (i + 1) es words 0 [] ≡ Ok invs = invs_again invs bytes (i + 1) es words 0 [] (subst (λ (k : ℕ). AreInvs bytes k es words 0 invs) next p) in
    rw (count, others) refl

-- the lemmas that were read in this version from field i on, where it has some
pub record LemmasRead (v : ℕ) (bytes : List ℕ) (i : ℕ) (es : List Tree) (lemmas : List (Tree × Tree))
    : Type 0 where
  pub of_version : AreLemmasOf v lemmas
  pub stands : Stands bytes i (lemmas_fields v es lemmas)
  pub listed : AreEmitted es (lemma_roots lemmas)

-- how they are read, if the version has some, and if it hasn't
some_read : (v : ℕ) (bytes : List ℕ) (i : ℕ) (es : List Tree) → has_lemmas v ≡ true
    → decoded_lemmas v bytes i es
    ≡ (between_at bytes i 0 MAX_LEMMAS Count >>= (λ count. lemmas_at count bytes (i + 1) es []))
unfolding decoded_lemmas
some_read v bytes i es has =
    ap (λ b. cond b (between_at bytes i 0 MAX_LEMMAS Count >>= (λ count. lemmas_at count bytes (i + 1) es [])) (Ok []))
    has

-- no lemmas
abbrev none_at_all : List (Tree × Tree)
none_at_all = []

none_decoded : (v : ℕ) (bytes : List ℕ) (i : ℕ) (es : List Tree) → has_lemmas v ≡ false
    → decoded_lemmas v bytes i es ≡ done none_at_all
unfolding decoded_lemmas
none_decoded v bytes i es other =
    ap (λ b. cond b (between_at bytes i 0 MAX_LEMMAS Count >>= (λ count. lemmas_at count bytes (i + 1) es [])) (Ok []))
    other

some_fields : (v : ℕ) (es : List Tree) (lemmas : List (Tree × Tree)) → has_lemmas v ≡ true
    → lemmas_fields v es lemmas ≡ length lemmas ∷ flat_map (lemma_fields es) lemmas
some_fields v es lemmas has = ap (λ b. cond b (length lemmas ∷ flat_map (lemma_fields es) lemmas) []) has

lemmas_some : (v : ℕ) (bytes : List ℕ) (i : ℕ) (es : List Tree) (lemmas : List (Tree × Tree))
    → has_lemmas v ≡ true → AreDifferent es → decoded_lemmas v bytes i es ≡ Ok lemmas
    → LemmasRead v bytes i es lemmas
lemmas_some v bytes i es lemmas has different e =
    let a = bind_ok (between_at bytes i 0 MAX_LEMMAS Count) _ lemmas (sym (some_read v bytes i es has) ∙ e) in
    let n = between_takes bytes i 0 MAX_LEMMAS a.0 Count a.1 in
    let b = lemmas_take a.0 bytes (i + 1) es [] lemmas different a.2 in
    let there : Stands bytes (suc i) (flat_map (lemma_fields es) b.0) =
    Stands-there bytes (i + 1) (suc i) (flat_map (lemma_fields es) b.0) (omega arith) b.3.stands in
    let made : LemmasRead v bytes i es b.0 = record {
      of_version = so_many_lemmas v b.0 has (omega (arith, n.2, b.2));
      stands = subst (λ (fs : List ℕ). Stands bytes i fs) (sym (some_fields v es b.0 has))
          (n.0 ∙ ap Ok (sym b.2), there);
      listed = b.3.listed;
    } in
    subst (λ (x : List (Tree × Tree)). LemmasRead v bytes i es x) (sym b.1) made

lemmas_none : (v : ℕ) (bytes : List ℕ) (i : ℕ) (es : List Tree) (lemmas : List (Tree × Tree))
    → has_lemmas v ≡ false → decoded_lemmas v bytes i es ≡ Ok lemmas
    → LemmasRead v bytes i es lemmas
lemmas_none v bytes i es lemmas other e =
    let none : List (Tree × Tree) = [] in
    let empty : lemmas_fields v es none ≡ [] =
    ap (λ b. cond b (length none ∷ flat_map (lemma_fields es) none) []) other in
    let made : LemmasRead v bytes i es none = record {
      of_version = tt;
      stands = subst (λ (fs : List ℕ). Stands bytes i fs) (sym empty) tt;
      listed = tt;
    } in
    subst (λ (x : List (Tree × Tree)). LemmasRead v bytes i es x)
    (ok_is none lemmas (sym (none_decoded v bytes i es other) ∙ e)) made

pub lemmas_read_takes : (v : ℕ) (bytes : List ℕ) (i : ℕ) (es : List Tree)
    (lemmas : List (Tree × Tree)) → AreDifferent es → decoded_lemmas v bytes i es ≡ Ok lemmas
    → LemmasRead v bytes i es lemmas
lemmas_read_takes v bytes i es lemmas different e =
    elim (cases_Bool (has_lemmas v)) [
      | inl has ↦ lemmas_some v bytes i es lemmas has different e
      | inr other ↦ lemmas_none v bytes i es lemmas other e
    ]

some_again : (v : ℕ) (bytes : List ℕ) (i : ℕ) (es : List Tree) (lemmas : List (Tree × Tree))
    → has_lemmas v ≡ true → LemmasRead v bytes i es lemmas
    → decoded_lemmas v bytes i es ≡ Ok lemmas
some_again v bytes i es lemmas has p =
    let stands : Stands bytes i (length lemmas ∷ flat_map (lemma_fields es) lemmas) =
    subst (λ (fs : List ℕ). Stands bytes i fs) (some_fields v es lemmas has) p.stands in
    let count : between_at bytes i 0 MAX_LEMMAS Count ≡ Ok (length lemmas) =
    between_again bytes i 0 MAX_LEMMAS (length lemmas) Count stands.0 (omega arith)
    (few_lemmas v lemmas p.of_version) in
    let there : Stands bytes (i + 1) (flat_map (lemma_fields es) lemmas) =
    Stands-there bytes (suc i) (i + 1) (flat_map (lemma_fields es) lemmas) (omega arith)
    stands.1 in
    let others : lemmas_at (length lemmas) bytes (i + 1) es [] ≡ Ok lemmas =
    lemmas_again lemmas bytes (i + 1) es [] (record { stands = there; listed = p.listed }) in
    some_read v bytes i es has
    ∙ ap (λ r. r >>= (λ n. lemmas_at n bytes (i + 1) es [])) count ∙ others

none_again : (v : ℕ) (bytes : List ℕ) (i : ℕ) (es : List Tree) (lemmas : List (Tree × Tree))
    → has_lemmas v ≡ false → LemmasRead v bytes i es lemmas
    → decoded_lemmas v bytes i es ≡ Ok lemmas
none_again v bytes i es lemmas other p =
    none_decoded v bytes i es other ∙ ap done (sym (no_lemmas v lemmas other p.of_version))

pub lemmas_read_again : (v : ℕ) (bytes : List ℕ) (i : ℕ) (es : List Tree)
    (lemmas : List (Tree × Tree)) → LemmasRead v bytes i es lemmas
    → decoded_lemmas v bytes i es ≡ Ok lemmas
lemmas_read_again v bytes i es lemmas p =
    elim (cases_Bool (has_lemmas v)) [
      | inl has ↦ some_again v bytes i es lemmas has p
      | inr other ↦ none_again v bytes i es lemmas other p
    ]

-- ---- the end

ordered_ok : (i : ℕ) (es : List Tree) (c d : Contents) (misplaced : Option ℕ)
    → unless_misplaced i es c misplaced ≡ Ok d → (misplaced ≡ None) × (c ≡ d)
ordered_ok i es c d None e = (refl, ok_is c d e)
ordered_ok i es c d (Some n) e = absurd cc

pub end_takes : (bytes : List ℕ) (last i : ℕ) (es : List Tree) (c d : Contents)
    → decoded_end bytes last i es c ≡ Ok d
    → (length bytes ≤ 4 * last) × (first_misplaced es (entries (roots c)) ≡ None) × (c ≡ d)
unfolding decoded_end
end_takes bytes last i es c d e =
    let g = guard_ok (ltb (4 * last) (length bytes)) _ _ d e in
    let o = ordered_ok i es c d (first_misplaced es (entries (roots c))) g.1 in
    (ltb-false _ _ g.0, o.0, o.1)

pub end_again : (bytes : List ℕ) (last i : ℕ) (es : List Tree) (c : Contents)
    → length bytes ≤ 4 * last → es ≡ entries (roots c) → decoded_end bytes last i es c ≡ Ok c
unfolding decoded_end
end_again bytes last i es c ended same =
    let none_left : ltb (4 * last) (length bytes) ≡ false = le-ltb _ _ ended in
    let in_order : first_misplaced es (entries (roots c)) ≡ None = ap (first_misplaced es) (sym same) ∙ misplaced_none es in
    rw (none_left, in_order) refl
