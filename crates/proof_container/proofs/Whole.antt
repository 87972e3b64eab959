-- The two laws: what is read as a container is encoded so, and what is encoded so is read.
use Rattle.std.proofs.Common.{◌≡◌, ℕ, ◌+◌, ◌*◌, ◌/◌, ◌<◌, ◌≤◌, List, [], ◌∷◌, ◌++◌, length, take, drop, Option, None, Ok, Err, refl, sym, ap, subst, ◌∙◌, append_assoc, append-nil, length-append, length-drop, take_all, arith}
use Rattle.std.specs.List.{flat_map}
use Rattle.term_table.specs.Tree.{Tree}
use Rattle.term_table.specs.Table.{AreDifferent}
use Rattle.proof_container.specs.Versions.{code_field, AreLemmasOf}
use Rattle.proof_container.specs.Contents.{Contents, one_or_none, lemma_roots, roots}
use Rattle.proof_container.specs.Postorder.{entries, ArePostorder, AreEmitted}
use Rattle.term_table.specs.Bytes.{IsBytes}
use Rattle.proof_container.specs.Encoding.{field_bytes, entry_fields, inv_fields, lemmas_fields, proof_field, head_bytes, tail_fields, encoding_of, AreRising, AreTerms, IsContents, EncodesContents}
use Rattle.proof_container.specs.Decoding.{Fault, Front, decoded_head, decoded_entries, decoded_invs, decoded_lemmas, proof_place, decoded_proof, first_misplaced, decoded_end, decoded_container}
use Rattle.proof_container.proofs.Walks.{entries_grow, entries_listed, entries_terms, ArePostorder-different, ordered_is}
use Rattle.proof_container.proofs.FieldLaws.{bind_ok, ok_is, Stands, Stands-append, Stands-split, Stands-takes, Stands-again, length-field_bytes}
use Rattle.proof_container.proofs.EntryLaws.{AreTerms-listed}
use Rattle.proof_container.proofs.Sections.{inv_trees_of, length-invs, length-lemmas, proof_takes, proof_again}
use Rattle.proof_container.proofs.Counted.{with_front, front_with, IsStart, start_takes, IsBegun, start_again, AreEntries, entries_read_takes, entries_read_again, invs_read_takes, invs_read_again, LemmasRead, lemmas_read_takes, lemmas_read_again, end_takes, end_again}
use Rattle.proof_container.proofs.Small.{AreEmitted-split, AreEmitted-append, words_short, tail_small}

-- ---- what is read is encoded so

-- the parts of a container as they are read: field i is the count of entries, which are es
pub record IsParsed (bytes : List ℕ) (i : ℕ) (es : List Tree) (c : Contents) : Type 0 where
  pub start : IsStart bytes (front_with c i)
  pub extends : ArePostorder [] es
  pub terms : AreTerms c.version es
  pub few : length es ≤ 262144
  pub few_invs : length c.invs ≤ 256
  pub rising : AreRising 0 (length c.code / 4) c.invs
  pub lemmas : AreLemmasOf c.version c.lemmas
  pub listed : AreEmitted es (roots c)
  pub tail : Stands bytes i (tail_fields es c)
  pub ended : length bytes ≤ 4 * (i + length (tail_fields es c))
  pub ordered : first_misplaced es (entries (roots c)) ≡ None

AreTerms-roots : (v : ℕ) (es rs : List Tree) → AreTerms v es → AreEmitted es rs → AreTerms v rs
AreTerms-roots v es [] terms listed = tt
AreTerms-roots v es (r ∷ rs) terms listed =
    let first = AreTerms-listed v es r terms listed.0 in
    (first.0, first.1, AreTerms-roots v es rs terms listed.1)

parsed_contents : (bytes : List ℕ) (i : ℕ) (es : List Tree) (c : Contents) → IsParsed bytes i es c
    → es ≡ entries (roots c) → IsContents c
parsed_contents bytes i es c p same = record {
  version = p.start.version;
  head = p.start.named;
  bound = p.start.bounded;
  bytes = p.start.fits;
  whole = p.start.whole;
  some = p.start.some;
  short = p.start.short;
  terms = AreTerms-roots c.version es (roots c) p.terms p.listed;
  entries = subst (λ (ts : List Tree). length ts ≤ 262144) same p.few;
  invs = p.few_invs;
  rising = p.rising;
  lemmas = p.lemmas;
}

parsed_spelling : (bytes : List ℕ) (i : ℕ) (es : List Tree) (c : Contents) → IsBytes bytes
    → IsParsed bytes i es c → es ≡ entries (roots c) → bytes ≡ encoding_of c
unfolding encoding_of
parsed_spelling bytes i es c fits p same =
    let front : List ℕ = head_bytes c (length c.code / 4) in
    let tail : List ℕ = tail_fields es c in
    let whole : bytes ≡ (front ++ c.code) ++ drop (4 * i) bytes = p.start.stands in
    let left : length (drop (4 * i) bytes) ≤ 4 * length tail =
    omega (arith, p.ended, length-drop (4 * i) bytes) in
    let all : take (4 * length tail) (drop (4 * i) bytes) ≡ drop (4 * i) bytes =
    take_all (4 * length tail) (drop (4 * i) bytes) left in
    let last : drop (4 * i) bytes ≡ field_bytes tail =
    sym all ∙ (Stands-takes bytes i tail fits p.tail).encoded in
    let behind : drop (4 * i) bytes ≡ field_bytes (tail_fields (entries (roots c)) c) =
    last ∙ ap (λ (ts : List Tree). field_bytes (tail_fields ts c)) same in
    whole ∙ append_assoc front c.code (drop (4 * i) bytes)
    ∙ ap (λ (x : List ℕ). front ++ (c.code ++ x)) behind

pub parsed_order : (bytes : List ℕ) (i : ℕ) (es : List Tree) (c : Contents) → IsParsed bytes i es c
    → es ≡ entries (roots c)
parsed_order bytes i es c p = ordered_is es (roots c) p.extends p.listed p.ordered

pub parsed_spells : (bytes : List ℕ) (i : ℕ) (es : List Tree) (c : Contents) → IsBytes bytes
    → IsParsed bytes i es c → EncodesContents bytes c
parsed_spells bytes i es c fits p =
    let same : es ≡ entries (roots c) = parsed_order bytes i es c p in
    record {
      contents = parsed_contents bytes i es c p same;
      encoded = parsed_spelling bytes i es c fits p same;
    }

-- how far the four parts behind the code reach
tail_ends : (i next at_lemmas at_proof : ℕ) (es invs lemmas proof : List ℕ) → next ≡ i + length es
    → at_lemmas ≡ next + length invs → at_proof ≡ at_lemmas + length lemmas → length proof ≡ 1
    → i + length (es ++ (invs ++ (lemmas ++ proof))) ≡ at_proof + 1
tail_ends i next at_lemmas at_proof es invs lemmas proof a b c d =
    omega (
      arith,
      a,
      b,
      c,
      d,
      length-append es (invs ++ (lemmas ++ proof)),
      length-append invs (lemmas ++ proof),
      length-append lemmas proof,
    )

-- the parts that were read, one after the other
pub parts_parsed : (bytes : List ℕ) (f : Front) (es : List Tree) (next : ℕ)
    (invs : List (ℕ × Tree)) (lemmas : List (Tree × Tree)) (proof : Option Tree) (c : Contents)
    → IsBytes bytes → decoded_head bytes ≡ Ok f → decoded_entries f.version bytes f.next ≡ Ok (es, next)
    → decoded_invs bytes next es (length f.code / 4) ≡ Ok invs
    → decoded_lemmas f.version bytes (next + 1 + 2 * length invs) es ≡ Ok lemmas
    → decoded_proof bytes (proof_place f.version next (length invs) (length lemmas)) es ≡ Ok proof
    → decoded_end bytes (proof_place f.version next (length invs) (length lemmas) + 1) f.next es
    (with_front f invs lemmas proof) ≡ Ok c
    → IsParsed bytes f.next es c
parts_parsed bytes f es next invs lemmas proof c fits head_is entries_are invs_are lemmas_are proof_is
    end_is =
    let i : ℕ = f.next in
    let v : ℕ = f.version in
    let code : List ℕ = f.code in
    let at_lemmas : ℕ = next + 1 + 2 * length invs in
    let at_proof : ℕ = proof_place v next (length invs) (length lemmas) in
    let start : IsStart bytes f = start_takes bytes f fits head_is in
    let all : AreEntries v bytes i es next = entries_read_takes v bytes i es next fits entries_are in
    let different : AreDifferent es = ArePostorder-different es all.extends in
    let n = invs_read_takes bytes next es (length code / 4) invs all.extends invs_are in
    let l : LemmasRead v bytes at_lemmas es lemmas =
    lemmas_read_takes v bytes at_lemmas es lemmas different lemmas_are in
    let p = proof_takes bytes at_proof es proof different proof_is in
    let of_entries : List ℕ = length es ∷ flat_map (entry_fields es) es in
    let of_invs : List ℕ = length invs ∷ flat_map (inv_fields es) invs in
    let of_lemmas : List ℕ = lemmas_fields v es lemmas in
    let of_proof : List ℕ = proof_field es proof ∷ [] in
    let size : length (flat_map (inv_fields es) invs) ≡ 2 * length invs = length-invs es invs in
    let behind_invs : at_lemmas ≡ next + length of_invs = omega (arith, size) in
    let behind_lemmas : at_proof ≡ at_lemmas + length of_lemmas =
    ap (λ (k : ℕ). at_lemmas + k) (sym (length-lemmas v es lemmas)) in
    let last : Stands bytes at_lemmas (of_lemmas ++ of_proof) =
    Stands-append bytes at_lemmas at_proof of_lemmas of_proof behind_lemmas l.stands (p.0, tt) in
    let behind : Stands bytes next (of_invs ++ (of_lemmas ++ of_proof)) =
    Stands-append bytes next at_lemmas of_invs (of_lemmas ++ of_proof) behind_invs
    (n.1, n.2.stands) last in
    let made : Contents = with_front f invs lemmas proof in
    let tail : Stands bytes i (tail_fields es made) =
    Stands-append bytes i next of_entries (of_invs ++ (of_lemmas ++ of_proof)) all.behind all.stands
    behind in
    let end = end_takes bytes (at_proof + 1) i es made c end_is in
    let long : i + length (tail_fields es made) ≡ at_proof + 1 =
    tail_ends i next at_lemmas at_proof of_entries of_invs of_lemmas of_proof all.behind behind_invs
    behind_lemmas refl in
    let to_end : length bytes ≤ 4 * (i + length (tail_fields es made)) =
    subst (λ (k : ℕ). length bytes ≤ 4 * k) (sym long) end.0 in
    let parsed : IsParsed bytes i es made = record {
      start = start;
      extends = all.extends;
      terms = all.terms;
      few = all.few;
      few_invs = n.0;
      rising = n.2.rising;
      lemmas = l.of_version;
      listed =
          AreEmitted-append es (inv_trees_of invs) (lemma_roots lemmas ++ one_or_none proof)
          n.2.listed
          (AreEmitted-append es (lemma_roots lemmas) (one_or_none proof) l.listed p.1);
      tail = tail;
      ended = to_end;
      ordered = end.1;
    } in
    subst (λ (x : Contents). IsParsed bytes i es x) end.2 parsed

pub container_takes : (bytes : List ℕ) (c : Contents) → IsBytes bytes → decoded_container bytes ≡ Ok c → EncodesContents bytes c
unfolding decoded_container
container_takes bytes c fits e =
    let head = bind_ok (decoded_head bytes) _ c e in
    let v : ℕ = head.0.version in
    let es = bind_ok (decoded_entries v bytes head.0.next) _ c head.2 in
    let next : ℕ = es.0.1 in
    let invs = bind_ok (decoded_invs bytes next es.0.0 (length head.0.code / 4)) _ c es.2 in
    let lemmas =
    bind_ok (decoded_lemmas v bytes (next + 1 + 2 * length invs.0) es.0.0) _ c invs.2 in
    let proof =
    bind_ok (decoded_proof bytes (proof_place v next (length invs.0) (length lemmas.0)) es.0.0) _ c
    lemmas.2 in
    parsed_spells bytes head.0.next es.0.0 c fits
    (parts_parsed bytes head.0 es.0.0 next invs.0 lemmas.0 proof.0 c fits
    head.1 es.1 invs.1 lemmas.1 proof.1 proof.2)

-- ---- what is encoded is read

-- where the parts of encoded contents stand
record PartsStand (bytes : List ℕ) (c : Contents) (i : ℕ) (es : List Tree) : Type 0 where
  start : decoded_head bytes ≡ Ok (front_with c i)
  tail : Stands bytes i (tail_fields es c)
  ended : length bytes ≤ 4 * (i + length (tail_fields es c))

-- the field behind the code
abbrev behind_code : Contents → ℕ
behind_code c = code_field c.version + length c.code / 4

encoded_parts : (bytes : List ℕ) (c : Contents) → EncodesContents bytes c
    → PartsStand bytes c (behind_code c) (entries (roots c))
unfolding encoding_of
encoded_parts bytes c s =
    let p : IsContents c = s.contents in
    let i : ℕ = behind_code c in
    let tail : List ℕ = tail_fields (entries (roots c)) c in
    let some : 0 < length c.code = p.some in
    let whole : 4 * (length c.code / 4) ≡ length c.code = p.whole in
    let begun : IsBegun bytes c (length c.code / 4) (field_bytes tail) =
    start_again bytes c (length c.code / 4) (field_bytes tail) p.version p.head p.bound
    (sym p.whole) (omega arith) (words_short c p) s.encoded in
    let left : length (drop (4 * i) bytes) ≡ 4 * length tail =
    ap length begun.left ∙ length-field_bytes tail in
    record {
      start = begun.read;
      tail = Stands-again bytes i tail [] (begun.left ∙ sym (append-nil (field_bytes tail)))
          (tail_small c p);
      ended = omega (arith, left, length-drop (4 * i) bytes);
    }

parts_again : (bytes : List ℕ) (c : Contents) (i : ℕ) (es : List Tree) → IsContents c
    → es ≡ entries (roots c) → ArePostorder [] es → AreTerms c.version es → AreEmitted es (roots c)
    → PartsStand bytes c i es → decoded_container bytes ≡ Ok c
unfolding decoded_container
parts_again bytes c i es p same extends terms listed has =
    let v : ℕ = c.version in
    let of_entries : List ℕ = length es ∷ flat_map (entry_fields es) es in
    let of_invs : List ℕ = length c.invs ∷ flat_map (inv_fields es) c.invs in
    let of_lemmas : List ℕ = lemmas_fields v es c.lemmas in
    let of_proof : List ℕ = proof_field es c.proof ∷ [] in
    let next : ℕ = i + length of_entries in
    let at_lemmas : ℕ = next + 1 + 2 * length c.invs in
    let at_proof : ℕ = proof_place v next (length c.invs) (length c.lemmas) in
    let size : length (flat_map (inv_fields es) c.invs) ≡ 2 * length c.invs = length-invs es c.invs in
    let behind_invs : at_lemmas ≡ next + length of_invs = omega (arith, size) in
    let behind_lemmas : at_proof ≡ at_lemmas + length of_lemmas =
    ap (λ (k : ℕ). at_lemmas + k) (sym (length-lemmas v es c.lemmas)) in
    let a =
    Stands-split bytes i next of_entries (of_invs ++ (of_lemmas ++ of_proof)) refl has.tail in
    let b = Stands-split bytes next at_lemmas of_invs (of_lemmas ++ of_proof) behind_invs a.1 in
    let d = Stands-split bytes at_lemmas at_proof of_lemmas of_proof behind_lemmas b.1 in
    let apart =
    AreEmitted-split es (inv_trees_of c.invs) (lemma_roots c.lemmas ++ one_or_none c.proof) listed in
    let both = AreEmitted-split es (lemma_roots c.lemmas) (one_or_none c.proof) apart.1 in
    let few : length es ≤ 262144 = subst (λ (ts : List Tree). length ts ≤ 262144) (sym same) p.entries in
    let head_is : decoded_head bytes ≡ Ok (front_with c i) = has.start in
    let entries_are : decoded_entries v bytes i ≡ Ok (es, next) =
    entries_read_again v bytes i es next
    (record { extends = extends; terms = terms; few = few; stands = a.0; behind = refl }) in
    let invs_are : decoded_invs bytes next es (length c.code / 4) ≡ Ok c.invs =
    invs_read_again bytes next es (length c.code / 4) c.invs p.invs b.0.0
    (record { stands = b.0.1; rising = p.rising; listed = apart.0 }) in
    let lemmas_are : decoded_lemmas v bytes at_lemmas es ≡ Ok c.lemmas =
    lemmas_read_again v bytes at_lemmas es c.lemmas
    (record { of_version = p.lemmas; stands = d.0; listed = both.0 }) in
    let proof_is : decoded_proof bytes at_proof es ≡ Ok c.proof =
    proof_again bytes at_proof es c.proof both.1 d.1.0 in
    let long : i + length (tail_fields es c) ≡ at_proof + 1 =
    tail_ends i next at_lemmas at_proof of_entries of_invs of_lemmas of_proof refl behind_invs
    behind_lemmas refl in
    let ended : length bytes ≤ 4 * (at_proof + 1) =
    subst (λ (k : ℕ). length bytes ≤ 4 * k) long has.ended in
    let end_is : decoded_end bytes (at_proof + 1) i es c ≡ Ok c =
    end_again bytes (at_proof + 1) i es c ended same in
    rw (head_is, entries_are, invs_are, lemmas_are, proof_is) end_is

pub container_again : (bytes : List ℕ) (c : Contents) → EncodesContents bytes c → decoded_container bytes ≡ Ok c
container_again bytes c s =
    let rs : List Tree = roots c in
    parts_again bytes c (behind_code c) (entries rs) s.contents refl (entries_grow rs)
    (entries_terms c.version rs s.contents.terms) (entries_listed rs) (encoded_parts bytes c s)

-- bytes encode no more than one container
pub one_content : (bytes : List ℕ) (c d : Contents) → EncodesContents bytes c → EncodesContents bytes d → c ≡ d
one_content bytes c d p q = ok_is c d (sym (container_again bytes c p) ∙ container_again bytes d q)

-- nor one where reading finds a fault
pub none_spelled : (bytes : List ℕ) (fault : Fault) → decoded_container bytes ≡ Err fault → (c : Contents) → EncodesContents bytes c → ⊥
none_spelled bytes fault e c p = let both : Err fault ≡ Ok c = sym e ∙ container_again bytes c p in cc
