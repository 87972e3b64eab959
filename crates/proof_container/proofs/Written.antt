-- What is written so far, and one piece more; how long it is.
use Rattle.std.proofs.Common.{◌≡◌, ℕ, zero, suc, ◌+◌, ◌*◌, ◌/◌, ◌<◌, true, List, [], ◌∷◌, ◌++◌, length, map, take, get_or, refl, sym, ◌∙◌, ap, subst, append_assoc, length-append, arith}
use Rattle.std.specs.Prelude.{sum_by}
use Rattle.std.specs.List.{flat_map}
use Rattle.std.specs.Int.{w32, to_le_bytes}
use Rattle.std.proofs.lemmas.Grind.{flat_map-append}
use Rattle.std.proofs.lemmas.List.{append-nil, take_more, get_or-map}
use Rattle.std.proofs.lemmas.List.Concat.{flat_map-cons}
use Rattle.std.proofs.lemmas.List.Sums.{sum_by-cons}
use Rattle.term_table.specs.Tree.{Tree, Var}
use Rattle.term_table.specs.Table.{TableView, tree_at}
use Rattle.proof_container.specs.Versions.{lemmas_size}
use Rattle.proof_container.specs.Contents.{Contents, roots}
use Rattle.proof_container.specs.Postorder.{is_emitted, HasPartsFirst, AreEmitted, entries}
use Rattle.proof_container.specs.Encoding.{field_bytes, entry_fields, inv_fields, lemmas_fields, proof_field, magic, policy_bytes, bound_fields, head_bytes, tail_fields, encoding_of}
use Rattle.proof_container.specs.Decoding.{entry_size}
use Rattle.proof_container.specs.Inside.Walked.{HaveParts}
use Rattle.proof_container.proofs.FieldLaws.{length-field_bytes}
use Rattle.proof_container.proofs.EntryLaws.{entry_size_is}
use Rattle.proof_container.proofs.Sections.{length-invs, length-lemmas}

-- the pieces of the first i elements, and of the next
pub written_more : {X : Type 0} (f : X → List ℕ) (xs : List X) (i : ℕ) (d : X) (out : List ℕ) → i < length xs →
    (out ++ field_bytes (flat_map f (take i xs))) ++ field_bytes (f (get_or xs i d)) ≡ out ++ field_bytes (flat_map f (take (i + 1) xs))
written_more f xs i d out lt =
    let one : flat_map f (take i xs ++ get_or xs i d ∷ []) ≡ flat_map f (take i xs) ++ f (get_or xs i d) = flat_map-append f (take i xs) (get_or xs i d ∷ []) ∙ ap (λ (z : List ℕ). flat_map f (take i xs) ++ z) (append-nil (f (get_or xs i d))) in
    let all : field_bytes (flat_map f (take (i + 1) xs)) ≡ field_bytes (flat_map f (take i xs)) ++ field_bytes (f (get_or xs i d)) =
    ap (λ z. field_bytes (flat_map f z)) (take_more xs i d lt) ∙ ap field_bytes one ∙ flat_map-append (to_le_bytes w32) (flat_map f (take i xs)) (f (get_or xs i d)) in
    append_assoc out (field_bytes (flat_map f (take i xs))) (field_bytes (f (get_or xs i d))) ∙ ap (λ (z : List ℕ). out ++ z) (sym all)

pub parts-get : (ts us : List Tree) (i : ℕ) (d : Tree) → HaveParts ts us → i < length us → HasPartsFirst ts (get_or us i d)
parts-get ts [] i d have lt = absurd (omega arith)
parts-get ts (u ∷ us) zero d have lt = have.0
parts-get ts (u ∷ us) (suc i) d have lt = parts-get ts us i d have.1 (omega arith)

pub listed-get : {X : Type 0} (f : X → Tree) (ts : List Tree) (xs : List X) (i : ℕ) (d : X) → AreEmitted ts (map f xs) → i < length xs → is_emitted (f (get_or xs i d)) ts ≡ true
listed-get f ts [] i d listed lt = absurd (omega arith)
listed-get f ts (x ∷ xs) zero d listed lt = listed.0
listed-get f ts (x ∷ xs) (suc i) d listed lt = listed-get f ts xs i d listed.1 (omega arith)

-- the i-th id's tree is the i-th tree
pub tree-get : (t : TableView) (ids : List ℕ) (i id : ℕ) → i < length ids → id ≡ get_or ids i id → tree_at t id ≡ get_or (map (tree_at t) ids) i (Var 0)
tree-get t ids i id lt is = ap (tree_at t) is ∙ sym (get_or-map (tree_at t) ids i id (Var 0) lt)

-- the place lies within the ids, and the id is the one there
pub place_in : (ids items : List ℕ) (i id : ℕ) → items ≡ ids → i < length items → id ≡ get_or items i id → (i < length ids) × (id ≡ get_or ids i id)
place_in ids items i id same lt is = subst (λ (z : List ℕ). (i < length z) × (id ≡ get_or z i id)) same (lt, is)

-- ---- lengths

length-entries : (es us : List Tree) → length (flat_map (entry_fields es) us) ≡ sum_by entry_size us
length-entries es [] = refl
length-entries es (u ∷ us) =
    ap length (flat_map-cons (entry_fields es) u us) ∙ omega (arith, length-append (entry_fields es u) (flat_map (entry_fields es) us), length-entries es us, entry_size_is es u, sum_by-cons entry_size u us)

pub length-head : (c : Contents) (words : ℕ) → length (head_bytes c words)
    ≡ 12 + length (policy_bytes c.head) + 4 * length (bound_fields c.bound)
length-head c words =
    let opening : List ℕ = magic ∷ c.version ∷ [] in
    let counts : List ℕ = bound_fields c.bound ++ words ∷ [] in
    let first : List ℕ = field_bytes opening in
    let last : List ℕ = field_bytes counts in
    let rest : length (policy_bytes c.head ++ last) ≡ length (policy_bytes c.head) + length last =
    length-append (policy_bytes c.head) last in
    let all : length (head_bytes c words) ≡ length first + length (policy_bytes c.head ++ last) =
    length-append first (policy_bytes c.head ++ last) in
    omega (
      arith,
      all,
      rest,
      length-field_bytes opening,
      length-field_bytes counts,
      length-append (bound_fields c.bound) (words ∷ []),
    )

pub length-encoding_of : (c : Contents) → length (encoding_of c)
    ≡ length (policy_bytes c.head) + 4 * length (bound_fields c.bound)
    + 4 * (6 + sum_by entry_size (entries (roots c)) + 2 * length c.invs + lemmas_size c.version (length c.lemmas))
    + length c.code
unfolding encoding_of
length-encoding_of c =
    let es : List Tree = entries (roots c) in
    let front : List ℕ = head_bytes c (length c.code / 4) in
    let first : List ℕ = length es ∷ flat_map (entry_fields es) es in
    let invs : List ℕ = length c.invs ∷ flat_map (inv_fields es) c.invs in
    let lemmas : List ℕ = lemmas_fields c.version es c.lemmas in
    let last : List ℕ = proof_field es c.proof ∷ [] in
    let behind : List ℕ = field_bytes (tail_fields es c) in
    let tail : length (tail_fields es c) ≡ length first + length (invs ++ (lemmas ++ last)) =
    length-append first (invs ++ (lemmas ++ last)) in
    let rest : length (invs ++ (lemmas ++ last)) ≡ length invs + length (lemmas ++ last) =
    length-append invs (lemmas ++ last) in
    let end : length (lemmas ++ last) ≡ length lemmas + 1 = length-append lemmas last in
    let code : length (c.code ++ behind) ≡ length c.code + length behind =
    length-append c.code behind in
    let all : length (front ++ (c.code ++ behind)) ≡ length front + length (c.code ++ behind) =
    length-append front (c.code ++ behind) in
    omega (
      arith,
      all,
      code,
      tail,
      rest,
      end,
      length-lemmas c.version es c.lemmas,
      length-head c (length c.code / 4),
      length-field_bytes (tail_fields es c),
      length-entries es es,
      length-invs es c.invs,
    )
