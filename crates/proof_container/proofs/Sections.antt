-- The entries, the invariants, the lemmas and the proof of a container: each is read as its fields say.
use Rattle.std.proofs.Common.{◌≡◌, ◌≢◌, ℕ, zero, suc, ◌+◌, ◌*◌, ◌-◌, ◌<◌, ◌≤◌, Bool, true, false, cond, ◌||◌, ltb, eqb, List, [], ◌∷◌, ◌++◌, length, map, Option, Some, None, Result, Ok, Err, refl, sym, ap, subst, ◌∙◌, append_assoc, append-nil, add-zero, add-one, length-append, inl, inr, arith}
use Rattle.std.specs.List.{flat_map}
use Rattle.std.proofs.lemmas.Bool.{ltb-false, le-ltb, eqb-true, eqb-false, ne_eqb}
use Rattle.term_table.specs.Tree.{Tree}
use Rattle.term_table.specs.Table.{tree_in, AreDifferent}
use Rattle.proof_container.specs.declared.fault.Flaw.TheVariants.{ForwardRef, InvOrder}
use Rattle.proof_container.specs.Contents.{one_or_none, lemma_roots}
use Rattle.proof_container.specs.Postorder.{is_emitted, HasPartsFirst, ArePostorder, AreEmitted}
use Rattle.term_table.specs.Bytes.{IsBytes}
use Rattle.proof_container.specs.Encoding.{entry_number, entry_fields, inv_fields, lemma_fields, lemmas_fields, proof_field, AreTerms, AreRising}
use Rattle.proof_container.specs.Decoding.{Fault, field_at, part_at, entry_at, entry_size, entries_at, inv_at, invs_at, lemmas_at, decoded_proof}
use Rattle.proof_container.specs.Versions.{has_lemmas, lemmas_size}
use Rattle.proof_container.proofs.Walks.{ArePostorder-append, ArePostorder-different, number_is, number-at, listed-at}
use Rattle.proof_container.proofs.FieldLaws.{bind_ok, guard_ok, either_ok, neither, ok_is, Stands, Stands-append, Stands-split, field_there}
use Rattle.proof_container.proofs.EntryLaws.{part_takes, part_again, IsEntry, entry_takes, entry_again, entry_fields-append, entry_size_is}

-- ---- entries

-- the fields of the entries us behind ts
abbrev pub later_fields : List Tree → List Tree → List ℕ
later_fields ts us = flat_map (entry_fields (ts ++ us)) us

-- the entries us behind ts are read from field i on: all trees, and the next field
pub record AreRead (v : ℕ) (bytes : List ℕ) (i n : ℕ) (ts us : List Tree) (r : List Tree × ℕ) : Type 0 where
  pub all : r.0 ≡ ts ++ us
  pub count : length us ≡ n
  pub extends : ArePostorder ts us
  pub terms : AreTerms v us
  pub stands : Stands bytes i (later_fields ts us)
  pub next : r.1 ≡ i + length (later_fields ts us)

pub AreTerms-append : (v : ℕ) (ts us : List Tree) → AreTerms v ts → AreTerms v us → AreTerms v (ts ++ us)
AreTerms-append v [] us p q = q
AreTerms-append v (t ∷ ts) us p q = (p.0, p.1, AreTerms-append v ts us p.2 q)

-- behind an entry, the fields of the others are the same
pub later_fields-cons : (ts us : List Tree) (t : Tree) → HasPartsFirst ts t → later_fields ts (t ∷ us) ≡ entry_fields ts t ++ later_fields (ts ++ t ∷ []) us
later_fields-cons ts us t parts =
    let regroup : ts ++ (t ∷ us) ≡ (ts ++ t ∷ []) ++ us = sym (append_assoc ts (t ∷ []) us) in
    ap (λ (fs : List ℕ). fs ++ flat_map (entry_fields (ts ++ (t ∷ us))) us) (entry_fields-append ts (t ∷ us) t parts)
    ∙ ap (λ (es : List Tree). entry_fields ts t ++ flat_map (entry_fields es) us) regroup

length-later_fields : (ts us : List Tree) (t : Tree) → HasPartsFirst ts t → length (later_fields ts (t ∷ us)) ≡ entry_size t + length (later_fields (ts ++ t ∷ []) us)
length-later_fields ts us t parts =
    ap length (later_fields-cons ts us t parts)
    ∙ length-append (entry_fields ts t) (later_fields (ts ++ t ∷ []) us)
    ∙ ap (λ (n : ℕ). n + length (later_fields (ts ++ t ∷ []) us)) (sym (entry_size_is ts t))

-- an entry, and the others behind it
pub AreRead-cons : (v : ℕ) (bytes : List ℕ) (i n : ℕ) (ts us : List Tree) (t : Tree) (r : List Tree × ℕ) → IsEntry v bytes i ts t → is_emitted t ts ≡ false → AreRead v bytes (i + entry_size t) n (ts ++ t ∷ []) us r → AreRead v bytes i (suc n) ts (t ∷ us) r
AreRead-cons v bytes i n ts us t r here new others =
    let behind : i + entry_size t ≡ i + length (entry_fields ts t) = ap (λ (k : ℕ). i + k) (entry_size_is ts t) in
    let both : Stands bytes i (entry_fields ts t ++ later_fields (ts ++ t ∷ []) us) = Stands-append bytes i (i + entry_size t) (entry_fields ts t) (later_fields (ts ++ t ∷ []) us) behind here.stands others.stands in
    record {
      all = others.all ∙ append_assoc ts (t ∷ []) us;
      count = ap suc others.count;
      extends = (here.parts, new, others.extends);
      terms = (here.term, here.small, others.terms);
      stands = subst (λ (fs : List ℕ). Stands bytes i fs) (sym (later_fields-cons ts us t here.parts)) both;
      next = omega (arith, others.next, length-later_fields ts us t here.parts);
    }

pub entries_take : (v n : ℕ) (bytes : List ℕ) (i : ℕ) (ts : List Tree) (r : List Tree × ℕ) → IsBytes bytes → ArePostorder [] ts → AreTerms v ts → entries_at v n bytes i ts ≡ Ok r → (us : List Tree) × AreRead v bytes i n ts us r
unfolding entries_at
entries_take v zero bytes i ts r fits grown terms e =
    ([], subst (λ (x : List Tree × ℕ). AreRead v bytes i 0 ts [] x) (ok_is (ts, i) r e) (record { all = sym (append-nil ts); count = refl; extends = tt; terms = tt; stands = tt; next = sym (add-zero i) }))
entries_take v (suc n) bytes i ts r fits grown terms e =
    let a = bind_ok (entry_at v bytes i ts) _ r e in
    let t = a.0 in
    let g = guard_ok (is_emitted t ts) _ _ r a.2 in
    let here : IsEntry v bytes i ts t = entry_takes v bytes i ts fits (ArePostorder-different ts grown) terms t a.1 in
    let grown_on : ArePostorder [] (ts ++ t ∷ []) = ArePostorder-append [] ts (t ∷ []) grown (here.parts, g.0, tt) in
    let terms_on : AreTerms v (ts ++ t ∷ []) = AreTerms-append v ts (t ∷ []) terms (here.term, here.small, tt) in
    let others = entries_take v n bytes (i + entry_size t) (ts ++ t ∷ []) r fits grown_on terms_on g.1 in
    (t ∷ others.0, AreRead-cons v bytes i n ts others.0 t r here g.0 others.1)

pub entries_again : (v : ℕ) (us : List Tree) (bytes : List ℕ) (i : ℕ) (ts : List Tree) → ArePostorder ts us → AreTerms v us → Stands bytes i (later_fields ts us) → entries_at v (length us) bytes i ts ≡ Ok (ts ++ us, i + length (later_fields ts us))
unfolding entries_at
entries_again v [] bytes i ts extends terms p = rw (append-nil ts, add-zero i) refl
entries_again v (t ∷ us) bytes i ts extends terms p =
    let behind : i + entry_size t ≡ i + length (entry_fields ts t) = ap (λ (k : ℕ). i + k) (entry_size_is ts t) in
    let apart : Stands bytes i (entry_fields ts t ++ later_fields (ts ++ t ∷ []) us) = subst (λ (fs : List ℕ). Stands bytes i fs) (later_fields-cons ts us t extends.0) p in
    let both = Stands-split bytes i (i + entry_size t) (entry_fields ts t) (later_fields (ts ++ t ∷ []) us) behind apart in
    let here : entry_at v bytes i ts ≡ Ok t = entry_again v bytes i ts t terms.0 extends.0 both.0 in
    let others : entries_at v (length us) bytes (i + entry_size t) (ts ++ t ∷ []) ≡ Ok ((ts ++ t ∷ []) ++ us, i + entry_size t + length (later_fields (ts ++ t ∷ []) us)) = entries_again v us bytes (i + entry_size t) (ts ++ t ∷ []) extends.2 terms.2 both.1 in
    let next : i + entry_size t + length (later_fields (ts ++ t ∷ []) us) ≡ i + length (later_fields ts (t ∷ us)) = omega (arith, length-later_fields ts us t extends.0) in
    let first : entries_at v (suc (length us)) bytes i ts ≡ entries_at v (length us) bytes (i + entry_size t) (ts ++ t ∷ []) = rw (here, extends.1) refl in
    let same : entries_at v (length us) bytes (i + entry_size t) (ts ++ t ∷ []) ≡ Ok (ts ++ t ∷ us, i + length (later_fields ts (t ∷ us))) = rw (others, next, append_assoc ts (t ∷ []) us) refl in
    first ∙ same

-- ---- invariants

-- an invariant that stands at field i, whose index is at least low
pub record IsInv (bytes : List ℕ) (i : ℕ) (es : List Tree) (words low : ℕ) (inv : ℕ × Tree) : Type 0 where
  pub stands : Stands bytes i (inv_fields es inv)
  pub above : low ≤ inv.0
  pub below : inv.0 < words
  pub listed : is_emitted inv.1 es ≡ true

-- what the tests of an invariant's index say
inv_tested : (bytes : List ℕ) (i : ℕ) (es : List Tree) (words low k j : ℕ) (t : Tree) (inv : ℕ × Tree) → (j, t) ≡ inv → field_at bytes i ≡ Ok k → cond {A = Result ℕ Fault} (ltb k low || ltb words (k + 1)) (Err (4 * i, InvOrder)) (Ok k) ≡ Ok j → field_at bytes (i + 1) ≡ Ok (entry_number es t) → is_emitted t es ≡ true → IsInv bytes i es words low inv
inv_tested bytes i es words low k j t inv is_inv index tested part listed =
    let g = guard_ok (ltb k low || ltb words (k + 1)) _ _ j tested in
    let both = neither (ltb k low) (ltb words (k + 1)) g.0 in
    let is : k ≡ j = ok_is k j g.1 in
    let above : low ≤ k = ltb-false k low both.0 in
    let below : k + 1 ≤ words = ltb-false words (k + 1) both.1 in
    let made : IsInv bytes i es words low (j, t) = record {
      stands = (index ∙ g.1, (field_there bytes (i + 1) (suc i) (entry_number es t) (omega arith) part, tt));
      above = omega arith;
      below = omega arith;
      listed = listed;
    } in
    subst (λ (x : ℕ × Tree). IsInv bytes i es words low x) is_inv made

pub inv_takes : (bytes : List ℕ) (i : ℕ) (es : List Tree) (words low : ℕ) (inv : ℕ × Tree) → AreDifferent es → inv_at bytes i es words low ≡ Ok inv → IsInv bytes i es words low inv
inv_takes bytes i es words low inv different e =
    let a = bind_ok (field_at bytes i) _ inv e in
    let b = bind_ok (cond (ltb a.0 low || ltb words (a.0 + 1)) (Err (4 * i, InvOrder)) (Ok a.0)) _ inv a.2 in
    let c = bind_ok (part_at bytes (i + 1) es) _ inv b.2 in
    let part = part_takes bytes (i + 1) es c.0 different c.1 in
    inv_tested bytes i es words low a.0 b.0 c.0 inv (ok_is (b.0, c.0) inv c.2) a.1 b.1 part.0 part.1

pub inv_again : (bytes : List ℕ) (i : ℕ) (es : List Tree) (words low : ℕ) (inv : ℕ × Tree) → IsInv bytes i es words low inv → inv_at bytes i es words low ≡ Ok inv
inv_again bytes i es words low inv p =
    let above : ltb inv.0 low ≡ false = le-ltb inv.0 low p.above in
    let below : ltb words (inv.0 + 1) ≡ false = le-ltb words (inv.0 + 1) (omega (arith, p.below)) in
    let part : part_at bytes (i + 1) es ≡ Ok inv.1 = part_again bytes (i + 1) es inv.1 p.listed (field_there bytes (suc i) (i + 1) (entry_number es inv.1) (omega arith) p.stands.1.0) in
    rw (p.stands.0, above, below, part) refl

abbrev pub inv_trees_of : List (ℕ × Tree) → List Tree
inv_trees_of invs = map (λ p. p.1) invs

-- invariants that stand from field i on
pub record AreInvs (bytes : List ℕ) (i : ℕ) (es : List Tree) (words low : ℕ) (invs : List (ℕ × Tree)) : Type 0 where
  pub stands : Stands bytes i (flat_map (inv_fields es) invs)
  pub rising : AreRising low words invs
  pub listed : AreEmitted es (inv_trees_of invs)

pub AreInvs-cons : (bytes : List ℕ) (i : ℕ) (es : List Tree) (words low : ℕ) (inv : ℕ × Tree) (invs : List (ℕ × Tree)) → IsInv bytes i es words low inv → AreInvs bytes (i + 2) es words (inv.0 + 1) invs → AreInvs bytes i es words low (inv ∷ invs)
AreInvs-cons bytes i es words low inv invs here others =
    record {
      stands = Stands-append bytes i (i + 2) (inv_fields es inv) (flat_map (inv_fields es) invs) (omega arith) here.stands others.stands;
      rising = (here.above, here.below, subst (λ (k : ℕ). AreRising k words invs) (add-one inv.0) others.rising);
      listed = (here.listed, others.listed);
    }

pub invs_take : (n : ℕ) (bytes : List ℕ) (i : ℕ) (es : List Tree) (words low : ℕ) (before all : List (ℕ × Tree)) → AreDifferent es → invs_at n bytes i es words low before ≡ Ok all → (invs : List (ℕ × Tree)) × (all ≡ before ++ invs) × (length invs ≡ n) × AreInvs bytes i es words low invs
unfolding invs_at
invs_take zero bytes i es words low before all different e = ([], sym (ok_is before all e) ∙ sym (append-nil before), refl, record { stands = tt; rising = tt; listed = tt })
invs_take (suc n) bytes i es words low before all different e =
    let a = bind_ok (inv_at bytes i es words low) _ all e in
    let here = inv_takes bytes i es words low a.0 different a.1 in
    let others = invs_take n bytes (i + 2) es words (a.0.0 + 1) (before ++ a.0 ∷ []) all different a.2 in
    (a.0 ∷ others.0, others.1 ∙ append_assoc before (a.0 ∷ []) others.0, ap suc others.2, AreInvs-cons bytes i es words low a.0 others.0 here others.3)

pub invs_again : (invs : List (ℕ × Tree)) (bytes : List ℕ) (i : ℕ) (es : List Tree) (words low : ℕ) (before : List (ℕ × Tree)) → AreInvs bytes i es words low invs → invs_at (length invs) bytes i es words low before ≡ Ok (before ++ invs)
unfolding invs_at
invs_again [] bytes i es words low before p = rw (append-nil before) refl
invs_again (inv ∷ invs) bytes i es words low before p =
    let both = Stands-split bytes i (i + 2) (inv_fields es inv) (flat_map (inv_fields es) invs) (omega arith) p.stands in
    let here : inv_at bytes i es words low ≡ Ok inv = inv_again bytes i es words low inv (record { stands = both.0; above = p.rising.0; below = p.rising.1; listed = p.listed.0 }) in
    let rising : AreRising (inv.0 + 1) words invs = subst (λ (k : ℕ). AreRising k words invs) (sym (add-one inv.0)) p.rising.2 in
    let others = invs_again invs bytes (i + 2) es words (inv.0 + 1) (before ++ inv ∷ []) (record { stands = both.1; rising = rising; listed = p.listed.1 }) in
    let first : invs_at (suc (length invs)) bytes i es words low before ≡ invs_at (length invs) bytes (i + 2) es words (inv.0 + 1) (before ++ inv ∷ []) = rw here refl in
    let same : invs_at (length invs) bytes (i + 2) es words (inv.0 + 1) (before ++ inv ∷ []) ≡ Ok (before ++ inv ∷ invs) = rw (others, append_assoc before (inv ∷ []) invs) refl in
    first ∙ same

pub length-invs : (es : List Tree) (invs : List (ℕ × Tree)) → length (flat_map (inv_fields es) invs) ≡ 2 * length invs
length-invs es [] = refl
length-invs es (inv ∷ invs) = omega (arith, length-invs es invs)

-- ---- lemmas

-- lemmas that stand from field i on
pub record AreLemmas (bytes : List ℕ) (i : ℕ) (es : List Tree) (lemmas : List (Tree × Tree))
    : Type 0 where
  pub stands : Stands bytes i (flat_map (lemma_fields es) lemmas)
  pub listed : AreEmitted es (lemma_roots lemmas)

pub lemmas_take : (n : ℕ) (bytes : List ℕ) (i : ℕ) (es : List Tree)
    (before all : List (Tree × Tree)) → AreDifferent es → lemmas_at n bytes i es before ≡ Ok all
    → (lemmas : List (Tree × Tree)) × (all ≡ before ++ lemmas) × (length lemmas ≡ n)
    × AreLemmas bytes i es lemmas
unfolding lemmas_at
lemmas_take zero bytes i es before all different e =
    ([], sym (ok_is before all e) ∙ sym (append-nil before), refl, record { stands = tt; listed = tt })
lemmas_take (suc n) bytes i es before all different e =
    let a = bind_ok (part_at bytes i es) _ all e in
    let b = bind_ok (part_at bytes (i + 1) es) _ all a.2 in
    let one : Tree × Tree = (a.0, b.0) in
    let formula = part_takes bytes i es a.0 different a.1 in
    let proof = part_takes bytes (i + 1) es b.0 different b.1 in
    let second : field_at bytes (suc i) ≡ Ok (entry_number es b.0) =
    field_there bytes (i + 1) (suc i) (entry_number es b.0) (omega arith) proof.0 in
    let others = lemmas_take n bytes (i + 2) es (before ++ one ∷ []) all different b.2 in
    let stands : Stands bytes i (lemma_fields es one ++ flat_map (lemma_fields es) others.0) =
    Stands-append bytes i (i + 2) (lemma_fields es one) (flat_map (lemma_fields es) others.0)
    (omega arith) (formula.0, (second, tt)) others.3.stands in (
      one ∷ others.0,
      others.1 ∙ append_assoc before (one ∷ []) others.0,
      ap suc others.2,
      record { stands = stands; listed = (formula.1, (proof.1, others.3.listed)) },
    )

pub lemmas_again : (lemmas : List (Tree × Tree)) (bytes : List ℕ) (i : ℕ) (es : List Tree)
    (before : List (Tree × Tree)) → AreLemmas bytes i es lemmas
    → lemmas_at (length lemmas) bytes i es before ≡ Ok (before ++ lemmas)
unfolding lemmas_at
lemmas_again [] bytes i es before p = rw (append-nil before) refl
lemmas_again (l ∷ lemmas) bytes i es before p =
    let n : ℕ = length lemmas in
    let both =
    Stands-split bytes i (i + 2) (lemma_fields es l) (flat_map (lemma_fields es) lemmas) (omega arith)
    p.stands in
    let formula : part_at bytes i es ≡ Ok l.0 = part_again bytes i es l.0 p.listed.0 both.0.0 in
    let proof : part_at bytes (i + 1) es ≡ Ok l.1 =
    part_again bytes (i + 1) es l.1 p.listed.1.0
    (field_there bytes (suc i) (i + 1) (entry_number es l.1) (omega arith) both.0.1.0) in
    let others =
    lemmas_again lemmas bytes (i + 2) es (before ++ l ∷ [])
    (record { stands = both.1; listed = p.listed.1.1 }) in
    let first : lemmas_at (suc n) bytes i es before ≡ lemmas_at n bytes (i + 2) es (before ++ l ∷ []) =
    rw (formula, proof) refl in
    let same : lemmas_at n bytes (i + 2) es (before ++ l ∷ []) ≡ Ok (before ++ l ∷ lemmas) =
    rw (others, append_assoc before (l ∷ []) lemmas) refl in
    first ∙ same

pub length-pairs : (es : List Tree) (lemmas : List (Tree × Tree))
    → length (flat_map (lemma_fields es) lemmas) ≡ 2 * length lemmas
length-pairs es [] = refl
length-pairs es (l ∷ lemmas) = omega (arith, length-pairs es lemmas)

-- with their count, where the version has some
pub length-lemmas : (v : ℕ) (es : List Tree) (lemmas : List (Tree × Tree))
    → length (lemmas_fields v es lemmas) ≡ lemmas_size v (length lemmas)
length-lemmas v es lemmas = go (has_lemmas v)
  where
    all : List ℕ
    all = length lemmas ∷ flat_map (lemma_fields es) lemmas

    go : (b : Bool) → length (cond b all []) ≡ cond b (1 + 2 * length lemmas) 0
    go true = omega (arith, length-pairs es lemmas)
    go false = refl

-- ---- the proof

pub proof_takes : (bytes : List ℕ) (i : ℕ) (es : List Tree) (proof : Option Tree) → AreDifferent es → decoded_proof bytes i es ≡ Ok proof → (field_at bytes i ≡ Ok (proof_field es proof)) × AreEmitted es (one_or_none proof)
unfolding decoded_proof
proof_takes bytes i es proof different e =
    let a = bind_ok (field_at bytes i) _ proof e in
    let p = a.0 in
    elim (either_ok (eqb p 0) (Ok None) (cond (ltb (length es) p) (Err (4 * i, ForwardRef)) (Ok (Some (tree_in es (p - 1))))) proof a.2) [
      | inl none ↦
          let zero_is : p ≡ 0 = eqb-true p 0 none.0 in
          subst (λ (x : Option Tree). (field_at bytes i ≡ Ok (proof_field es x)) × AreEmitted es (one_or_none x)) (ok_is None proof none.1) (a.1 ∙ ap Ok zero_is, tt)
      | inr some ↦
          let g = guard_ok (ltb (length es) p) _ _ proof some.1 in
          let most : p ≤ length es = ltb-false _ _ g.0 in
          let not_zero : p ≢ 0 = eqb-false p 0 some.0 in
          let below : p - 1 < length es = omega arith in
          let number : p ≡ 1 + entry_number es (tree_in es (p - 1)) = omega (arith, number-at es different (p - 1) below) in
          subst (λ (x : Option Tree). (field_at bytes i ≡ Ok (proof_field es x)) × AreEmitted es (one_or_none x)) (ok_is (Some (tree_in es (p - 1))) proof g.1) (a.1 ∙ ap Ok number, (listed-at es (p - 1) below, tt))
    ]

pub proof_again : (bytes : List ℕ) (i : ℕ) (es : List Tree) (proof : Option Tree) → AreEmitted es (one_or_none proof) → field_at bytes i ≡ Ok (proof_field es proof) → decoded_proof bytes i es ≡ Ok proof
unfolding decoded_proof
proof_again bytes i es None listed e = rw e refl
proof_again bytes i es (Some t) listed e =
    let n = number_is es t listed.0 in
    let none : eqb (1 + entry_number es t) 0 ≡ false = ne_eqb (1 + entry_number es t) 0 (omega arith) in
    let within : ltb (length es) (1 + entry_number es t) ≡ false = le-ltb _ _ (omega (arith, n.0)) in
    let back : 1 + entry_number es t - 1 ≡ entry_number es t = omega arith in
    rw (e, none, within, back, n.1) refl
