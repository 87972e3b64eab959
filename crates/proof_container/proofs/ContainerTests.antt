-- What bytes read as a container speaks of its tests.
use Rattle.std.proofs.Common.{◌≡◌, inl, inr, ℕ, zero, suc, ◌+◌, ◌*◌, ◌-◌, ◌/◌, ◌<◌, ◌≤◌, Bool, true, false, cond, ltb, eqb, ◌||◌}
use Rattle.std.proofs.Common.{List, [], ◌∷◌, ◌++◌, map, length, take, drop, Option, Some, None, Result, Ok, Err, refl, sym, ap}
use Rattle.std.proofs.Common.{◌∙◌, subst, arith, append_assoc}
use Rattle.std.specs.List.{slice_range}
use Rattle.std.specs.Prelude.{sum_by}
use Rattle.std.specs.Option.{option_map}
use Rattle.std.proofs.lemmas.Bool.{true≢false, cond_both, ltb-true, ltb-false, eqb-true, le-ltb, or_from, or_parts}
use Rattle.std.proofs.lemmas.List.{length-append, length-take, length-drop}
use Rattle.std.proofs.lemmas.Option.{same_Some}
use Rattle.std.proofs.lemmas.List.Sums.{sum_by-cons}
use Rattle.word_ops.specs.Tests.{test, AllPass, FirstFails}
use Rattle.term_table.specs.Steps.{◌>>=◌}
use Rattle.term_table.specs.Tree.{Tree}
use Rattle.term_table.specs.Table.{tree_in}
use Rattle.term_table.specs.Equality.{tree_eq}
use Rattle.term_table.proofs.Equality.{tree_eq-true, tree_eq_refl}
use Rattle.proof_container.specs.declared.container.Head.{Head}
use Rattle.proof_container.specs.declared.container.Head.TheVariants.{Number, Digest}
use Rattle.proof_container.specs.declared.fault.Flaw.TheVariants.{Magic, Version, Count, ForwardRef, Order, InvOrder, Trailing}
use Rattle.lf_signature.specs.declared.editions.TheConstants.{MAX_VERSION}
use Rattle.proof_container.specs.declared.limits.TheConstants.{MAX_BOUND, MAX_WORDS, MAX_ENTRIES, MAX_INVS, MAX_LEMMAS}
use Rattle.proof_container.specs.Versions.{IsVersion, is_numbered, is_bounded, has_lemmas, policy_size, bound_size, code_field}
use Rattle.proof_container.specs.Contents.{Contents, lemma_roots, one_or_none, roots}
use Rattle.proof_container.specs.Postorder.{entries}
use Rattle.proof_container.specs.Encoding.{magic}
use Rattle.proof_container.specs.Decoding.{Fault, field_at, exact_at, between_at, raw_at, policy_at, step_bound_at, Front, decoded_head}
use Rattle.proof_container.specs.Decoding.{part_at, entry_size}
use Rattle.proof_container.specs.Decoding.{entries_at, decoded_entries, inv_at, invs_at, decoded_invs, lemmas_at, decoded_lemmas, decoded_proof}
use Rattle.proof_container.specs.Decoding.{first_misplaced, unless_misplaced, decoded_end, proof_place, decoded_container}
use Rattle.proof_container.specs.FieldTests.{FaultTests, tests_if, number_at, are_whole, is_lawful, is_entry, entries_tests}
use Rattle.proof_container.specs.FieldTests.{invs_tests, lemmas_tests}
use Rattle.proof_container.specs.FieldTests.{order_tests, with_root, proof_tests, lemmas_part, invs_part, code_part, policy_part, container_tests}
use Rattle.proof_container.proofs.FieldTests.{Speaks, passing, failing, push, at_fault, fault_at, field-then, exact-then, between-then}
use Rattle.proof_container.proofs.FieldTests.{raw-then, part-then, entries-then}

-- ---- roots

inv-roots-more : (invs : List (ℕ × Tree)) (inv : ℕ × Tree) → map (λ p. p.1) invs ++ inv.1 ∷ [] ≡ map (λ p. p.1) (invs ++ inv ∷ [])
inv-roots-more [] inv = refl
inv-roots-more (x ∷ invs) inv = ap (λ l. x.1 ∷ l) (inv-roots-more invs inv)

lemma-roots-more : (lemmas : List (Tree × Tree)) (l : Tree × Tree) → lemma_roots lemmas ++ l.0 ∷ l.1 ∷ [] ≡ lemma_roots (lemmas ++ l ∷ [])
lemma-roots-more [] l = refl
lemma-roots-more (x ∷ lemmas) l = ap (λ m. x.0 ∷ x.1 ∷ m) (lemma-roots-more lemmas l)

append-none : {A : Type 0} (l : List A) → l ++ [] ≡ l
append-none [] = refl
append-none (x ∷ l) = ap (λ m. x ∷ m) (append-none l)

-- a proof that a field names, if it is above 0
abbrev proof_named : ℕ → List Tree → Option Tree
proof_named p es = cond (eqb p 0) None (Some (tree_in es (p - 1)))

all-roots : (p : ℕ) (es invs lemmas : List Tree) → with_root p es (invs ++ lemmas) ≡ invs ++ (lemmas ++ one_or_none (proof_named p es))
all-roots p es invs lemmas = go (eqb p 0)
  where
    go : (b : Bool) → cond b (invs ++ lemmas) ((invs ++ lemmas) ++ tree_in es (p - 1) ∷ [])
        ≡ invs ++ (lemmas ++ one_or_none (cond b None (Some (tree_in es (p - 1)))))
    go true = ap (λ l. invs ++ l) (sym (append-none lemmas))
    go false = append_assoc invs lemmas (tree_in es (p - 1) ∷ [])

-- what a proof's field, of this number, names
abbrev proof_step : ℕ → List Tree → ℕ → Result (Option Tree) Fault
proof_step i es p = cond (eqb p 0) (Ok None) (cond (ltb (length es) p) (Err (4 * i, ForwardRef)) (Ok (Some (tree_in es (p - 1)))))

-- ---- the order of entries

-- what the place of the first misplaced entry says, the first entry being at field i
abbrev Misplaced : ℕ → List Tree → FaultTests → Option ℕ → Type 0
Misplaced i es tests None = AllPass tests
Misplaced i es tests (Some e) = FirstFails tests (4 * (i + sum_by entry_size (take e es)), Order)

misplaced-later : (i : ℕ) (e : Tree) (es : List Tree) (P : Type 0) (tests : FaultTests) (o : Option ℕ) → P → Misplaced (i + entry_size e) es tests o
    → Misplaced i (e ∷ es) (test P (4 * i, Order) ∷ tests) (option_map suc o)
misplaced-later i e es P tests None p h = (p, h)
misplaced-later i e es P tests (Some k) p h =
    let further : i + entry_size e + sum_by entry_size (take k es) ≡ i + sum_by entry_size (take (suc k) (e ∷ es)) =
    omega (arith, sum_by-cons entry_size e (take k es)) in
    inr (p, subst (λ n. FirstFails tests (fault_at Order n)) further h)

first-place : (i : ℕ) (e : Tree) (es : List Tree) → i + sum_by entry_size (take 0 (e ∷ es)) ≡ i
first-place i e es =
    let nothing : sum_by entry_size (take 0 (e ∷ es)) ≡ 0 = refl in
    omega (arith, nothing)

none-some : (e : Tree) → None ≡ Some e → ⊥
none-some e q = absurd cc

order-speaks : (i : ℕ) (es walk : List Tree) → Misplaced i es (order_tests i es walk) (first_misplaced es walk)
order-speaks i [] walk = tt
order-speaks i (e ∷ es) [] = inl (none-some e, ap (fault_at Order) (first-place i e es))
order-speaks i (e ∷ es) (w ∷ ws) = go (order_tests (i + entry_size e) es ws) (order-speaks (i + entry_size e) es ws) (tree_eq e w) refl
  where
    go : (later : FaultTests) → Misplaced (i + entry_size e) es later (first_misplaced es ws) → (b : Bool) → tree_eq e w ≡ b
        → Misplaced i (e ∷ es) (test (Some w ≡ Some e) (4 * i, Order) ∷ later) (cond b (option_map suc (first_misplaced es ws)) (Some 0))
    go later h true q =
        misplaced-later i e es (Some w ≡ Some e) later (first_misplaced es ws) (ap Some (sym (tree_eq-true e w q))) h
    go later h false q =
        inl (
          λ p. (let same : w ≡ e = same_Some w e p in true≢false (sym (ap (tree_eq e) same ∙ tree_eq_refl e) ∙ q)),
          ap (fault_at Order) (first-place i e es),
        )

module _ (bytes : List ℕ) where
  -- ---- what names entries

  module _ (es : List Tree) {B : Type 0} where
    inv-then : (words i low : ℕ) (rest : FaultTests) (g : (ℕ × Tree) → Result B Fault)
        → Speaks rest (g (number_at bytes i, tree_in es (number_at bytes (i + 1))))
        → Speaks (is_lawful bytes i (λ k. (low ≤ k) × (k < words)) InvOrder ++ (is_entry bytes (i + 1) es ++ rest)) (inv_at bytes i es words low >>= g)
    inv-then words i low rest g h =
        let m = number_at bytes i in
        push (field_at bytes i)
        (λ k. cond (ltb k low || ltb words (k + 1)) (Err (4 * i, InvOrder)) (Ok k) >>= λ j. part_at bytes (i + 1) es >>= λ t. Ok (j, t)) g
        (field-then bytes i (test ((low ≤ m) × (m < words)) (4 * i, InvOrder) ∷ (is_entry bytes (i + 1) es ++ rest))
        (λ k. (cond (ltb k low || ltb words (k + 1)) (Err (4 * i, InvOrder)) (Ok k) >>= λ j. part_at bytes (i + 1) es >>= λ t. Ok (j, t)) >>= g)
        (λ w. push (cond (ltb m low || ltb words (m + 1)) (Err (4 * i, InvOrder)) (Ok m)) (λ j. part_at bytes (i + 1) es >>= λ t. Ok (j, t)) g
        (at_fault ((low ≤ m) × (m < words)) (ltb m low || ltb words (m + 1)) (4 * i, InvOrder) (Ok m) (is_entry bytes (i + 1) es ++ rest)
        (λ j. (part_at bytes (i + 1) es >>= λ t. Ok (j, t)) >>= g)
        (λ e p. let below : m + 1 ≤ words = omega (arith, p.1) in
        true≢false (sym e ∙ or_from (ltb m low) (ltb words (m + 1)) (le-ltb m low p.0) (le-ltb words (m + 1) below)))
        (λ e. let both = or_parts (ltb m low) (ltb words (m + 1)) e in
        let below : m + 1 ≤ words = ltb-false words (m + 1) both.1 in (
          (ltb-false m low both.0, omega (arith, below)),
          push (part_at bytes (i + 1) es) (λ t. Ok (m, t)) g (part-then bytes (i + 1) es rest (λ t. Ok (m, t) >>= g) (λ w. h)),
        )))))

    invs-then : (words last n i low : ℕ) (invs : List (ℕ × Tree)) (behind : ℕ → List Tree → FaultTests) (g : List (ℕ × Tree) → Result B Fault)
        → i + 2 * n ≡ last
        → ((all : List (ℕ × Tree)) → length all ≡ length invs + n → Speaks (behind last (map (λ p. p.1) all)) (g all))
        → Speaks (invs_tests bytes n i es words low (map (λ p. p.1) invs) behind) (invs_at n bytes i es words low invs >>= g)
    unfolding invs_tests invs_at
    invs-then words last zero i low invs behind g to h =
        let here : last ≡ i = omega (arith, to) in
        subst (λ j. Speaks (behind j (map (λ p. p.1) invs)) (g invs)) here (h invs (omega arith))
    invs-then words last (suc n) i low invs behind g to h =
        let k = number_at bytes i in
        let t = tree_in es (number_at bytes (i + 1)) in
        let more = invs ++ (k, t) ∷ [] in
        let long : length more ≡ length invs + 1 = length-append invs ((k, t) ∷ []) in
        push (inv_at bytes i es words low) (λ inv. invs_at n bytes (i + 2) es words (inv.0 + 1) (invs ++ inv ∷ [])) g
        (inv-then words i low (invs_tests bytes n (i + 2) es words (k + 1) (map (λ p. p.1) invs ++ t ∷ []) behind)
        (λ inv. invs_at n bytes (i + 2) es words (inv.0 + 1) (invs ++ inv ∷ []) >>= g)
        (subst (λ rs. Speaks (invs_tests bytes n (i + 2) es words (k + 1) rs behind) (invs_at n bytes (i + 2) es words (k + 1) more >>= g))
        (sym (inv-roots-more invs (k, t)))
        (invs-then words last n (i + 2) (k + 1) more behind g (omega (arith, to)) (λ all e. h all (omega (arith, e, long))))))

    lemmas-then : (last n i : ℕ) (front : List Tree) (lemmas : List (Tree × Tree)) (behind : ℕ → List Tree → FaultTests)
        (g : List (Tree × Tree) → Result B Fault) → i + 2 * n ≡ last
        → ((all : List (Tree × Tree)) → length all ≡ length lemmas + n → Speaks (behind last (front ++ lemma_roots all)) (g all))
        → Speaks (lemmas_tests bytes n i es (front ++ lemma_roots lemmas) behind) (lemmas_at n bytes i es lemmas >>= g)
    unfolding lemmas_tests lemmas_at
    lemmas-then last zero i front lemmas behind g to h =
        let here : last ≡ i = omega (arith, to) in
        subst (λ j. Speaks (behind j (front ++ lemma_roots lemmas)) (g lemmas)) here (h lemmas (omega arith))
    lemmas-then last (suc n) i front lemmas behind g to h =
        let f = tree_in es (number_at bytes i) in
        let p = tree_in es (number_at bytes (i + 1)) in
        let more = lemmas ++ (f, p) ∷ [] in
        let long : length more ≡ length lemmas + 1 = length-append lemmas ((f, p) ∷ []) in
        let rs = (front ++ lemma_roots lemmas) ++ f ∷ p ∷ [] in
        let same : front ++ lemma_roots more ≡ rs =
        ap (λ l. front ++ l) (sym (lemma-roots-more lemmas (f, p))) ∙ sym (append_assoc front (lemma_roots lemmas) (f ∷ p ∷ [])) in
        let later = lemmas_tests bytes n (i + 2) es rs behind in
        push (part_at bytes i es) (λ f. part_at bytes (i + 1) es >>= λ p. lemmas_at n bytes (i + 2) es (lemmas ++ (f, p) ∷ [])) g
        (part-then bytes i es (is_entry bytes (i + 1) es ++ later)
        (λ f. (part_at bytes (i + 1) es >>= λ p. lemmas_at n bytes (i + 2) es (lemmas ++ (f, p) ∷ [])) >>= g)
        (λ w. push (part_at bytes (i + 1) es) (λ p. lemmas_at n bytes (i + 2) es (lemmas ++ (f, p) ∷ [])) g
        (part-then bytes (i + 1) es later (λ p. lemmas_at n bytes (i + 2) es (lemmas ++ (f, p) ∷ []) >>= g)
        (λ w. subst (λ r. Speaks (lemmas_tests bytes n (i + 2) es r behind) (lemmas_at n bytes (i + 2) es more >>= g)) same
        (lemmas-then last n (i + 2) front more behind g (omega (arith, to)) (λ all e. h all (omega (arith, e, long))))))))

    proof-then : (i : ℕ) (rest : FaultTests) (g : Option Tree → Result B Fault) → Speaks rest (g (proof_named (number_at bytes i) es))
        → Speaks (is_lawful bytes i (λ p. p ≤ length es) ForwardRef ++ rest) (decoded_proof bytes i es >>= g)
    unfolding decoded_proof
    proof-then i rest g h =
        push (field_at bytes i) (proof_step i es) g
        (field-then bytes i (test (number_at bytes i ≤ length es) (4 * i, ForwardRef) ∷ rest) (λ p. proof_step i es p >>= g)
        (λ w. go (number_at bytes i) (eqb (number_at bytes i) 0) refl h))
      where
        go : (m : ℕ) (b : Bool) → eqb m 0 ≡ b → Speaks rest (g (cond b None (Some (tree_in es (m - 1)))))
            → Speaks (test (m ≤ length es) (4 * i, ForwardRef) ∷ rest)
            (cond b (Ok None) (cond (ltb (length es) m) (Err (4 * i, ForwardRef)) (Ok (Some (tree_in es (m - 1))))) >>= g)
        go m true e k =
            let is : m ≡ 0 = eqb-true m 0 e in
            passing (m ≤ length es) (4 * i, ForwardRef) (omega (arith, is)) k
        go m false e k =
            at_fault (m ≤ length es) (ltb (length es) m) (4 * i, ForwardRef) (Ok (Some (tree_in es (m - 1)))) rest g
            (λ q p. let past : length es < m = ltb-true _ _ q in omega (arith, past, p)) (λ q. (ltb-false _ _ q, k))

  -- ---- the end

  end-speaks : (last i first : ℕ) (es : List Tree) (c : Contents) (walk : List Tree) → i + 1 ≡ first → walk ≡ entries (roots c)
      → Speaks (test (length bytes ≤ 4 * last) (4 * last, Trailing) ∷ order_tests first es walk) (decoded_end bytes last i es c)
  unfolding decoded_end
  end-speaks last i first es c walk at is =
      subst (λ n. Speaks (test (length bytes ≤ 4 * last) (4 * last, Trailing) ∷ order_tests n es walk) (decoded_end bytes last i es c)) at
      (subst (λ w. Speaks (test (length bytes ≤ 4 * last) (4 * last, Trailing) ∷ order_tests (i + 1) es w) (decoded_end bytes last i es c)) (sym is)
      (cond_both (ltb (4 * last) (length bytes)) (Err (4 * last, Trailing)) (unless_misplaced i es c (first_misplaced es (entries (roots c))))
      (Speaks (test (length bytes ≤ 4 * last) (4 * last, Trailing) ∷ order_tests (i + 1) es (entries (roots c))))
      (λ e. let past : 4 * last < length bytes = ltb-true _ _ e in
      failing (length bytes ≤ 4 * last) (4 * last, Trailing) (λ p. omega (arith, past, p)))
      (λ e. passing (length bytes ≤ 4 * last) (4 * last, Trailing) (ltb-false _ _ e)
      (placed (order_tests (i + 1) es (entries (roots c))) (first_misplaced es (entries (roots c))) (order-speaks (i + 1) es (entries (roots c)))))))
    where
      placed : (tests : FaultTests) (o : Option ℕ) → Misplaced (i + 1) es tests o → Speaks tests (unless_misplaced i es c o)
      placed tests None h = record { says = h }
      placed tests (Some e) h = record { says = h }

  -- ---- what stands behind the front

  module _ (f : Front) where
    -- the contents that a front begins
    abbrev contents_from : List (ℕ × Tree) → List (Tree × Tree) → Option Tree → Contents
    contents_from invs lemmas proof = record {
      version = f.version;
      head = f.head;
      bound = f.bound;
      code = f.code;
      invs = invs;
      lemmas = lemmas;
      proof = proof;
    }

    abbrev proof_read : List Tree → ℕ → List (ℕ × Tree) → List (Tree × Tree) → Result Contents Fault
    proof_read es i invs lemmas =
        decoded_proof bytes i es >>= λ proof. decoded_end bytes (i + 1) f.next es (contents_from invs lemmas proof)

    abbrev lemmas_read : List Tree → ℕ → List (ℕ × Tree) → Result Contents Fault
    lemmas_read es j invs =
        decoded_lemmas f.version bytes (j + 1 + 2 * length invs) es
        >>= λ lemmas. proof_read es (proof_place f.version j (length invs) (length lemmas)) invs lemmas

    abbrev invs_read : List Tree → ℕ → Result Contents Fault
    invs_read es j = decoded_invs bytes j es (length f.code / 4) >>= λ invs. lemmas_read es j invs

    proof-speaks : (es : List Tree) (i : ℕ) (invs : List (ℕ × Tree)) (lemmas : List (Tree × Tree))
        → Speaks (proof_tests bytes (f.next + 1) i es (map (λ p. p.1) invs ++ lemma_roots lemmas)) (proof_read es i invs lemmas)
    proof-speaks es i invs lemmas =
        let p = number_at bytes i in
        let rs = map (λ p. p.1) invs ++ lemma_roots lemmas in
        let c = contents_from invs lemmas (proof_named p es) in
        let walk = entries (with_root p es rs) in
        let same : walk ≡ entries (roots c) = ap entries (all-roots p es (map (λ p. p.1) invs) (lemma_roots lemmas)) in
        proof-then es i (test (length bytes ≤ 4 * (i + 1)) (4 * (i + 1), Trailing) ∷ order_tests (f.next + 1) es walk)
        (λ proof. decoded_end bytes (i + 1) f.next es (contents_from invs lemmas proof))
        (end-speaks (i + 1) f.next (f.next + 1) es c walk refl same)

    lemmas-speaks : (es : List Tree) (j i : ℕ) (invs : List (ℕ × Tree)) → i ≡ j + 1 + 2 * length invs
        → Speaks (lemmas_part bytes f.version (f.next + 1) i es (map (λ p. p.1) invs)) (lemmas_read es j invs)
    unfolding decoded_lemmas
    lemmas-speaks es j i invs at =
        subst (λ k. Speaks (lemmas_part bytes f.version (f.next + 1) k es (map (λ p. p.1) invs)) (lemmas_read es j invs)) (sym at)
        (go (has_lemmas f.version))
      where
        go : (b : Bool) → Speaks (tests_if b
            (is_lawful bytes (j + 1 + 2 * length invs) (λ n. n ≤ MAX_LEMMAS) Count
            ++ lemmas_tests bytes (number_at bytes (j + 1 + 2 * length invs)) (j + 1 + 2 * length invs + 1) es (map (λ p. p.1) invs)
            (λ k all. proof_tests bytes (f.next + 1) k es all))
            (proof_tests bytes (f.next + 1) (j + 1 + 2 * length invs) es (map (λ p. p.1) invs)))
            (cond b (between_at bytes (j + 1 + 2 * length invs) 0 MAX_LEMMAS Count
            >>= λ count. lemmas_at count bytes (j + 1 + 2 * length invs + 1) es []) (Ok [])
            >>= λ lemmas. proof_read es (j + 1 + 2 * length invs + cond b (1 + 2 * length lemmas) 0) invs lemmas)
        go true =
            let i = j + 1 + 2 * length invs in
            let n = number_at bytes i in
            let rs = map (λ p. p.1) invs in
            let g : List (Tree × Tree) → Result Contents Fault = λ lemmas. proof_read es (i + (1 + 2 * length lemmas)) invs lemmas in
            let behind : ℕ → List Tree → FaultTests = λ k all. proof_tests bytes (f.next + 1) k es all in
            let h : (all : List (Tree × Tree)) → length all ≡ 0 + n → Speaks (behind (i + 1 + 2 * n) (rs ++ lemma_roots all)) (g all) = λ all e.
            (let q : i + (1 + 2 * length all) ≡ i + 1 + 2 * n = omega (arith, e) in
            subst (λ k. Speaks (behind k (rs ++ lemma_roots all)) (g all)) q (proof-speaks es (i + (1 + 2 * length all)) invs all)) in
            push (between_at bytes i 0 MAX_LEMMAS Count) (λ count. lemmas_at count bytes (i + 1) es []) g
            (between-then bytes i 0 MAX_LEMMAS (λ m. m ≤ MAX_LEMMAS) Count (lemmas_tests bytes n (i + 1) es rs behind)
            (λ count. lemmas_at count bytes (i + 1) es [] >>= g) (λ m p. (omega arith, p)) (λ m p q. q)
            (λ w p. subst (λ r. Speaks (lemmas_tests bytes n (i + 1) es r behind) (lemmas_at n bytes (i + 1) es [] >>= g)) (append-none rs)
            (lemmas-then es (i + 1 + 2 * n) n (i + 1) rs [] behind g refl h)))
        go false =
            let i = j + 1 + 2 * length invs in
            let rs = map (λ p. p.1) invs in
            let q : i ≡ i + 0 = omega arith in
            subst (λ k. Speaks (proof_tests bytes (f.next + 1) i es rs) (proof_read es k invs [])) q
            (subst (λ r. Speaks (proof_tests bytes (f.next + 1) i es r) (proof_read es i invs [])) (append-none rs) (proof-speaks es i invs []))

    invs-speaks : (es : List Tree) (words j : ℕ) → words ≡ length f.code / 4
        → Speaks (invs_part bytes f.version words (f.next + 1) j es) (invs_read es j)
    unfolding decoded_invs
    invs-speaks es words j is =
        let n = number_at bytes j in
        let behind : ℕ → List Tree → FaultTests = λ k rs. lemmas_part bytes f.version (f.next + 1) k es rs in
        let g : List (ℕ × Tree) → Result Contents Fault = λ invs. lemmas_read es j invs in
        subst (λ w. Speaks (invs_part bytes f.version w (f.next + 1) j es) (invs_read es j)) (sym is)
        (push (between_at bytes j 0 MAX_INVS Count) (λ count. invs_at count bytes (j + 1) es (length f.code / 4) 0 []) g
        (between-then bytes j 0 MAX_INVS (λ m. m ≤ MAX_INVS) Count (invs_tests bytes n (j + 1) es (length f.code / 4) 0 [] behind)
        (λ count. invs_at count bytes (j + 1) es (length f.code / 4) 0 [] >>= g) (λ m p. (omega arith, p)) (λ m p q. q)
        (λ w p. invs-then es (length f.code / 4) (j + 1 + 2 * n) n (j + 1) 0 [] behind g refl
        (λ all e. lemmas-speaks es j (j + 1 + 2 * n) all (omega (arith, e))))))

    abbrev front_read : Result Contents Fault
    front_read = decoded_entries f.version bytes f.next >>= λ es. invs_read es.0 es.1

    entries-speak : (words : ℕ) → words ≡ length f.code / 4
        → Speaks (is_lawful bytes f.next (λ n. n ≤ MAX_ENTRIES) Count
        ++ entries_tests bytes f.version (number_at bytes f.next) (f.next + 1) [] (λ j es. invs_part bytes f.version words (f.next + 1) j es)) front_read
    unfolding decoded_entries
    entries-speak words is =
        let n = number_at bytes f.next in
        let behind : ℕ → List Tree → FaultTests = λ j es. invs_part bytes f.version words (f.next + 1) j es in
        let g : (List Tree × ℕ) → Result Contents Fault = λ es. invs_read es.0 es.1 in
        push (between_at bytes f.next 0 MAX_ENTRIES Count) (λ count. entries_at f.version count bytes (f.next + 1) []) g
        (between-then bytes f.next 0 MAX_ENTRIES (λ m. m ≤ MAX_ENTRIES) Count (entries_tests bytes f.version n (f.next + 1) [] behind)
        (λ count. entries_at f.version count bytes (f.next + 1) [] >>= g) (λ m p. (omega arith, p)) (λ m p q. q)
        (λ w p. entries-then bytes f.version n (f.next + 1) [] behind g (λ j es. invs-speaks es words j is)))

  -- ---- the front

  policy-then : (v : ℕ) (rest : FaultTests) (g : Head → Result Contents Fault) → 4 * 2 ≤ length bytes → ((head : Head) → Speaks rest (g head))
      → Speaks (are_whole bytes 2 (policy_size v) ++ rest) (policy_at bytes v >>= g)
  unfolding policy_at
  policy-then v rest g before h = go (is_numbered v)
    where
      go : (b : Bool) → Speaks (are_whole bytes 2 (cond b 1 8) ++ rest)
          (cond b (field_at bytes 2 >>= λ n. Ok (Number n)) (raw_at bytes 2 (cond b 1 8) >>= λ d. Ok (Digest d)) >>= g)
      go true = push (field_at bytes 2) (λ n. Ok (Number n)) g (field-then bytes 2 rest (λ n. Ok (Number n) >>= g) (λ w. h (Number (number_at bytes 2))))
      go false =
          push (raw_at bytes 2 8) (λ d. Ok (Digest d)) g
          (raw-then bytes 2 8 rest (λ d. Ok (Digest d) >>= g) before (λ w. h (Digest (slice_range bytes (4 * 2) (4 * (2 + 8))))))

  bound-then : (v : ℕ) (rest : FaultTests) (g : Option ℕ → Result Contents Fault) → ((bound : Option ℕ) → Speaks rest (g bound))
      → Speaks ((tests_if (is_bounded v) (is_lawful bytes (2 + policy_size v) (λ n. (1 ≤ n) × (n ≤ MAX_BOUND)) Count) []) ++ rest) (step_bound_at bytes v >>= g)
  unfolding step_bound_at
  bound-then v rest g h = go (is_bounded v)
    where
      go : (b : Bool) → Speaks ((tests_if b (is_lawful bytes (2 + policy_size v) (λ n. (1 ≤ n) × (n ≤ MAX_BOUND)) Count) []) ++ rest)
          (cond b (between_at bytes (2 + policy_size v) 1 MAX_BOUND Count >>= λ n. Ok (Some n)) (Ok None) >>= g)
      go true =
          push (between_at bytes (2 + policy_size v) 1 MAX_BOUND Count) (λ n. Ok (Some n)) g
          (between-then bytes (2 + policy_size v) 1 MAX_BOUND (λ n. (1 ≤ n) × (n ≤ MAX_BOUND)) Count rest (λ n. Ok (Some n) >>= g) (λ n p. p) (λ n p q. (p, q))
          (λ w p. h (Some (number_at bytes (2 + policy_size v)))))
      go false = h None

  -- the code's length in words, where it stands whole
  code-words : (i n : ℕ) → 4 * (i + n) ≤ length bytes → n ≡ length (slice_range bytes (4 * i) (4 * (i + n))) / 4
  code-words i n h =
      let slice = slice_range bytes (4 * i) (4 * (i + n)) in
      let long : length slice ≡ 4 * n = omega (arith, h, length-take (4 * (i + n) - 4 * i) (drop (4 * i) bytes), length-drop (4 * i) bytes) in
      omega (arith, long)

  -- the front behind the magic and the version
  abbrev code_step : ℕ → Head → Option ℕ → ℕ → Result Front Fault
  code_step v head bound words = raw_at bytes (code_field v) words >>= λ code. Ok (record {
    version = v;
    head = head;
    bound = bound;
    code = code;
    next = code_field v + words;
  })

  abbrev words_step : ℕ → Head → Option ℕ → Result Front Fault
  words_step v head bound =
      between_at bytes (2 + policy_size v + bound_size v) 1 MAX_WORDS Count >>= λ words. code_step v head bound words

  abbrev bound_step : ℕ → Head → Result Front Fault
  bound_step v head = step_bound_at bytes v >>= λ bound. words_step v head bound

  abbrev version_step : ℕ → Result Front Fault
  version_step v = policy_at bytes v >>= λ head. bound_step v head

  abbrev magic_step : ℕ → Result Front Fault
  magic_step m = between_at bytes 1 1 MAX_VERSION Version >>= λ v. version_step v

  code-speaks : (v : ℕ) (head : Head) (bound : Option ℕ) (words : ℕ) → 4 * code_field v ≤ length bytes
      → Speaks (code_part bytes v words) (code_step v head bound words >>= front_read)
  code-speaks v head bound words before =
      let i = code_field v + words in
      push (raw_at bytes (code_field v) words) (λ code. Ok (record { version = v; head = head; bound = bound; code = code; next = i })) front_read
      (raw-then bytes (code_field v) words (is_lawful bytes i (λ n. n ≤ MAX_ENTRIES) Count
      ++ entries_tests bytes v (number_at bytes i) (i + 1) [] (λ j es. invs_part bytes v words (i + 1) j es))
      (λ code. Ok (record { version = v; head = head; bound = bound; code = code; next = i }) >>= front_read) before
      (λ w. entries-speak (record { version = v; head = head; bound = bound; code = slice_range bytes (4 * code_field v) (4 * i); next = i }) words
      (code-words (code_field v) words w)))

  version-speaks : (v : ℕ) → 4 * 2 ≤ length bytes → Speaks (policy_part bytes v) (version_step v >>= front_read)
  version-speaks v before =
      let k = 2 + policy_size v + bound_size v in
      let n = number_at bytes k in
      let counted = is_lawful bytes k (λ n. (1 ≤ n) × (n ≤ MAX_WORDS)) Count ++ code_part bytes v n in
      let bounded = (tests_if (is_bounded v) (is_lawful bytes (2 + policy_size v) (λ n. (1 ≤ n) × (n ≤ MAX_BOUND)) Count) []) ++ counted in
      push (policy_at bytes v) (bound_step v) front_read
      (policy-then v bounded (λ head. bound_step v head >>= front_read) before
      (λ head. push (step_bound_at bytes v) (words_step v head) front_read
      (bound-then v counted (λ bound. words_step v head bound >>= front_read)
      (λ bound. push (between_at bytes k 1 MAX_WORDS Count) (code_step v head bound) front_read
      (between-then bytes k 1 MAX_WORDS (λ n. (1 ≤ n) × (n ≤ MAX_WORDS)) Count (code_part bytes v n) (λ words. code_step v head bound words >>= front_read)
      (λ n p. p) (λ n p q. (p, q)) (λ w p. code-speaks v head bound n (omega (arith, w))))))))

  pub container-speaks : Speaks (container_tests bytes) (decoded_container bytes)
  unfolding container_tests decoded_container decoded_head
  container-speaks =
      push (exact_at bytes 0 magic Magic) magic_step front_read
      (exact-then bytes 0 magic Magic (is_lawful bytes 1 IsVersion Version ++ policy_part bytes (number_at bytes 1)) (λ m. magic_step m >>= front_read)
      (λ w0. push (between_at bytes 1 1 MAX_VERSION Version) version_step front_read
      (between-then bytes 1 1 MAX_VERSION IsVersion Version (policy_part bytes (number_at bytes 1)) (λ v. version_step v >>= front_read)
      (λ n p. p) (λ n p q. (p, q)) (λ w1 p1. version-speaks (number_at bytes 1) (omega (arith, w1))))))
