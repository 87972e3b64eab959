-- What bytes read as speaks of the tests of their fields: contents where all pass, else the first that fails.
use Rattle.std.proofs.Common.{◌≡◌, ◌≢◌, inl, inr, ℕ, zero, suc, ◌+◌, ◌*◌, ◌/◌, ◌<◌, ◌≤◌, Bool, true, false, cond, ltb, eqb, ◌||◌}
use Rattle.std.proofs.Common.{List, [], ◌∷◌, ◌++◌, length, Result, Ok, Err, refl, sym, ap}
use Rattle.std.proofs.Common.{◌∙◌, subst, arith}
use Rattle.std.specs.List.{slice_range}
use Rattle.std.proofs.lemmas.Bool.{true≢false, cond_both, ltb-true, ltb-false, eqb-true, eqb-false, ne_eqb, le-ltb, or_from}
use Rattle.std.proofs.lemmas.Bool.{or_parts, cases_eq}
use Rattle.word_ops.specs.Tests.{test, AllPass, FirstFails, Answers}
use Rattle.word_ops.proofs.Tests.{FirstFails-front, Answers-pass, Answers-append}
use Rattle.term_table.specs.Steps.{◌>>=◌}
use Rattle.term_table.specs.Tree.{Tree, Var, Con, App, Lam, Num, Lit, Calc, Fact, Deny, Lemma}
use Rattle.term_table.specs.Table.{tree_in}
use Rattle.proof_container.specs.declared.fault.Flaw.{Flaw}
use Rattle.proof_container.specs.declared.fault.Flaw.TheVariants.{Cut, EntryKind, ForwardRef, DoubleEntry}
use Rattle.proof_container.specs.declared.fault.Flaw.TheVariants.{LambdaHead}
use Rattle.proof_container.specs.Decoding.{Fault, field_at, exact_at, between_at, raw_at, word_at, is_lam, part_at, head_at, application_at}
use Rattle.proof_container.specs.Versions.{has_lemmas}
use Rattle.proof_container.specs.Decoding.{triple_at, kind_at, entry_at, entry_size, entries_at}
use Rattle.proof_container.specs.Postorder.{is_emitted}
use Rattle.proof_container.specs.FieldTests.{FaultTests, IsKind, number_at, long_at, is_whole, are_whole, is_lawful, is_entry, tree_of_kind}
use Rattle.proof_container.specs.FieldTests.{tree_from, operand_tests, entries_tests}

-- ---- tests and steps

-- what is read speaks of the tests: a value where they pass, else the first flaw
pub record Speaks {A : Type 0} (tests : FaultTests) (read : Result A Fault) : Type 0 where
  pub says : Answers tests read

-- a test that passes, before the others
pub passing : {A : Type 0} (P : Type 0) (fault : Fault) {rest : FaultTests} {read : Result A Fault} → P → Speaks rest read
    → Speaks (test P fault ∷ rest) read
passing P fault {rest} {read} p h = record { says = Answers-pass (test P fault) rest read p h.says }

-- a test that fails
pub failing : {A : Type 0} (P : Type 0) (fault : Fault) {rest : FaultTests} → (P → ⊥) → Speaks {A = A} (test P fault ∷ rest) (Err fault)
failing P fault no_pass = record { says = inl (no_pass, refl) }

-- the first step, then the others
pub push : {A B C : Type 0} {tests : FaultTests} (r : Result A Fault) (f : A → Result B Fault) (g : B → Result C Fault)
    → Speaks tests (r >>= λ x. f x >>= g) → Speaks tests ((r >>= f) >>= g)
push (Ok x) f g h = h
push (Err e) f g h = h

-- a step that is a fault where a test is true
pub at_fault : {A B : Type 0} (P : Type 0) (b : Bool) (fault : Fault) (r : Result A Fault) (rest : FaultTests) (g : A → Result B Fault)
    → (b ≡ true → P → ⊥) → (b ≡ false → P × Speaks rest (r >>= g)) → Speaks (test P fault ∷ rest) ((cond b (Err fault) r) >>= g)
at_fault P true fault r rest g no_pass h = failing P fault (no_pass refl)
at_fault P false fault r rest g no_pass h = let both = h refl in passing P fault both.0 both.1

-- a step that is a fault where a test is false
at_pass : {A B : Type 0} (P : Type 0) (b : Bool) (fault : Fault) (r : Result A Fault) (rest : FaultTests) (g : A → Result B Fault)
    → (b ≡ false → P → ⊥) → (b ≡ true → P × Speaks rest (r >>= g)) → Speaks (test P fault ∷ rest) ((cond b r (Err fault)) >>= g)
at_pass P false fault r rest g no_pass h = failing P fault (no_pass refl)
at_pass P true fault r rest g no_pass h = let both = h refl in passing P fault both.0 both.1

lam-is : (t : Tree) → is_lam t ≡ true → ((b : Tree) → t ≢ Lam b) → ⊥
lam-is (Lam b) e p = p b refl
lam-is t e p = absurd cc

not-lam : (t : Tree) → is_lam t ≡ false → (b : Tree) → t ≢ Lam b
not-lam t e b q = true≢false (sym (ap is_lam q) ∙ e)

-- a fault at a field
abbrev pub fault_at : Flaw → ℕ → Fault
fault_at flaw j = (4 * j, flaw)

module _ (bytes : List ℕ) where
  all-whole : (i n : ℕ) → 4 * (i + n) ≤ length bytes → AllPass (are_whole bytes i n)
  all-whole i zero h = tt
  all-whole i (suc n) h = (omega (arith, h), all-whole (i + 1) n (omega (arith, h)))

  first-cut : (i n : ℕ) → 4 * i ≤ length bytes → length bytes < 4 * (i + n) → FirstFails (are_whole bytes i n) (4 * (length bytes / 4), Cut)
  first-cut i zero h k = absurd (omega (arith, h, k))
  first-cut i (suc n) h k = go (λ w. first-cut (i + 1) n w (omega (arith, k))) (ltb (length bytes) (4 * i + 4)) refl
    where
      go : (4 * (i + 1) ≤ length bytes → FirstFails (are_whole bytes (i + 1) n) (4 * (length bytes / 4), Cut)) → (b : Bool)
          → ltb (length bytes) (4 * i + 4) ≡ b → FirstFails (are_whole bytes i (suc n)) (4 * (length bytes / 4), Cut)
      go later true e =
          let short : length bytes < 4 * i + 4 = ltb-true _ _ e in
          let here : length bytes / 4 ≡ i = omega (arith, short, h) in
          inl (λ p. omega (arith, short, p), ap (fault_at Cut) here)
      go later false e = let whole : 4 * i + 4 ≤ length bytes = ltb-false _ _ e in inr (whole, later (omega (arith, whole)))

  -- a number and two words, the second of which begins with field k
  abbrev triple_to : ℕ → ℕ → Result (ℕ × ℕ × ℕ) Fault
  triple_to i k = field_at bytes i >>= λ n. word_at bytes (i + 1) >>= λ a. word_at bytes k >>= λ b. Ok (n, a, b)

module _ (bytes : List ℕ) {B : Type 0} where
  -- ---- fields

  pub field-then : (i : ℕ) (rest : FaultTests) (g : ℕ → Result B Fault) → (4 * i + 4 ≤ length bytes → Speaks rest (g (number_at bytes i)))
      → Speaks (is_whole bytes i ∷ rest) (field_at bytes i >>= g)
  field-then i rest g h =
      at_fault (4 * i + 4 ≤ length bytes) (ltb (length bytes) (4 * i + 4)) (4 * i, Cut) (Ok (number_at bytes i)) rest g
      (λ e p. let n : length bytes < 4 * i + 4 = ltb-true _ _ e in omega (arith, n, p))
      (λ e. let w : 4 * i + 4 ≤ length bytes = ltb-false _ _ e in (w, h w))

  pub exact-then : (i n : ℕ) (flaw : Flaw) (rest : FaultTests) (g : ℕ → Result B Fault)
      → (4 * i + 4 ≤ length bytes → Speaks rest (g (number_at bytes i)))
      → Speaks (is_lawful bytes i (λ m. m ≡ n) flaw ++ rest) (exact_at bytes i n flaw >>= g)
  exact-then i n flaw rest g h =
      let m = number_at bytes i in
      push (field_at bytes i) (λ k. cond (eqb k n) (Ok k) (Err (4 * i, flaw))) g
      (field-then i (test (m ≡ n) (4 * i, flaw) ∷ rest) (λ k. cond (eqb k n) (Ok k) (Err (4 * i, flaw)) >>= g)
      (λ w. at_pass (m ≡ n) (eqb m n) (4 * i, flaw) (Ok m) rest g (λ e p. eqb-false m n e p) (λ e. (eqb-true m n e, h w))))

  pub between-then : (i low high : ℕ) (Lawful : ℕ → Type 0) (flaw : Flaw) (rest : FaultTests) (g : ℕ → Result B Fault)
      → ((n : ℕ) → Lawful n → (low ≤ n) × (n ≤ high)) → ((n : ℕ) → low ≤ n → n ≤ high → Lawful n)
      → (4 * i + 4 ≤ length bytes → Lawful (number_at bytes i) → Speaks rest (g (number_at bytes i)))
      → Speaks (is_lawful bytes i Lawful flaw ++ rest) (between_at bytes i low high flaw >>= g)
  between-then i low high Lawful flaw rest g there back h =
      let m = number_at bytes i in
      push (field_at bytes i) (λ n. cond (ltb n low || ltb high n) (Err (4 * i, flaw)) (Ok n)) g
      (field-then i (test (Lawful m) (4 * i, flaw) ∷ rest) (λ n. cond (ltb n low || ltb high n) (Err (4 * i, flaw)) (Ok n) >>= g)
      (λ w. at_fault (Lawful m) (ltb m low || ltb high m) (4 * i, flaw) (Ok m) rest g
      (λ e p. let in_range = there m p in
      true≢false (sym e ∙ or_from (ltb m low) (ltb high m) (le-ltb m low in_range.0) (le-ltb high m in_range.1)))
      (λ e. let both = or_parts (ltb m low) (ltb high m) e in
      let lawful = back m (ltb-false m low both.0) (ltb-false high m both.1) in
      (lawful, h w lawful))))

  -- ---- fields as they stand

  pub raw-then : (i n : ℕ) (rest : FaultTests) (g : List ℕ → Result B Fault) → 4 * i ≤ length bytes
      → (4 * (i + n) ≤ length bytes → Speaks rest (g (slice_range bytes (4 * i) (4 * (i + n)))))
      → Speaks (are_whole bytes i n ++ rest) (raw_at bytes i n >>= g)
  unfolding raw_at
  raw-then i n rest g before h =
      let tests = are_whole bytes i n in
      cond_both (ltb (length bytes) (4 * (i + n))) (Err (4 * (length bytes / 4), Cut)) (Ok (slice_range bytes (4 * i) (4 * (i + n))))
      (λ r. Speaks (tests ++ rest) (r >>= g))
      (λ e. let short : length bytes < 4 * (i + n) = ltb-true _ _ e in
      record { says = FirstFails-front tests rest (4 * (length bytes / 4), Cut) (first-cut bytes i n before short) })
      (λ e. let whole : 4 * (i + n) ≤ length bytes = ltb-false _ _ e in
      record { says = Answers-append tests rest (g (slice_range bytes (4 * i) (4 * (i + n)))) (all-whole bytes i n whole) (h whole).says })

  -- ---- words

  long-then : (i : ℕ) (rest : FaultTests) (g : ℕ → Result B Fault) → Speaks rest (g (long_at bytes i))
      → Speaks (is_whole bytes i ∷ is_whole bytes (i + 1) ∷ rest) (word_at bytes i >>= g)
  long-then i rest g h =
      push (field_at bytes i) (λ low. field_at bytes (i + 1) >>= λ high. Ok (low + 4294967296 * high)) g
      (field-then i (is_whole bytes (i + 1) ∷ rest) (λ low. (field_at bytes (i + 1) >>= λ high. Ok (low + 4294967296 * high)) >>= g)
      (λ w. push (field_at bytes (i + 1)) (λ high. Ok (number_at bytes i + 4294967296 * high)) g
      (field-then (i + 1) rest (λ high. Ok (number_at bytes i + 4294967296 * high) >>= g) (λ w. h))))

  triple-to-then : (i : ℕ) (rest : FaultTests) (g : (ℕ × ℕ × ℕ) → Result B Fault)
      → Speaks rest (g (number_at bytes i, long_at bytes (i + 1), long_at bytes (i + 1 + 1 + 1)))
      → Speaks (are_whole bytes i 5 ++ rest) (triple_to bytes i (i + 1 + 1 + 1) >>= g)
  triple-to-then i rest g h =
      let n = number_at bytes i in
      let a = long_at bytes (i + 1) in
      let k = i + 1 + 1 + 1 in
      let second = is_whole bytes k ∷ is_whole bytes (k + 1) ∷ rest in
      let first = is_whole bytes (i + 1) ∷ is_whole bytes (i + 1 + 1) ∷ second in
      push (field_at bytes i) (λ n. word_at bytes (i + 1) >>= λ a. word_at bytes k >>= λ b. Ok (n, a, b)) g
      (field-then i first (λ n. (word_at bytes (i + 1) >>= λ a. word_at bytes k >>= λ b. Ok (n, a, b)) >>= g)
      (λ w. push (word_at bytes (i + 1)) (λ a. word_at bytes k >>= λ b. Ok (n, a, b)) g
      (long-then (i + 1) second (λ a. (word_at bytes k >>= λ b. Ok (n, a, b)) >>= g)
      (push (word_at bytes k) (λ b. Ok (n, a, b)) g (long-then k rest (λ b. Ok (n, a, b) >>= g) h)))))

  triple-then : (i : ℕ) (rest : FaultTests) (g : (ℕ × ℕ × ℕ) → Result B Fault)
      → Speaks rest (g (number_at bytes i, long_at bytes (i + 1), long_at bytes (i + 3)))
      → Speaks (are_whole bytes i 5 ++ rest) (triple_at bytes i >>= g)
  triple-then i rest g h =
      let q : i + 1 + 1 + 1 ≡ i + 3 = omega arith in
      subst (λ k. Speaks (are_whole bytes i 5 ++ rest) (triple_to bytes i k >>= g)) q
      (triple-to-then i rest g (subst (λ k. Speaks rest (g (number_at bytes i, long_at bytes (i + 1), long_at bytes k))) (sym q) h))

  -- ---- entries

  pub part-then : (i : ℕ) (ts : List Tree) (rest : FaultTests) (g : Tree → Result B Fault)
      → (4 * i + 4 ≤ length bytes → Speaks rest (g (tree_in ts (number_at bytes i))))
      → Speaks (is_entry bytes i ts ++ rest) (part_at bytes i ts >>= g)
  part-then i ts rest g h =
      let m = number_at bytes i in
      push (field_at bytes i) (λ e. cond (ltb e (length ts)) (Ok (tree_in ts e)) (Err (4 * i, ForwardRef))) g
      (field-then i (test (m < length ts) (4 * i, ForwardRef) ∷ rest)
      (λ e. cond (ltb e (length ts)) (Ok (tree_in ts e)) (Err (4 * i, ForwardRef)) >>= g)
      (λ w. at_pass (m < length ts) (ltb m (length ts)) (4 * i, ForwardRef) (Ok (tree_in ts m)) rest g
      (λ e p. let past : length ts ≤ m = ltb-false _ _ e in omega (arith, past, p)) (λ e. (ltb-true _ _ e, h w))))

  head-then : (i : ℕ) (ts : List Tree) (rest : FaultTests) (g : Tree → Result B Fault)
      → Speaks rest (g (tree_in ts (number_at bytes i)))
      → Speaks (is_entry bytes i ts ++ (test ((b : Tree) → tree_in ts (number_at bytes i) ≢ Lam b) (4 * i, LambdaHead) ∷ rest)) (head_at bytes i ts >>= g)
  head-then i ts rest g h =
      let f = tree_in ts (number_at bytes i) in
      push (part_at bytes i ts) (λ f. cond (is_lam f) (Err (4 * i, LambdaHead)) (Ok f)) g
      (part-then i ts (test ((b : Tree) → f ≢ Lam b) (4 * i, LambdaHead) ∷ rest) (λ f. cond (is_lam f) (Err (4 * i, LambdaHead)) (Ok f) >>= g)
      (λ w. at_fault ((b : Tree) → f ≢ Lam b) (is_lam f) (4 * i, LambdaHead) (Ok f) rest g (lam-is f) (λ e. (not-lam f e, h))))

  application-then : (i : ℕ) (ts : List Tree) (rest : FaultTests) (g : Tree → Result B Fault)
      → Speaks rest (g (App (tree_in ts (number_at bytes i)) (tree_in ts (number_at bytes (i + 1)))))
      → Speaks (is_entry bytes i ts
      ++ (test ((b : Tree) → tree_in ts (number_at bytes i) ≢ Lam b) (4 * i, LambdaHead) ∷ (is_entry bytes (i + 1) ts ++ rest)))
      (application_at bytes i ts >>= g)
  application-then i ts rest g h =
      let f = tree_in ts (number_at bytes i) in
      push (head_at bytes i ts) (λ f. part_at bytes (i + 1) ts >>= λ a. Ok (App f a)) g
      (head-then i ts (is_entry bytes (i + 1) ts ++ rest) (λ f. (part_at bytes (i + 1) ts >>= λ a. Ok (App f a)) >>= g)
      (push (part_at bytes (i + 1) ts) (λ a. Ok (App f a)) g (part-then (i + 1) ts rest (λ a. Ok (App f a) >>= g) (λ w. h))))

  -- the entry of each kind
  module _ (v i : ℕ) (ts : List Tree) (rest : FaultTests) (g : Tree → Result B Fault) where
    abbrev KindSpeaks : ℕ → Type 0
    KindSpeaks kind =
        Speaks rest (g (tree_of_kind bytes (i + 1) ts kind))
        → Speaks (test (IsKind v kind) (4 * i, EntryKind) ∷ (operand_tests bytes (i + 1) ts kind ++ rest)) (kind_at v bytes i ts kind >>= g)

    -- a kind of each version
    each-kind : (kind : ℕ) → kind ≤ 7
        → (Speaks rest (g (tree_of_kind bytes (i + 1) ts kind))
        → Speaks (operand_tests bytes (i + 1) ts kind ++ rest) (kind_at v bytes i ts kind >>= g)) → KindSpeaks kind
    each-kind kind le says h = passing (IsKind v kind) (4 * i, EntryKind) (inl le) (says h)

    speaks-0 : KindSpeaks 0
    unfolding kind_at
    speaks-0 = each-kind 0 (omega arith) (λ h. push (field_at bytes (i + 1)) (λ n. Ok (Var n)) g
        (field-then (i + 1) rest (λ n. Ok (Var n) >>= g) (λ w. h)))

    speaks-1 : KindSpeaks 1
    unfolding kind_at
    speaks-1 = each-kind 1 (omega arith) (λ h. push (field_at bytes (i + 1)) (λ n. Ok (Con (Num n))) g
        (field-then (i + 1) rest (λ n. Ok (Con (Num n)) >>= g) (λ w. h)))

    speaks-2 : KindSpeaks 2
    unfolding kind_at
    speaks-2 = each-kind 2 (omega arith) (λ h. push (word_at bytes (i + 1)) (λ w. Ok (Con (Lit w))) g
        (long-then (i + 1) rest (λ w. Ok (Con (Lit w)) >>= g) h))

    speaks-3 : KindSpeaks 3
    unfolding kind_at
    speaks-3 = each-kind 3 (omega arith) (λ h. push (triple_at bytes (i + 1)) (λ t. Ok (Con (Calc t.0 t.1 t.2))) g
        (triple-then (i + 1) rest (λ t. Ok (Con (Calc t.0 t.1 t.2)) >>= g) h))

    speaks-4 : KindSpeaks 4
    unfolding kind_at
    speaks-4 = each-kind 4 (omega arith) (λ h. push (triple_at bytes (i + 1)) (λ t. Ok (Con (Fact t.0 t.1 t.2))) g
        (triple-then (i + 1) rest (λ t. Ok (Con (Fact t.0 t.1 t.2)) >>= g) h))

    speaks-5 : KindSpeaks 5
    unfolding kind_at
    speaks-5 = each-kind 5 (omega arith) (λ h. push (triple_at bytes (i + 1)) (λ t. Ok (Con (Deny t.0 t.1 t.2))) g
        (triple-then (i + 1) rest (λ t. Ok (Con (Deny t.0 t.1 t.2)) >>= g) h))

    speaks-6 : KindSpeaks 6
    unfolding kind_at
    speaks-6 = each-kind 6 (omega arith) (λ h. application-then (i + 1) ts rest g h)

    speaks-7 : KindSpeaks 7
    unfolding kind_at
    speaks-7 = each-kind 7 (omega arith) (λ h. push (part_at bytes (i + 1) ts) (λ b. Ok (Lam b)) g
        (part-then (i + 1) ts rest (λ b. Ok (Lam b) >>= g) (λ w. h)))

    speaks-8 : KindSpeaks 8
    unfolding kind_at
    speaks-8 h =
        cond_both (has_lemmas v) (field_at bytes (i + 1) >>= λ n. Ok (Con (Lemma n))) (Err (4 * i, EntryKind))
        (λ r. Speaks (test (IsKind v 8) (4 * i, EntryKind) ∷ (is_whole bytes (i + 1) ∷ rest)) (r >>= g))
        (λ e. passing (IsKind v 8) (4 * i, EntryKind) (inr (refl, e))
        (push (field_at bytes (i + 1)) (λ n. Ok (Con (Lemma n))) g (field-then (i + 1) rest (λ n. Ok (Con (Lemma n)) >>= g) (λ w. h))))
        (λ e. failing (IsKind v 8) (4 * i, EntryKind) (no_kind e))
      where
        no_kind : has_lemmas v ≡ false → IsKind v 8 → ⊥
        no_kind e (inl le) = omega (arith, le)
        no_kind e (inr eight) = true≢false (sym eight.1 ∙ e)

    -- another is none
    module _ (kind : ℕ) (n0 : kind ≢ 0) (n1 : kind ≢ 1) (n2 : kind ≢ 2) (n3 : kind ≢ 3) (n4 : kind ≢ 4) (n5 : kind ≢ 5) (n6 : kind ≢ 6)
        (n7 : kind ≢ 7) (n8 : kind ≢ 8) where
      other-is : kind_at v bytes i ts kind ≡ Err (4 * i, EntryKind)
      unfolding kind_at
      other-is =
          let e0 = ne_eqb kind 0 n0 in
          let e1 = ne_eqb kind 1 n1 in
          let e2 = ne_eqb kind 2 n2 in
          let e3 = ne_eqb kind 3 n3 in
          let e4 = ne_eqb kind 4 n4 in
          let e5 = ne_eqb kind 5 n5 in
          let e6 = ne_eqb kind 6 n6 in
          let e7 = ne_eqb kind 7 n7 in
          let e8 = ne_eqb kind 8 n8 in
          rw (e0, e1, e2, e3, e4, e5, e6, e7, e8) refl

      no_kind : IsKind v kind → ⊥
      no_kind (inl le) = omega (arith, le, n0, n1, n2, n3, n4, n5, n6, n7)
      no_kind (inr eight) = n8 eight.0

      speaks-other : KindSpeaks kind
      speaks-other h =
          subst (λ r. Speaks (test (IsKind v kind) (4 * i, EntryKind) ∷ (operand_tests bytes (i + 1) ts kind ++ rest)) (r >>= g)) (sym other-is)
          (failing (IsKind v kind) (4 * i, EntryKind) no_kind)

    at-kind : (kind k : ℕ) → KindSpeaks k → (kind ≢ k → KindSpeaks kind) → KindSpeaks kind
    at-kind kind k here other = elim (cases_eq kind k) [ inl e ↦ subst KindSpeaks (sym e) here | inr ne ↦ other ne ]

    kind-speaks : (kind : ℕ) → KindSpeaks kind
    kind-speaks kind =
        at-kind kind 0 speaks-0 (λ n0. at-kind kind 1 speaks-1 (λ n1. at-kind kind 2 speaks-2 (λ n2. at-kind kind 3 speaks-3
        (λ n3. at-kind kind 4 speaks-4 (λ n4. at-kind kind 5 speaks-5 (λ n5. at-kind kind 6 speaks-6 (λ n6. at-kind kind 7 speaks-7
        (λ n7. at-kind kind 8 speaks-8 (λ n8. speaks-other kind n0 n1 n2 n3 n4 n5 n6 n7 n8)))))))))

    entry-then : Speaks rest (g (tree_from bytes i ts))
        → Speaks (is_lawful bytes i (IsKind v) EntryKind ++ (operand_tests bytes (i + 1) ts (number_at bytes i) ++ rest)) (entry_at v bytes i ts >>= g)
    entry-then h =
        push (field_at bytes i) (λ kind. kind_at v bytes i ts kind) g
        (field-then i _ (λ kind. kind_at v bytes i ts kind >>= g) (λ w. kind-speaks (number_at bytes i) h))

  pub entries-then : (v n i : ℕ) (ts : List Tree) (behind : ℕ → List Tree → FaultTests) (g : (List Tree × ℕ) → Result B Fault)
      → ((j : ℕ) (es : List Tree) → Speaks (behind j es) (g (es, j))) → Speaks (entries_tests bytes v n i ts behind) (entries_at v n bytes i ts >>= g)
  unfolding entries_tests entries_at
  entries-then v zero i ts behind g h = h i ts
  entries-then v (suc n) i ts behind g h =
      let t = tree_from bytes i ts in
      let later = entries_tests bytes v n (i + entry_size t) (ts ++ t ∷ []) behind in
      push (entry_at v bytes i ts) (λ t. cond (is_emitted t ts) (Err (4 * i, DoubleEntry)) (entries_at v n bytes (i + entry_size t) (ts ++ t ∷ []))) g
      (entry-then v i ts (test (is_emitted t ts ≡ false) (4 * i, DoubleEntry) ∷ later)
      (λ t. cond (is_emitted t ts) (Err (4 * i, DoubleEntry)) (entries_at v n bytes (i + entry_size t) (ts ++ t ∷ [])) >>= g)
      (at_fault (is_emitted t ts ≡ false) (is_emitted t ts) (4 * i, DoubleEntry) (entries_at v n bytes (i + entry_size t) (ts ++ t ∷ [])) later g
      (λ e p. true≢false (sym e ∙ p)) (λ e. (e, entries-then v n (i + entry_size t) (ts ++ t ∷ []) behind g h))))
