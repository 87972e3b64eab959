-- The tests of bytes as a container are sharp, so that their first flaw is the fault that reading them gives.
use Rattle.std.proofs.Common.{◌≡◌, ◌↔◌, ℕ, zero, suc, ◌+◌, ◌-◌, ◌<◌, ◌≤◌, Bool, true, false, eqb, List, [], ◌∷◌, ◌++◌}
use Rattle.std.proofs.Common.{length, drop}
use Rattle.std.proofs.Common.{Result, Ok, Err, sym, ◌∙◌}
use Rattle.word_ops.specs.Tests.{test, AllPass, AreSharp}
use Rattle.word_ops.proofs.Tests.{test-sharp, AreSharp-append, flaw-exactly, value-exactly}
use Rattle.term_table.specs.Bytes.{IsBytes}
use Rattle.term_table.specs.Tree.{Tree}
use Rattle.term_table.specs.Table.{tree_in}
use Rattle.proof_container.specs.declared.fault.Flaw.{Flaw}
use Rattle.proof_container.specs.declared.fault.Flaw.TheVariants.{Magic, Version, Count, EntryKind, ForwardRef}
use Rattle.proof_container.specs.declared.fault.Flaw.TheVariants.{InvOrder}
use Rattle.proof_container.specs.declared.limits.TheConstants.{MAX_BOUND, MAX_WORDS, MAX_ENTRIES, MAX_INVS, MAX_LEMMAS}
use Rattle.proof_container.specs.Versions.{IsVersion, is_bounded, has_lemmas, policy_size, bound_size, code_field}
use Rattle.proof_container.specs.Contents.{Contents}
use Rattle.proof_container.specs.Postorder.{entries}
use Rattle.proof_container.specs.Encoding.{EncodesContents, magic}
use Rattle.proof_container.specs.Decoding.{Fault, entry_size, decoded_container}
use Rattle.proof_container.specs.FieldTests.{FaultTests, tests_if, IsKind, order_tests, with_root, number_at, are_whole}
use Rattle.proof_container.specs.FieldTests.{is_lawful, is_entry, tree_of_kind, tree_from}
use Rattle.proof_container.specs.FieldTests.{operand_tests, entries_tests, invs_tests, lemmas_tests, proof_tests, lemmas_part, invs_part}
use Rattle.proof_container.specs.FieldTests.{code_part, policy_part}
use Rattle.proof_container.specs.FieldTests.{container_tests, IsFirstFault}
use Rattle.proof_container.proofs.ContainerTests.{container-speaks}
use Rattle.proof_container.proofs.Whole.{container_takes, container_again}

-- the tests are sharp
record AllSharp (tests : FaultTests) : Type 0 where
  each : AreSharp tests

one-more : {P : Type 0} {fault : Fault} {rest : FaultTests} → AllSharp rest → AllSharp (test P fault ∷ rest)
one-more {P} {fault} h = record { each = (test-sharp P fault, h.each) }

appended : (front : FaultTests) {rest : FaultTests} → AllSharp front → AllSharp rest → AllSharp (front ++ rest)
appended front {rest} h k = record { each = AreSharp-append front rest h.each k.each }

no-more : AllSharp []
no-more = record { each = tt }

order-sharp : (i : ℕ) (es walk : List Tree) → AllSharp (order_tests i es walk)
order-sharp i [] walk = no-more
order-sharp i (e ∷ es) walk = one-more (order-sharp (i + entry_size e) es (drop 1 walk))

-- a choice of tests
choice-sharp : (b : Bool) {x y : FaultTests} → AllSharp x → AllSharp y → AllSharp (tests_if b x y)
choice-sharp true h k = h
choice-sharp false h k = k

module _ (bytes : List ℕ) where
  whole-sharp : (i n : ℕ) → AllSharp (are_whole bytes i n)
  whole-sharp i zero = no-more
  whole-sharp i (suc n) = one-more (whole-sharp (i + 1) n)

  lawful-sharp : (i : ℕ) (P : ℕ → Type 0) (flaw : Flaw) {rest : FaultTests} → AllSharp rest → AllSharp (is_lawful bytes i P flaw ++ rest)
  lawful-sharp i P flaw h = one-more (one-more h)

  entry-sharp : (i : ℕ) (ts : List Tree) {rest : FaultTests} → AllSharp rest → AllSharp (is_entry bytes i ts ++ rest)
  entry-sharp i ts h = one-more (one-more h)

  operand-sharp : (i : ℕ) (ts : List Tree) (kind : ℕ) → AllSharp (operand_tests bytes i ts kind)
  operand-sharp i ts kind =
      choice-sharp (eqb kind 6) (one-more (one-more (one-more (one-more (one-more no-more)))))
      (choice-sharp (eqb kind 7) (one-more (one-more no-more)) (whole-sharp i (entry_size (tree_of_kind bytes i ts kind) - 1)))

  -- what stands behind, by its field and the trees so far
  abbrev IsSharpBehind : (ℕ → List Tree → FaultTests) → Type 0
  IsSharpBehind behind = (j : ℕ) (ts : List Tree) → AllSharp (behind j ts)

  entries-sharp : (v n i : ℕ) (ts : List Tree) (behind : ℕ → List Tree → FaultTests) → IsSharpBehind behind
      → AllSharp (entries_tests bytes v n i ts behind)
  unfolding entries_tests
  entries-sharp v zero i ts behind h = h i ts
  entries-sharp v (suc n) i ts behind h =
      lawful-sharp i (IsKind v) EntryKind (appended (operand_tests bytes (i + 1) ts (number_at bytes i))
      (operand-sharp (i + 1) ts (number_at bytes i))
      (one-more (entries-sharp v n (i + entry_size (tree_from bytes i ts)) (ts ++ tree_from bytes i ts ∷ []) behind h)))

  invs-sharp : (n i : ℕ) (es : List Tree) (words low : ℕ) (rs : List Tree) (behind : ℕ → List Tree → FaultTests) → IsSharpBehind behind
      → AllSharp (invs_tests bytes n i es words low rs behind)
  unfolding invs_tests
  invs-sharp zero i es words low rs behind h = h i rs
  invs-sharp (suc n) i es words low rs behind h =
      lawful-sharp i (λ k. (low ≤ k) × (k < words)) InvOrder (entry-sharp (i + 1) es
      (invs-sharp n (i + 2) es words (number_at bytes i + 1) (rs ++ tree_in es (number_at bytes (i + 1)) ∷ []) behind h))

  lemmas-sharp : (n i : ℕ) (es rs : List Tree) (behind : ℕ → List Tree → FaultTests) → IsSharpBehind behind
      → AllSharp (lemmas_tests bytes n i es rs behind)
  unfolding lemmas_tests
  lemmas-sharp zero i es rs behind h = h i rs
  lemmas-sharp (suc n) i es rs behind h =
      entry-sharp i es (entry-sharp (i + 1) es
      (lemmas-sharp n (i + 2) es (rs ++ tree_in es (number_at bytes i) ∷ tree_in es (number_at bytes (i + 1)) ∷ []) behind h))

  proof-sharp : (first i : ℕ) (es rs : List Tree) → AllSharp (proof_tests bytes first i es rs)
  proof-sharp first i es rs =
      lawful-sharp i (λ p. p ≤ length es) ForwardRef (one-more (order-sharp first es (entries (with_root (number_at bytes i) es rs))))

  lemmas-part-sharp : (v first i : ℕ) (es rs : List Tree) → AllSharp (lemmas_part bytes v first i es rs)
  lemmas-part-sharp v first i es rs =
      choice-sharp (has_lemmas v) (lawful-sharp i (λ n. n ≤ MAX_LEMMAS) Count
      (lemmas-sharp (number_at bytes i) (i + 1) es rs (λ j all. proof_tests bytes first j es all) (λ j all. proof-sharp first j es all)))
      (proof-sharp first i es rs)

  invs-part-sharp : (v words first i : ℕ) (es : List Tree) → AllSharp (invs_part bytes v words first i es)
  invs-part-sharp v words first i es =
      lawful-sharp i (λ n. n ≤ MAX_INVS) Count (invs-sharp (number_at bytes i) (i + 1) es words 0 []
      (λ j rs. lemmas_part bytes v first j es rs) (λ j rs. lemmas-part-sharp v first j es rs))

  code-part-sharp : (v words : ℕ) → AllSharp (code_part bytes v words)
  code-part-sharp v words =
      let i = code_field v + words in
      appended (are_whole bytes (code_field v) words) (whole-sharp (code_field v) words)
      (lawful-sharp i (λ n. n ≤ MAX_ENTRIES) Count (entries-sharp v (number_at bytes i) (i + 1) []
      (λ j es. invs_part bytes v words (i + 1) j es) (λ j es. invs-part-sharp v words (i + 1) j es)))

  policy-part-sharp : (v : ℕ) → AllSharp (policy_part bytes v)
  policy-part-sharp v =
      let k = 2 + policy_size v + bound_size v in
      appended (are_whole bytes 2 (policy_size v)) (whole-sharp 2 (policy_size v))
      (appended (tests_if (is_bounded v) (is_lawful bytes (2 + policy_size v) (λ n. (1 ≤ n) × (n ≤ MAX_BOUND)) Count) [])
      (choice-sharp (is_bounded v) (one-more (one-more no-more)) no-more)
      (lawful-sharp k (λ n. (1 ≤ n) × (n ≤ MAX_WORDS)) Count (code-part-sharp v (number_at bytes k))))

  container-sharp : AllSharp (container_tests bytes)
  unfolding container_tests
  container-sharp = lawful-sharp 0 (λ n. n ≡ magic) Magic (lawful-sharp 1 IsVersion Version (policy-part-sharp (number_at bytes 1)))

  -- ---- the laws

  -- the fault that reading gives is the first, and no other
  pub fault-exactly : (at : ℕ) (flaw : Flaw) → (decoded_container bytes ≡ Err (at, flaw)) ↔ IsFirstFault bytes at flaw
  fault-exactly at flaw = flaw-exactly (container_tests bytes) container-sharp.each (decoded_container bytes) (container-speaks bytes).says (at, flaw)

  -- bytes with a first fault encode no contents
  pub faulty-none : (at : ℕ) (flaw : Flaw) (c : Contents) → IsFirstFault bytes at flaw → EncodesContents bytes c → ⊥
  faulty-none at flaw c first encoded =
      let both : ◌≡◌ {A = Result Contents Fault} (Err (at, flaw)) (Ok c) = sym ((fault-exactly at flaw).1 first) ∙ container_again bytes c encoded in
      absurd cc

  -- bytes encode contents exactly where all tests pass
  pub passes-exactly : IsBytes bytes → ((c : Contents) × EncodesContents bytes c) ↔ AllPass (container_tests bytes)
  passes-exactly fits =
      let value = value-exactly (container_tests bytes) container-sharp.each (decoded_container bytes) (container-speaks bytes).says in
      (λ e. value.0 (e.0, container_again bytes e.0 e.1), λ pass. let c = value.1 pass in (c.0, container_takes bytes c.0 fits c.1))
