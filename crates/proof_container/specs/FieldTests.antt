-- The tests of bytes as a container, in their order: fields are read from the front, and each is tested as soon as it is
-- read. Each test passes, or has a flaw at the offset of its field. What a later test reads are fields that the tests
-- before it found whole. The first test that fails is the first fault.
use Rattle.std.specs.Prelude.{◌≡◌, ◌≢◌, ◌⊎◌, ℕ, zero, suc, ◌+◌, ◌*◌, ◌-◌, ◌≤◌, ◌<◌, ◌==◌, Bool, true, false, if◌then◌else◌, List, [], ◌∷◌, ◌++◌, length, drop, slice_get, Some}
use Rattle.std.specs.Int.{w32, from_le_bytes}
use Rattle.word_ops.specs.Tests.{TestFor, test, FirstFails}
use Rattle.term_table.specs.Tree.{Tree, Var, Con, App, Lam, Num, Lit, Calc, Fact, Deny, Lemma}
use Rattle.term_table.specs.Table.{tree_in}
use Rattle.proof_container.specs.declared.fault.Flaw.{Flaw}
use Rattle.proof_container.specs.declared.fault.Flaw.TheVariants.{Cut, Magic, Version, Count, EntryKind, ForwardRef, DoubleEntry, Order, LambdaHead, InvOrder, Trailing}
use Rattle.proof_container.specs.declared.limits.TheConstants.{MAX_BOUND, MAX_WORDS, MAX_ENTRIES, MAX_INVS, MAX_LEMMAS}
use Rattle.proof_container.specs.Versions.{IsVersion, is_bounded, has_lemmas, policy_size, bound_size, code_field}
use Rattle.proof_container.specs.Postorder.{is_emitted, entries}
use Rattle.proof_container.specs.Encoding.{magic}
use Rattle.proof_container.specs.Decoding.{entry_size}

-- tests, each of which fails with a flaw at an offset
abbrev pub FaultTests : Type 1
FaultTests = List (TestFor (ℕ × Flaw))

-- the first tests if it is so, else the second
abbrev pub tests_if : Bool → FaultTests → FaultTests → FaultTests
tests_if true first second = first
tests_if false first second = second

-- an entry's kind: a lemma is one if the version has some
abbrev pub IsKind : ℕ → ℕ → Type 0
IsKind v kind = (kind ≤ 7) ⊎ ((kind ≡ 8) × (has_lemmas v ≡ true))

-- the entries, from field i on, stand in the order of the walk
abbrev pub order_tests : ℕ → List Tree → List Tree → FaultTests
order_tests i [] walk = []
order_tests i (e ∷ es) walk = test (slice_get walk 0 ≡ Some e) (4 * i, Order) ∷ order_tests (i + entry_size e) es (drop 1 walk)

-- the roots with that of the proof, which a field above 0 names
abbrev pub with_root : ℕ → List Tree → List Tree → List Tree
with_root p es rs = if p == 0 then rs else rs ++ tree_in es (p - 1) ∷ []

module _ (bytes : List ℕ) where
  -- ---- fields, by their number from the front

  -- the number of field i
  abbrev pub number_at : ℕ → ℕ
  number_at i = from_le_bytes w32 (drop (4 * i) bytes)

  -- the word of fields i and i + 1, the low half first
  abbrev pub long_at : ℕ → ℕ
  long_at i = number_at i + 4294967296 * number_at (i + 1)

  -- field i stands whole in the bytes
  abbrev pub is_whole : ℕ → TestFor (ℕ × Flaw)
  is_whole i = test (4 * i + 4 ≤ length bytes) (4 * i, Cut)

  -- so do n fields from field i on
  abbrev pub are_whole : ℕ → ℕ → FaultTests
  are_whole i zero = []
  are_whole i (suc n) = is_whole i ∷ are_whole (i + 1) n

  -- so does field i, and its number is lawful
  abbrev pub is_lawful : ℕ → (ℕ → Type 0) → Flaw → FaultTests
  is_lawful i Lawful flaw = is_whole i ∷ test (Lawful (number_at i)) (4 * i, flaw) ∷ []

  -- ---- entries, the trees of those before being ts

  -- field i names one of them
  abbrev pub is_entry : ℕ → List Tree → FaultTests
  is_entry i ts = is_lawful i (λ e. e < length ts) ForwardRef

  -- the tree of an entry of this kind, whose other fields begin with field i
  abbrev pub tree_of_kind : ℕ → List Tree → ℕ → Tree
  tree_of_kind i ts kind =
      if kind == 0 then Var (number_at i) else
      if kind == 1 then Con (Num (number_at i)) else
      if kind == 2 then Con (Lit (long_at i)) else
      if kind == 3 then Con (Calc (number_at i) (long_at (i + 1)) (long_at (i + 3))) else
      if kind == 4 then Con (Fact (number_at i) (long_at (i + 1)) (long_at (i + 3))) else
      if kind == 5 then Con (Deny (number_at i) (long_at (i + 1)) (long_at (i + 3))) else
      if kind == 6 then App (tree_in ts (number_at i)) (tree_in ts (number_at (i + 1))) else
      if kind == 7 then Lam (tree_in ts (number_at i)) else
      Con (Lemma (number_at i))

  -- the tree of the entry whose kind is field i
  abbrev pub tree_from : ℕ → List Tree → Tree
  tree_from i ts = tree_of_kind (i + 1) ts (number_at i)

  -- the fields behind the kind: what is applied is no abstraction
  abbrev pub operand_tests : ℕ → List Tree → ℕ → FaultTests
  operand_tests i ts kind =
      tests_if (kind == 6)
      (is_entry i ts ++ (test ((b : Tree) → tree_in ts (number_at i) ≢ Lam b) (4 * i, LambdaHead) ∷ is_entry (i + 1) ts))
      (tests_if (kind == 7) (is_entry i ts) (are_whole i (entry_size (tree_of_kind i ts kind) - 1)))

  -- n more entries from field i on, none of which has an earlier one's tree, and then what stands behind them, by its
  -- field and all trees
  unfoldable pub entries_tests : ℕ → ℕ → ℕ → List Tree → (ℕ → List Tree → FaultTests) → FaultTests
  entries_tests v zero i ts behind = behind i ts
  entries_tests v (suc n) i ts behind =
      is_lawful i (IsKind v) EntryKind
      ++ (operand_tests (i + 1) ts (number_at i)
      ++ (test (is_emitted (tree_from i ts) ts ≡ false) (4 * i, DoubleEntry)
      ∷ entries_tests v n (i + entry_size (tree_from i ts)) (ts ++ tree_from i ts ∷ []) behind))

  -- ---- what names entries, whose trees are es: the roots, rs being those before

  -- n more invariants from field i on, the first of which has no index below low, and then what stands behind them
  unfoldable pub invs_tests : ℕ → ℕ → List Tree → ℕ → ℕ → List Tree → (ℕ → List Tree → FaultTests) → FaultTests
  invs_tests zero i es words low rs behind = behind i rs
  invs_tests (suc n) i es words low rs behind =
      is_lawful i (λ k. (low ≤ k) × (k < words)) InvOrder
      ++ (is_entry (i + 1) es
      ++ invs_tests n (i + 2) es words (number_at i + 1) (rs ++ tree_in es (number_at (i + 1)) ∷ []) behind)

  -- n more lemmas, each a formula and its proof
  unfoldable pub lemmas_tests : ℕ → ℕ → List Tree → List Tree → (ℕ → List Tree → FaultTests) → FaultTests
  lemmas_tests zero i es rs behind = behind i rs
  lemmas_tests (suc n) i es rs behind =
      is_entry i es
      ++ (is_entry (i + 1) es
      ++ lemmas_tests n (i + 2) es (rs ++ tree_in es (number_at i) ∷ tree_in es (number_at (i + 1)) ∷ []) behind)

  -- field i is 0 or 1 and the number of the proof's entry; no byte is left; the entries, from field first on, are in order
  abbrev pub proof_tests : ℕ → ℕ → List Tree → List Tree → FaultTests
  proof_tests first i es rs =
      is_lawful i (λ p. p ≤ length es) ForwardRef
      ++ (test (length bytes ≤ 4 * (i + 1)) (4 * (i + 1), Trailing)
      ∷ order_tests first es (entries (with_root (number_at i) es rs)))

  -- ---- the whole, of version v with so many words

  -- the lemmas, where the version has some, from field i on, and the proof
  abbrev pub lemmas_part : ℕ → ℕ → ℕ → List Tree → List Tree → FaultTests
  lemmas_part v first i es rs =
      tests_if (has_lemmas v)
      (is_lawful i (λ n. n ≤ MAX_LEMMAS) Count ++ lemmas_tests (number_at i) (i + 1) es rs (λ j all. proof_tests first j es all))
      (proof_tests first i es rs)

  -- the invariants, whose count is field i, and what stands behind them
  abbrev pub invs_part : ℕ → ℕ → ℕ → ℕ → List Tree → FaultTests
  invs_part v words first i es =
      is_lawful i (λ n. n ≤ MAX_INVS) Count
      ++ invs_tests (number_at i) (i + 1) es words 0 [] (λ j rs. lemmas_part v first j es rs)

  -- the code, the entries, whose count is field i, and what stands behind them
  abbrev pub code_part : ℕ → ℕ → FaultTests
  code_part v words =
      let i = code_field v + words in
      are_whole (code_field v) words
      ++ (is_lawful i (λ n. n ≤ MAX_ENTRIES) Count
      ++ entries_tests v (number_at i) (i + 1) [] (λ j es. invs_part v words (i + 1) j es))

  -- the policy, the bound, if the version has one, and what stands behind them
  abbrev pub policy_part : ℕ → FaultTests
  policy_part v =
      are_whole 2 (policy_size v)
      ++ (tests_if (is_bounded v) (is_lawful (2 + policy_size v) (λ n. (1 ≤ n) × (n ≤ MAX_BOUND)) Count) []
      ++ (is_lawful (2 + policy_size v + bound_size v) (λ n. (1 ≤ n) × (n ≤ MAX_WORDS)) Count
      ++ code_part v (number_at (2 + policy_size v + bound_size v))))

  -- The tests of a container: the magic, the version, and what stands behind them in that version.
  unfoldable pub container_tests : FaultTests
  container_tests = is_lawful 0 (λ n. n ≡ magic) Magic ++ (is_lawful 1 IsVersion Version ++ policy_part (number_at 1))

  -- The first fault in reading the bytes.
  abbrev pub IsFirstFault : ℕ → Flaw → Type 0
  IsFirstFault at flaw = FirstFails container_tests (at, flaw)
