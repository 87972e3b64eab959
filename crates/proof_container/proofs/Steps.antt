-- Reading entries, invariants and lemmas one after the other, as a loop does: what is still read is what was to be read.
use Rattle.std.proofs.Common.{◌≡◌, ℕ, suc, ◌+◌, ◌*◌, ◌-◌, ◌<◌, ◌≤◌, true, false, List, [], ◌∷◌, ◌++◌, Result, Ok, Err, refl, sym, ◌∙◌, arith}
use Rattle.term_table.specs.Tree.{Tree}
use Rattle.proof_container.specs.declared.fault.Flaw.TheVariants.{DoubleEntry}
use Rattle.proof_container.specs.declared.fault.Malformed.{Malformed}
use Rattle.proof_container.specs.declared.fault.Malformed.TheVariants as malformed
use Rattle.proof_container.specs.Postorder.{is_emitted}
use Rattle.proof_container.specs.Decoding.{Fault, entry_at, entry_size, entries_at, inv_at, invs_at, part_at, lemmas_at}
use Rattle.proof_container.specs.Views.{IsFault}

-- ---- entries: of n, k were read, the trees ts, and field i comes next

module _ (v n k : ℕ) (bytes : List ℕ) (i : ℕ) (ts : List Tree) (total : Result (List Tree × ℕ) Fault) (so_far : entries_at v (n - k) bytes i ts ≡ total) where
  pub entries_go_on : (t : Tree) → k < n → entry_at v bytes i ts ≡ Ok t → is_emitted t ts ≡ false → entries_at v (n - (k + 1)) bytes (i + entry_size t) (ts ++ t ∷ []) ≡ total
  unfolding entries_at
  entries_go_on t lt here new =
      let left : n - k ≡ suc (n - (k + 1)) = omega arith in
      let one : entries_at v (n - k) bytes i ts ≡ entries_at v (n - (k + 1)) bytes (i + entry_size t) (ts ++ t ∷ []) = rw (left, here, new) refl in
      sym one ∙ so_far

  pub entries_fault : (e : Malformed) → k < n → IsFault (entry_at v bytes i ts) e → IsFault total e
  unfolding entries_at
  entries_fault (malformed.At offset flaw) lt here =
      let left : n - k ≡ suc (n - (k + 1)) = omega arith in
      let one : entries_at v (n - k) bytes i ts ≡ Err (offset, flaw) = rw (left, here) refl in
      sym so_far ∙ one
  entries_fault malformed.Memory lt here = tt

  pub entries_double : (t : Tree) → k < n → entry_at v bytes i ts ≡ Ok t → is_emitted t ts ≡ true → total ≡ Err (4 * i, DoubleEntry)
  unfolding entries_at
  entries_double t lt here old =
      let left : n - k ≡ suc (n - (k + 1)) = omega arith in
      let one : entries_at v (n - k) bytes i ts ≡ Err (4 * i, DoubleEntry) = rw (left, here, old) refl in
      sym so_far ∙ one

  pub entries_done : n ≤ k → total ≡ Ok (ts, i)
  unfolding entries_at
  entries_done le =
      let left : n - k ≡ 0 = omega arith in
      let one : entries_at v (n - k) bytes i ts ≡ Ok (ts, i) = rw left refl in
      sym so_far ∙ one

-- ---- invariants: of n, k were read, which are invs, and the next index is at least low

module _ (n k : ℕ) (bytes : List ℕ) (i : ℕ) (es : List Tree) (words low : ℕ) (invs : List (ℕ × Tree)) (total : Result (List (ℕ × Tree)) Fault) (so_far : invs_at (n - k) bytes i es words low invs ≡ total) where
  pub invs_go_on : (inv : ℕ × Tree) → k < n → inv_at bytes i es words low ≡ Ok inv → invs_at (n - (k + 1)) bytes (i + 2) es words (inv.0 + 1) (invs ++ inv ∷ []) ≡ total
  unfolding invs_at
  invs_go_on inv lt here =
      let left : n - k ≡ suc (n - (k + 1)) = omega arith in
      let one : invs_at (n - k) bytes i es words low invs ≡ invs_at (n - (k + 1)) bytes (i + 2) es words (inv.0 + 1) (invs ++ inv ∷ []) = rw (left, here) refl in
      sym one ∙ so_far

  pub invs_fault : (e : Malformed) → k < n → IsFault (inv_at bytes i es words low) e → IsFault total e
  unfolding invs_at
  invs_fault (malformed.At offset flaw) lt here =
      let left : n - k ≡ suc (n - (k + 1)) = omega arith in
      let one : invs_at (n - k) bytes i es words low invs ≡ Err (offset, flaw) = rw (left, here) refl in
      sym so_far ∙ one
  invs_fault malformed.Memory lt here = tt

  pub invs_done : n ≤ k → total ≡ Ok invs
  unfolding invs_at
  invs_done le =
      let left : n - k ≡ 0 = omega arith in
      let one : invs_at (n - k) bytes i es words low invs ≡ Ok invs = rw left refl in
      sym so_far ∙ one

-- ---- lemmas: of n, k were read, which are lemmas

module _
    (n k : ℕ)
    (bytes : List ℕ)
    (i : ℕ)
    (es : List Tree)
    (lemmas : List (Tree × Tree))
    (total : Result (List (Tree × Tree)) Fault)
    (so_far : lemmas_at (n - k) bytes i es lemmas ≡ total) where
  pub lemmas_go_on : (formula proof : Tree) → k < n → part_at bytes i es ≡ Ok formula
      → part_at bytes (i + 1) es ≡ Ok proof
      → lemmas_at (n - (k + 1)) bytes (i + 2) es (lemmas ++ (formula, proof) ∷ []) ≡ total
  unfolding lemmas_at
  lemmas_go_on formula proof lt first second =
      let left : n - k ≡ suc (n - (k + 1)) = omega arith in
      let more : List (Tree × Tree) = lemmas ++ (formula, proof) ∷ [] in
      let one : lemmas_at (n - k) bytes i es lemmas ≡ lemmas_at (n - (k + 1)) bytes (i + 2) es more =
      rw (left, first, second) refl in
      sym one ∙ so_far

  pub formula_fault : (e : Malformed) → k < n → IsFault (part_at bytes i es) e → IsFault total e
  unfolding lemmas_at
  formula_fault (malformed.At offset flaw) lt here =
      let left : n - k ≡ suc (n - (k + 1)) = omega arith in
      let one : lemmas_at (n - k) bytes i es lemmas ≡ Err (offset, flaw) = rw (left, here) refl in
      sym so_far ∙ one
  formula_fault malformed.Memory lt here = tt

  pub lemma_fault : (formula : Tree) (e : Malformed) → k < n → part_at bytes i es ≡ Ok formula
      → IsFault (part_at bytes (i + 1) es) e → IsFault total e
  unfolding lemmas_at
  lemma_fault formula (malformed.At offset flaw) lt first here =
      let left : n - k ≡ suc (n - (k + 1)) = omega arith in
      let one : lemmas_at (n - k) bytes i es lemmas ≡ Err (offset, flaw) = rw (left, first, here) refl in
      sym so_far ∙ one
  lemma_fault formula malformed.Memory lt first here = tt

  pub lemmas_done : n ≤ k → total ≡ Ok lemmas
  unfolding lemmas_at
  lemmas_done le =
      let left : n - k ≡ 0 = omega arith in
      let one : lemmas_at (n - k) bytes i es lemmas ≡ Ok lemmas = rw left refl in
      sym so_far ∙ one
