-- How long the code of a program is unfolded, where the first word of each block is annotated.
use Rattle.std.proofs.Common.{◌≡◌, ℕ, zero, suc, ◌+◌, ◌-◌, ◌*◌, ◌/◌, ◌%◌, ◌<◌, ◌≤◌, Bool, true, false, cond, inl, inr, List, [], ◌∷◌, length, Option, Some, None, refl, sym, ap, ◌∙◌, subst, arith}
use Rattle.std.specs.Prelude.{slice_index_or}
use Rattle.std.proofs.lemmas.Bool.{cases_Bool, false≢true}
use Rattle.std.proofs.lemmas.Option.{none-some, same_Some}
use Rattle.alpha_words.specs.declared.insn.Insn.{Insn}
use Rattle.alpha_cfg.specs.declared.graph.Exits.{Exits}
use Rattle.alpha_cfg.specs.Flow.{jump_of, next_of}
use Rattle.alpha_cfg.specs.Graph.{IsMarked, share, no_exits, length_within, length_from}
use Rattle.alpha_cfg.specs.Cuts.{unmarked_exit, exits_of, exits_from, graph_of, marked_sum, unfolded_of}
use Rattle.bpf_words.specs.declared.insn.Bpf.{Bpf}
use Rattle.bpf_words.specs.Programs.{IsProgram}
use Rattle.bpf_code.specs.Blocks.{bpf_code}
use Rattle.bpf_code.proofs.Starting.{length-bpf_code}
use Rattle.bpf_code.proofs.Shapes.{IsBlockStart, IsFit, AreFit, fits, goes_next}

-- ---- exits

-- where all that an exit may lead to is annotated, it isn't followed
exit-none : (marks : List Bool) (o : Option ℕ) → ((j : ℕ) → o ≡ Some j → IsMarked marks j) → unmarked_exit marks o ≡ None
exit-none marks None h = refl
exit-none marks (Some j) h = ap (λ b. cond b None (Some j)) (h j refl)

-- an exit that is followed leads to an index that isn't annotated
exit-some : (marks : List Bool) (o : Option ℕ) (k : ℕ) → unmarked_exit marks o ≡ Some k → (o ≡ Some k) × (IsMarked marks k → ⊥)
exit-some marks None k e = absurd (none-some k e)
exit-some marks (Some j) k e =
    elim (cases_Bool (slice_index_or marks j false)) [
      | inl stops ↦ absurd (none-some k (sym (ap (λ b. cond b None (Some j)) stops) ∙ e))
      | inr free ↦
          let same : j ≡ k = same_Some j k (sym (ap (λ b. cond b None (Some j)) free) ∙ e) in
          (ap Some same, λ marked. false≢true (sym free ∙ subst (IsMarked marks) (sym same) marked))
    ]

-- from index i no jump is followed, and the next word alone, which begins no block
record GoesOn (i : ℕ) (e : Exits) : Type 0 where
  jump : e.jump ≡ None
  next : (k : ℕ) → e.next ≡ Some k → (k ≡ i + 1) × (k % 20 ≡ 0 → ⊥)

past-goes : (i : ℕ) → GoesOn i no_exits
past-goes i = record { jump = refl; next = λ k e. absurd (none-some k e) }

module _ (n : ℕ) (marks : List Bool) (annotated : (j : ℕ) → IsBlockStart n j → IsMarked marks j) where
  word-goes : (i : ℕ) (x : Insn) → i < n → IsFit n i x → GoesOn i (exits_of marks i x)
  word-goes i x within fit = record {
    jump = exit-none marks (jump_of i x) (λ j e. annotated j (fit.lands j e));
    next = λ k e.
        let to : (next_of i x ≡ Some k) × (IsMarked marks k → ⊥) = exit-some marks (next_of i x) k e in
        let on = goes_next i x k to.0 in
        let k_is : k ≡ i + 1 = on.0 in
        let further : i + 1 ≡ n → ⊥ = λ last. on.1 (fit.final last) in
        let below : k < n = omega (arith, k_is, within, further) in
        (k_is, λ first. let place : k ≡ 20 * (k / 20) = omega (arith, first) in to.1 (annotated k (k / 20, omega (arith, below, place), place)));
  }

  exits-go : (i : ℕ) (l : List Insn) (m : ℕ) → i + length l ≤ n → AreFit n i l → GoesOn (i + m) (slice_index_or (exits_from marks i l) m no_exits)
  exits-go i [] m within fit = past-goes (i + m)
  exits-go i (x ∷ l) zero within fit =
      let here : i ≡ i + 0 = omega arith in
      subst (λ k. GoesOn k (exits_of marks i x)) here (word-goes i x (omega (arith, within)) fit.0)
  exits-go i (x ∷ l) (suc m) within fit =
      let on : i + 1 + m ≡ i + suc m = omega arith in
      subst (λ k. GoesOn k (slice_index_or (exits_from marks (i + 1) l) m no_exits)) on (exits-go (i + 1) l m (omega (arith, within)) fit.1)

-- ---- lengths

share-next : (len : ℕ → ℕ) (i : ℕ) (o : Option ℕ) → ((k : ℕ) → o ≡ Some k → (k ≡ i + 1) × (k % 20 ≡ 0 → ⊥)) → ((j : ℕ) → len j ≤ 20 - j % 20)
    → 1 + share len o ≤ 20 - i % 20
share-next len i None next each = omega arith
share-next len i (Some k) next each =
    let on = next k refl in
    let k_is : k ≡ i + 1 = on.0 in
    let apart : k % 20 ≡ 0 → ⊥ = on.1 in
    let most : len k ≤ 20 - k % 20 = each k in
    omega (arith, k_is, apart, most)

-- as far as the block's end at most
length-most : (g : List Exits) → ((i : ℕ) → GoesOn i (slice_index_or g i no_exits)) → (f i : ℕ) → length_within g f i ≤ 20 - i % 20
length-most g goes zero i = omega arith
length-most g goes (suc f) i =
    let e : Exits = slice_index_or g i no_exits in
    let jump : share (length_within g f) e.jump ≡ 0 = ap (share (length_within g f)) (goes i).jump in
    let next : 1 + share (length_within g f) e.next ≤ 20 - i % 20 = share-next (length_within g f) i e.next (goes i).next (length-most g goes f) in
    omega (arith, jump, next)

one-flag : (b : Bool) (x r s : ℕ) → x ≤ 20 → r ≤ 20 * s → cond b x 0 + r ≤ 20 * suc s
one-flag true x r s h g = omega (arith, h, g)
one-flag false x r s h g = omega (arith, g)

marked_sum-most : (f : ℕ → ℕ) (i : ℕ) (l : List Bool) → ((j : ℕ) → f j ≤ 20) → marked_sum f i l ≤ 20 * length l
marked_sum-most f i [] h = omega arith
marked_sum-most f i (b ∷ l) h = one-flag b (f i) (marked_sum f (i + 1) l) (length l) (h i) (marked_sum-most f (i + 1) l h)

pub unfolded-most : (program : List Bpf) (marks : List Bool) → IsProgram program → ((i : ℕ) → i < length program → IsMarked marks (20 * i))
    → unfolded_of (bpf_code program) marks ≤ 20 * length marks
unfolded-most program marks is first =
    let n : ℕ = 20 * length program in
    let g : List Exits = graph_of (bpf_code program) marks in
    let count : length (bpf_code program) ≡ 20 * length program = length-bpf_code program in
    let short : 0 + length (bpf_code program) ≤ 20 * length program = omega (arith, count) in
    let annotated : (j : ℕ) → IsBlockStart n j → IsMarked marks j = λ j start.
    let inside : 20 * start.0 < 20 * length program = start.1 in
    subst (IsMarked marks) (sym start.2) (first start.0 (omega (arith, inside))) in
    let goes : (i : ℕ) → GoesOn i (slice_index_or g i no_exits) = λ i.
    let here : 0 + i ≡ i = omega arith in
    subst (λ k. GoesOn k (slice_index_or g i no_exits)) here (exits-go n marks annotated 0 (bpf_code program) i short (fits program is)) in
    let each : (j : ℕ) → length_from g j ≤ 20 = λ j. let most : length_from g j ≤ 20 - j % 20 = length-most g goes (length g) j in omega (arith, most) in
    let none : share (length_from g) (unmarked_exit marks (Some 0)) ≡ 0 = ap (λ b. share (length_from g) (cond b None (Some 0))) (first 0 is.some) in
    let rest : marked_sum (length_from g) 0 marks ≤ 20 * length marks = marked_sum-most (length_from g) 0 marks each in
    omega (arith, none, rest)
