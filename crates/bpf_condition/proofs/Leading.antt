-- Each word of a program's code has an encoding, leads to first words of blocks, and goes on inside; so it is code.
use Rattle.std.proofs.Common.{◌≡◌, ℕ, suc, ◌+◌, ◌-◌, ◌*◌, ◌<◌, ◌≤◌, ◌⊎◌, inl, inr, List, [], ◌∷◌, length, slice_get, Some, refl, sym, ap, ◌∙◌, subst, arith}
use Rattle.std.proofs.lemmas.Option.{same_Some, none-some}
use Rattle.alpha_words.specs.declared.insn.Insn.{Insn}
use Rattle.alpha_words.specs.declared.insn.Insn.TheVariants.{Lda, Ldq, Oper, Branch, Br, Ret}
use Rattle.alpha_words.specs.declared.conditions.Cond.TheVariants.{NotZero}
use Rattle.alpha_words.specs.Lawful.{target_of}
use Rattle.alpha_cfg.specs.Flow.{jump_of, InsideOf, IsFinal, IsInsn, IsCode}
use Rattle.bpf_words.specs.declared.insn.Bpf.{Bpf}
use Rattle.bpf_words.specs.declared.insn.BpfOp.{BpfOp}
use Rattle.bpf_words.specs.declared.insn.BpfOp.TheVariants as ops
use Rattle.bpf_words.specs.Programs.{bpf_op, IsRet, IsSoundAt, IsProgram}
use Rattle.bpf_code.specs.Blocks.{straight_code, taken_index, passed_index, block_distance, branch_pair, end_code, end_place, block_code, block_of, blocks_from}
use Rattle.bpf_code.proofs.Places.{length-block_of, length-blocks_from}
use Rattle.bpf_code.proofs.Simulation.{IsGoing, straight_code-short, fits-good, LeadsInside, leads, end_code-going}
use Rattle.bpf_condition.proofs.Placed.{EachAt, each-append, each-before, each-filled, each-get}
use Rattle.bpf_condition.proofs.Encodable.{IsPlain, branch-insn, br-insn, return-insn, straight_code-plain}

-- the first word of one of n blocks
abbrev pub IsStart : ℕ → ℕ → Type 0
IsStart n j = (k : ℕ) × (k < n) × (j ≡ 20 * k)

-- a word of n blocks at index i: it has an encoding, leads to a first word, inside, and the last of them doesn't go on
pub record IsBlockWord (n i : ℕ) (x : Insn) : Type 0 where
  pub insn : IsInsn x
  pub jump : (j : ℕ) → jump_of i x ≡ Some j → IsStart n j
  pub inside : InsideOf (20 * n) (target_of i x)
  pub final : i + 1 ≡ 20 * n → IsFinal x

-- ---- one word

plain-word : (n i : ℕ) (x : Insn) → i + 1 < 20 * n → IsPlain x → IsBlockWord n i x
plain-word n i (Lda ra rb disp) room h =
    record { insn = h.1; jump = λ j e. absurd (none-some j e); inside = tt; final = λ e. absurd (omega (arith, e, room)) }
plain-word n i (Ldq ra rb disp) room h =
    record { insn = h.1; jump = λ j e. absurd (none-some j e); inside = tt; final = λ e. absurd (omega (arith, e, room)) }
plain-word n i (Oper op ra rhs rc) room h =
    record { insn = h.1; jump = λ j e. absurd (none-some j e); inside = tt; final = λ e. absurd (omega (arith, e, room)) }
plain-word n i _ room h = absurd h.0

return-word : (n i : ℕ) → IsBlockWord n i Ret
return-word n i = record { insn = return-insn; jump = λ j e. absurd (none-some j e); inside = tt; final = λ e. refl }

pub branch-lands : (i k : ℕ) → i + 1 ≤ 20 * k → jump_of i (Branch NotZero 6 (block_distance i k)) ≡ Some (20 * k)
branch-lands i k room = ap Some (omega (arith, room))

pub br-lands : (i k : ℕ) → i + 1 ≤ 20 * k → jump_of i (Br (block_distance i k)) ≡ Some (20 * k)
br-lands i k room = ap Some (omega (arith, room))

module _ (n i k : ℕ) (few : n ≤ 40) (room : i + 1 ≤ 20 * k) (low : k < n) where
  lands-inside : i + 1 + (20 * k - (i + 1)) < 20 * n
  lands-inside = omega (arith, room, low)

  branch-word : IsBlockWord n i (Branch NotZero 6 (block_distance i k))
  branch-word = record {
    insn = branch-insn (20 * k - (i + 1)) (omega (arith, few, low));
    jump = λ j e. (k, low, sym (same_Some (20 * k) j (sym (branch-lands i k room) ∙ e)));
    inside = lands-inside;
    final = λ e. absurd (omega (arith, e, room, low));
  }

  br-word : IsBlockWord n i (Br (block_distance i k))
  br-word = record {
    insn = br-insn (20 * k - (i + 1)) (omega (arith, few, low));
    jump = λ j e. (k, low, sym (same_Some (20 * k) j (sym (br-lands i k room) ∙ e)));
    inside = lands-inside;
    final = λ e. refl;
  }

-- ---- the end of a block

pub going_or_returns : (op : BpfOp) → IsGoing op ⊎ IsRet op
going_or_returns ops.Ret = inr tt
going_or_returns ops.RetA = inr tt
going_or_returns op = inl tt

pub end_code-returns : (at i : ℕ) (b : Bpf) (op : BpfOp) → IsRet op → end_code at i b op ≡ Ret ∷ Ret ∷ []
end_code-returns at i b ops.Ret h = refl
end_code-returns at i b ops.RetA h = refl
end_code-returns at i b op h = absurd h

branches-words : (n at k m : ℕ) → n ≤ 40 → at + 2 ≤ 20 * k → k < n → at + 2 ≤ 20 * m → m < n → EachAt (IsBlockWord n) at (branch_pair at k m)
branches-words n at k m few far low near inside =
    (branch-word n at k few (omega (arith, far)) low, (br-word n (at + 1) m few (omega (arith, near)) inside, tt))

module _ (n i : ℕ) (b : Bpf) (few : n ≤ 40) (low : i < n) (sound : IsSoundAt n i b) where
  end-words : EachAt (IsBlockWord n) (end_place i sound.op b.k) (end_code (end_place i sound.op b.k) i b sound.op)
  end-words =
      let at : ℕ = end_place i sound.op b.k in
      let short = straight_code-short sound.op b.k in
      elim (going_or_returns sound.op) [
        | inl going ↦
            let to : LeadsInside n i b sound.op = leads n i b sound.op low sound.bounds sound.last going in
            let on = to.on in
            let over = to.over in
            subst (EachAt (IsBlockWord n) at) (sym (end_code-going at i b sound.op going))
            (branches-words n at (taken_index i b sound.op) (passed_index i b sound.op) few (omega (arith, short, on)) to.far
            (omega (arith, short, over)) to.near)
        | inr returns ↦ subst (EachAt (IsBlockWord n) at) (sym (end_code-returns at i b sound.op returns)) (return-word n at, (return-word n (at + 1), tt))
      ]

  straight-words : EachAt (IsBlockWord n) (20 * i) (straight_code sound.op b.k)
  straight-words =
      let short = straight_code-short sound.op b.k in
      each-before (IsBlockWord n) IsPlain (20 * i + 18) (λ j x lt h. plain-word n j x (omega (arith, lt, low)) h) (20 * i) (straight_code sound.op b.k)
      (omega (arith, short)) (straight_code-plain sound.op b.k (fits-good n i b sound.op sound.bounds) sound.widths.k)

  block-words : EachAt (IsBlockWord n) (20 * i) (block_of i b (bpf_op b.code))
  block-words = subst (λ o. EachAt (IsBlockWord n) (20 * i) (block_of i b o)) (sym sound.op_is)
      (each-filled (IsBlockWord n) (return-word n) 20 (20 * i) (block_code i b sound.op)
      (each-append (IsBlockWord n) (20 * i) (straight_code sound.op b.k) (end_code (end_place i sound.op b.k) i b sound.op) straight-words end-words))

-- ---- all blocks

blocks-words : (n first : ℕ) (p : List Bpf) → n ≤ 40 → first + length p ≤ n
    → ((t : ℕ) (b : Bpf) → slice_get p t ≡ Some b → IsSoundAt n (first + t) b) → EachAt (IsBlockWord n) (20 * first) (blocks_from first p)
blocks-words n first [] few le each = tt
blocks-words n first (b ∷ p) few le each =
    let q : first + 0 ≡ first = omega arith in
    let here : IsSoundAt n first b = subst (λ k. IsSoundAt n k b) q (each 0 b refl) in
    let long = length-block_of first b (bpf_op b.code) in
    let next : 20 * suc first ≡ 20 * first + length (block_of first b (bpf_op b.code)) = omega (arith, long) in
    each-append (IsBlockWord n) (20 * first) (block_of first b (bpf_op b.code)) (blocks_from (suc first) p) (block-words n first b few (omega (arith, le)) here)
    (subst (λ k. EachAt (IsBlockWord n) k (blocks_from (suc first) p)) next (blocks-words n (suc first) p few (omega (arith, le))
    (λ t d e. let r : first + suc t ≡ suc first + t = omega arith in subst (λ k. IsSoundAt n k d) r (each (suc t) d e))))

module _ (p : List Bpf) (program : IsProgram p) where
  pub code-words : EachAt (IsBlockWord (length p)) 0 (blocks_from 0 p)
  code-words = blocks-words (length p) 0 p program.few (omega arith)
      (λ t b e. let q : t ≡ 0 + t = omega arith in subst (λ k. IsSoundAt (length p) k b) q (program.each t b e))

  pub word-at : (j : ℕ) (x : Insn) → slice_get (blocks_from 0 p) j ≡ Some x → IsBlockWord (length p) j x
  word-at j x at = let q : 0 + j ≡ j = omega arith in subst (λ k. IsBlockWord (length p) k x) q
      (each-get (IsBlockWord (length p)) 0 (blocks_from 0 p) j x code-words at)

  pub blocks-are-code : IsCode (blocks_from 0 p)
  blocks-are-code =
      let long = length-blocks_from 0 p in
      let some = program.some in
      let few = program.few in
      let last : length (blocks_from 0 p) - 1 + 1 ≡ 20 * length p = omega (arith, long, some) in
      record {
        nonempty = omega (arith, long, some);
        short = omega (arith, long, few);
        encoded = λ j x at. (word-at j x at).insn;
        inside = λ j x at. subst (λ m. InsideOf m (target_of j x)) (sym long) (word-at j x at).inside;
        ends = λ x at. (word-at (length (blocks_from 0 p) - 1) x at).final last;
      }
