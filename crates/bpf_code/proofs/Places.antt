-- Where the blocks of a program stand in its code.
use Rattle.std.proofs.Common.{◌≡◌, ℕ, zero, suc, ◌+◌, ◌*◌, ◌≤◌, List, [], ◌∷◌, ◌++◌, length, slice_get, Option, Some, None, refl, ap, subst, arith, length-append}
use Rattle.alpha_words.specs.declared.insn.Insn.{Insn}
use Rattle.bpf_words.specs.declared.insn.Bpf.{Bpf}
use Rattle.bpf_words.specs.declared.insn.BpfOp.{BpfOp}
use Rattle.bpf_words.specs.Programs.{bpf_op}
use Rattle.bpf_code.specs.Blocks.{filled, block_code, block_of, blocks_from}
use Rattle.bpf_code.proofs.Straight.{Stands, onward}

stands-later : (y : Insn) (code : List Insn) (i : ℕ) (l : List Insn) → Stands code i l → Stands (y ∷ code) (i + 1) l
stands-later y code i [] h = tt
stands-later y code i (x ∷ l) h = let q : suc i ≡ i + 1 = omega arith in
    (subst (λ k. slice_get (y ∷ code) k ≡ Some x) q h.0, stands-later y code (i + 1) l h.1)

pub stands-front : (l rest : List Insn) → Stands (l ++ rest) 0 l
stands-front [] rest = tt
stands-front (x ∷ l) rest = (refl, stands-later x (l ++ rest) 0 l (stands-front l rest))

pub stands-behind : (front code : List Insn) (i : ℕ) (l : List Insn) → Stands code i l → Stands (front ++ code) (i + length front) l
stands-behind [] code i l h = let q : i ≡ i + 0 = omega arith in subst (λ k. Stands code k l) q h
stands-behind (y ∷ front) code i l h = let q : i + length front + 1 ≡ i + suc (length front) = omega arith in subst
    (λ k. Stands (y ∷ (front ++ code)) k l) q (stands-later y (front ++ code) (i + length front) l (stands-behind front code i l h))

-- the first of two parts, and the second
pub stands-first : (code : List Insn) (i : ℕ) (l k : List Insn) → Stands code i (l ++ k) → Stands code i l
stands-first code i [] k h = tt
stands-first code i (x ∷ l) k h = (h.0, stands-first code (i + 1) l k h.1)

pub stands-second : (code : List Insn) (i : ℕ) (l k : List Insn) → Stands code i (l ++ k) → Stands code (onward l i) k
stands-second code i [] k h = h
stands-second code i (x ∷ l) k h = stands-second code (i + 1) l k h.1

pub length-filled : (n : ℕ) (l : List Insn) → length (filled n l) ≡ n
length-filled zero l = refl
length-filled (suc n) [] = ap suc (length-filled n [])
length-filled (suc n) (x ∷ l) = ap suc (length-filled n l)

stands-padded : (code : List Insn) (i n : ℕ) (l : List Insn) → length l ≤ n → Stands code i (filled n l) → Stands code i l
stands-padded code i n [] short h = tt
stands-padded code i zero (x ∷ l) short h = absurd (omega (arith, short))
stands-padded code i (suc n) (x ∷ l) short h = (h.0, stands-padded code (i + 1) n l (omega (arith, short)) h.1)

pub length-block_of : (i : ℕ) (b : Bpf) (o : Option BpfOp) → length (block_of i b o) ≡ 20
length-block_of i b None = length-filled 20 []
length-block_of i b (Some op) = length-filled 20 (block_code i b op)

stands-block_of : (first : ℕ) (p : List Bpf) (j : ℕ) (b : Bpf) → slice_get p j ≡ Some b
    → Stands (blocks_from first p) (20 * j) (block_of (first + j) b (bpf_op b.code))
stands-block_of first [] j b e = absurd cc
stands-block_of first (c ∷ p) zero b e =
    let same : c ≡ b = cc in
    let q : first ≡ first + 0 = omega arith in
    subst (λ b. Stands (blocks_from first (c ∷ p)) 0 (block_of (first + 0) b (bpf_op b.code))) same
    (subst (λ i. Stands (blocks_from first (c ∷ p)) 0 (block_of i c (bpf_op c.code))) q
    (stands-front (block_of first c (bpf_op c.code)) (blocks_from (suc first) p)))
stands-block_of first (c ∷ p) (suc j) b e =
    let front = block_of first c (bpf_op c.code) in
    let n = length-block_of first c (bpf_op c.code) in
    let h = stands-behind front (blocks_from (suc first) p) (20 * j) (block_of (suc first + j) b (bpf_op b.code)) (stands-block_of (suc first) p j b e) in
    let q : suc first + j ≡ first + suc j = omega arith in
    let r : 20 * j + length front ≡ 20 * suc j = omega (arith, n) in
    subst (λ i. Stands (blocks_from first (c ∷ p)) (20 * suc j) (block_of i b (bpf_op b.code))) q
    (subst (λ k. Stands (blocks_from first (c ∷ p)) k (block_of (suc first + j) b (bpf_op b.code))) r h)

-- what block i does stands at word 20 * i
pub stands-block_code : (p : List Bpf) (i : ℕ) (b : Bpf) (op : BpfOp) → slice_get p i ≡ Some b → bpf_op b.code ≡ Some op
    → length (block_code i b op) ≤ 20 → Stands (blocks_from 0 p) (20 * i) (block_code i b op)
stands-block_code p i b op e k short =
    let q : 0 + i ≡ i = omega arith in
    stands-padded (blocks_from 0 p) (20 * i) 20 (block_code i b op) short
    (subst (λ o. Stands (blocks_from 0 p) (20 * i) (block_of i b o)) k
    (subst (λ j. Stands (blocks_from 0 p) (20 * i) (block_of j b (bpf_op b.code))) q (stands-block_of 0 p i b e)))

pub length-blocks_from : (first : ℕ) (p : List Bpf) → length (blocks_from first p) ≡ 20 * length p
length-blocks_from first [] = refl
length-blocks_from first (b ∷ p) =
    let n = length-block_of first b (bpf_op b.code) in
    let l = length-blocks_from (suc first) p in
    let a = length-append (block_of first b (bpf_op b.code)) (blocks_from (suc first) p) in
    omega (arith, n, l, a)
