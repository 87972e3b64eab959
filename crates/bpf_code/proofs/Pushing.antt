-- Code as it grows, a word or a block at a time.
use Rattle.std.proofs.Common.{◌≡◌, ℕ, zero, suc, ◌+◌, ◌-◌, ◌*◌, ◌/◌, ◌%◌, ◌≤◌, List, [], ◌∷◌, ◌++◌, length, drop, slice_get, replicate, Some, refl, sym, ap, ◌∙◌, arith, append_assoc, length-append, append-nil}
use Rattle.std.specs.Prelude.{pos}
use Rattle.std.proofs.Math.ListN.{drop_of_length-le}
use Rattle.alpha_words.specs.declared.insn.Insn.{Insn}
use Rattle.alpha_words.specs.declared.insn.Insn.TheVariants.{Ldq, Ret}
use Rattle.bpf_words.specs.declared.insn.Bpf.{Bpf}
use Rattle.bpf_words.specs.declared.insn.BpfOp.{BpfOp}
use Rattle.bpf_words.specs.Programs.{bpf_op}
use Rattle.bpf_words.proofs.Soundness.{drop-at}
use Rattle.bpf_code.specs.Blocks.{byte_code, quad_reg, bytes_code, load_code, filled, block_code, block_of, blocks_from, bpf_code}
use Rattle.bpf_code.proofs.Places.{length-block_of}

-- one byte more of a load
pub load-step : (start items new one : List Insn) (k n q : ℕ) → new ≡ items ++ one → items ≡ start ++ bytes_code k n
    → one ≡ byte_code n q ((k + n) % 8) → q ≡ quad_reg k n → new ≡ start ++ bytes_code k (n + 1)
load-step start items new one k n q new-is items-is one-is q-is =
    let next : suc n ≡ n + 1 = omega arith in
    new-is ∙ ap (λ l. l ++ one) items-is ∙ ap (λ l. (start ++ bytes_code k n) ++ l) (one-is ∙ ap (λ r. byte_code n r ((k + n) % 8)) q-is)
    ∙ append_assoc start (bytes_code k n) (byte_code n (quad_reg k n) ((k + n) % 8)) ∙ ap (λ m. start ++ bytes_code k m) next

-- all bytes of a load
pub load-end : (front mid start items : List Insn) (first second : Insn) (k last n : ℕ) → mid ≡ front ++ (first ∷ []) → start ≡ mid ++ (second ∷ [])
    → first ≡ Ldq 2 16 (pos (8 * (k / 8))) → second ≡ Ldq 3 16 (pos (8 * ((k + last) / 8)))
    → items ≡ start ++ bytes_code k n → n ≡ last + 1 → items ≡ front ++ load_code k last
load-end front mid start items first second k last n mid-is start-is first-is second-is items-is n-is =
    let next : n ≡ suc last = omega (arith, n-is) in
    let two : start ≡ front ++ (first ∷ second ∷ []) = start-is ∙ ap (λ l. l ++ (second ∷ [])) mid-is ∙ append_assoc front (first ∷ []) (second ∷ []) in
    items-is ∙ ap (λ m. start ++ bytes_code k m) next ∙ ap (λ l. l ++ bytes_code k (suc last)) two
    ∙ append_assoc front (first ∷ second ∷ []) (bytes_code k (suc last))
    ∙ ap (λ x. front ++ (x ∷ second ∷ bytes_code k (suc last))) first-is
    ∙ ap (λ x. front ++ (Ldq 2 16 (pos (8 * (k / 8))) ∷ x ∷ bytes_code k (suc last))) second-is

-- words up to a count are followed by words that nothing leads to
pub filled-is : (n : ℕ) (l : List Insn) → length l ≤ n → filled n l ≡ l ++ replicate (n - length l) Ret
filled-is zero [] le = refl
filled-is zero (x ∷ l) le = absurd (omega (arith, le))
filled-is (suc n) [] le =
    let none : n ≡ n - 0 = omega arith in
    let more : suc n ≡ suc n - 0 = omega arith in
    ap (λ l. Ret ∷ l) (filled-is n [] (omega arith) ∙ ap (λ m. replicate m Ret) (sym none)) ∙ ap (λ m. replicate m Ret) more
filled-is (suc n) (x ∷ l) le =
    let less : n - length l ≡ suc n - suc (length l) = omega arith in
    ap (λ r. x ∷ r) (filled-is n l (omega (arith, le)) ∙ ap (λ m. l ++ replicate m Ret) less)

-- one block more
pub blocks-step : (program : List Bpf) (old new : List Insn) (i : ℕ) (b : Bpf) → slice_get program i ≡ Some b → new ≡ old ++ block_of i b (bpf_op b.code)
    → old ++ blocks_from i (drop i program) ≡ blocks_from 0 program → new ++ blocks_from (i + 1) (drop (i + 1) program) ≡ blocks_from 0 program
blocks-step program old new i b at new-is before =
    let next : i + 1 ≡ suc i = omega arith in
    ap (λ l. l ++ blocks_from (i + 1) (drop (i + 1) program)) new-is
    ∙ append_assoc old (block_of i b (bpf_op b.code)) (blocks_from (i + 1) (drop (i + 1) program))
    ∙ ap (λ m. old ++ (block_of i b (bpf_op b.code) ++ blocks_from m (drop (i + 1) program))) next
    ∙ ap (λ l. old ++ blocks_from i l) (sym (drop-at program i b at)) ∙ before

pub block-length : (old new : List Insn) (i : ℕ) (b : Bpf) → length old ≡ 20 * i → new ≡ old ++ block_of i b (bpf_op b.code) → length new ≡ 20 * (i + 1)
block-length old new i b place new-is =
    let n = length-append old (block_of i b (bpf_op b.code)) in
    let m = length-block_of i b (bpf_op b.code) in
    ap length new-is ∙ omega (arith, n, m, place)

-- all blocks
pub blocks-all : (program : List Bpf) (code : List Insn) (i : ℕ) → length program ≤ i → code ++ blocks_from i (drop i program) ≡ blocks_from 0 program
    → code ≡ bpf_code program
unfolding bpf_code
blocks-all program code i le before =
    sym (append-nil code) ∙ ap (λ l. code ++ blocks_from i l) (sym (drop_of_length-le program le)) ∙ before

-- a block, by the instruction that is looked up
pub block-is : (i : ℕ) (b c : Bpf) (op : BpfOp) → b ≡ c → bpf_op b.code ≡ Some op → filled 20 (block_code i b op) ≡ block_of i c (bpf_op c.code)
block-is i b c op same known = sym (ap (block_of i b) known) ∙ ap (λ x. block_of i x (bpf_op x.code)) same
