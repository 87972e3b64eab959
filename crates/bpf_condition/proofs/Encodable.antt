-- Each word that a block computes with has an encoding and goes on to the next one.
use Rattle.std.proofs.Common.{ℕ, zero, suc, ◌+◌, ◌*◌, ◌/◌, ◌%◌, ◌^◌, ◌<◌, ◌≤◌, Bool, true, false, cond, eqb, List, [], ◌∷◌, ◌++◌, refl, arith}
use Rattle.std.specs.Prelude.{pos}
use Rattle.std.specs.List.{AllByRecursion}
use Rattle.word_ops.specs.declared.Op.{Op}
use Rattle.word_ops.specs.declared.Op.TheVariants.{Add, Band, Bis, Sll, Srl, Cmpeq, Cmpult, Cmpule}
use Rattle.alpha_words.specs.declared.insn.Rhs.TheVariants.{Reg, Lit}
use Rattle.alpha_words.specs.declared.conditions.Cond.TheVariants.{NotZero}
use Rattle.alpha_words.specs.declared.insn.Insn.{Insn}
use Rattle.alpha_words.specs.declared.insn.Insn.TheVariants.{Lda, Ldq, Oper, Branch, Br, Ret}
use Rattle.alpha_words.specs.Encoding.{IsWritableRegister, memory_word, branch_word, operate_word}
use Rattle.alpha_words.specs.Conditions.{cond_opcode_of}
use Rattle.alpha_cfg.specs.Flow.{IsInsn}
use Rattle.bpf_words.specs.declared.insn.BpfOp.{BpfOp}
use Rattle.bpf_words.specs.declared.insn.BpfOp.TheVariants as ops
use Rattle.bpf_words.specs.declared.insn.BpfTest.{BpfTest}
use Rattle.bpf_words.specs.declared.insn.BpfTest.TheVariants as tests
use Rattle.bpf_code.specs.Blocks.{shift_in, constant_code, byte_code, quad_reg, bytes_code, load_code, nonzero_flag, test_code, straight_code}
use Rattle.bpf_code.specs.Inside.Bounds.{KeepsTo}
use Rattle.bpf_code.proofs.Numbers.{below_eight}
use Rattle.bpf_condition.proofs.Placed.{all-append}

-- it goes on to the next word, and stores nothing
abbrev pub IsLinear : Insn → Type 0
IsLinear (Lda ra rb disp) = Unit {0}
IsLinear (Ldq ra rb disp) = Unit {0}
IsLinear (Oper op ra rhs rc) = Unit {0}
IsLinear _ = ⊥

-- so it does, and has an encoding
abbrev pub IsPlain : Insn → Type 0
IsPlain x = IsLinear x × IsInsn x

-- ---- one word

-- blocks write the lowest registers
writable : (r : ℕ) → r < 8 → IsWritableRegister r
writable = below_eight IsWritableRegister
    (omega arith, refl) (omega arith, refl) (omega arith, refl) (omega arith, refl)
    (omega arith, refl) (omega arith, refl) (omega arith, refl) (omega arith, refl)

by-literal : (op : Op) (ra n rc : ℕ) → ra < 32 → n < 256 → rc < 8 → IsPlain (Oper op ra (Lit n) rc)
by-literal op ra n rc first small low = (tt, (operate_word op ra (Lit n) rc, (first, small, writable rc low, refl)))

by-register : (op : Op) (ra rb rc : ℕ) → ra < 32 → rb < 32 → rc < 8 → IsPlain (Oper op ra (Reg rb) rc)
by-register op ra rb rc first second low = (tt, (operate_word op ra (Reg rb) rc, (first, second, writable rc low, refl)))

quad-plain : (r d : ℕ) → r < 8 → d < 8 → IsPlain (Ldq r 16 (pos (8 * d)))
quad-plain r d low near =
    let small : 8 * d < 2 ^ 15 = omega (arith, near) in
    (tt, (memory_word 0x29 r 16 (pos (8 * d)), ((writable r low, omega (arith, low)), omega arith, small, refl)))

pub branch-insn : (d : ℕ) → d < 2 ^ 20 → IsInsn (Branch NotZero 6 (pos d))
branch-insn d small = (branch_word (cond_opcode_of NotZero) 6 (pos d), (omega arith, small, refl))

pub br-insn : (d : ℕ) → d < 2 ^ 20 → IsInsn (Br (pos d))
br-insn d small = (branch_word 0x30 31 (pos d), (small, refl))

pub return-insn : IsInsn Ret
return-insn = (0x6BFA8001, (1, omega arith, refl))

-- ---- the words of an instruction

shifted-in : (n r : ℕ) → r < 8 → IsPlain (shift_in n r)
shifted-in zero r low = by-literal Add 31 0 r (omega arith) (omega arith) low
shifted-in (suc n) r low = by-literal Sll r 8 r (omega (arith, low)) (omega arith) low

constant-plain : (r k : ℕ) → r < 8 → k < 2 ^ 32 → AllByRecursion IsPlain (constant_code r k)
constant-plain r k low small =
    let wide : r < 32 = omega (arith, low) in (
      by-literal Add 31 (k / 16777216) r (omega arith) (omega (arith, small)) low,
      (
        by-literal Sll r 8 r wide (omega arith) low,
        (
          by-literal Add r (k / 65536 % 256) r wide (omega arith) low,
          (
            by-literal Sll r 8 r wide (omega arith) low,
            (
              by-literal Add r (k / 256 % 256) r wide (omega arith) low,
              (by-literal Sll r 8 r wide (omega arith) low, (by-literal Add r (k % 256) r wide (omega arith) low, tt)),
            ),
          ),
        ),
      ),
    )

byte-plain : (n q at : ℕ) → q < 32 → at < 8 → AllByRecursion IsPlain (byte_code n q at)
byte-plain n q at reg low = (
  shifted-in n 1 (omega arith),
  (
    by-literal Srl q (8 * at) 4 reg (omega (arith, low)) (omega arith),
    (by-literal Band 4 255 4 (omega arith) (omega arith) (omega arith), (by-register Add 1 4 1 (omega arith) (omega arith) (omega arith), tt)),
  ),
)

either-register : (b : Bool) → cond b 2 3 < 32
either-register true = omega arith
either-register false = omega arith

bytes-plain : (k n : ℕ) → AllByRecursion IsPlain (bytes_code k n)
bytes-plain k zero = tt
bytes-plain k (suc n) = all-append IsPlain (bytes_code k n) (byte_code n (quad_reg k n) ((k + n) % 8)) (bytes-plain k n)
    (byte-plain n (quad_reg k n) ((k + n) % 8) (either-register (eqb ((k + n) / 8) (k / 8))) (omega arith))

load-plain : (k n : ℕ) → k + suc n ≤ 64 → AllByRecursion IsPlain (load_code k n)
load-plain k n inside =
    (quad-plain 2 (k / 8) (omega arith) (omega (arith, inside)), (quad-plain 3 ((k + n) / 8) (omega arith) (omega (arith, inside)), bytes-plain k (suc n)))

with-constant : (k : ℕ) (l : List Insn) → k < 2 ^ 32 → AllByRecursion IsPlain l → AllByRecursion IsPlain (constant_code 5 k ++ l)
with-constant k l small h = all-append IsPlain (constant_code 5 k) l (constant-plain 5 k (omega arith) small) h

test-plain : (t : BpfTest) → IsPlain (test_code t)
test-plain tests.Jeq = by-register Cmpeq 1 5 6 (omega arith) (omega arith) (omega arith)
test-plain tests.Jgt = by-register Cmpult 5 1 6 (omega arith) (omega arith) (omega arith)
test-plain tests.Jge = by-register Cmpule 5 1 6 (omega arith) (omega arith) (omega arith)
test-plain tests.Jset = by-register Band 1 5 6 (omega arith) (omega arith) (omega arith)

flag-small : (k : ℕ) → nonzero_flag k < 256
flag-small k = elim (eqb k 0) as (λ b. cond b 0 1 < 256) [ true ↦ omega arith | false ↦ omega arith ]

sum-plain : AllByRecursion IsPlain (Oper Add 1 (Reg 5) 1 ∷ Oper Sll 1 (Lit 32) 1 ∷ Oper Srl 1 (Lit 32) 1 ∷ [])
sum-plain = (
  by-register Add 1 5 1 (omega arith) (omega arith) (omega arith),
  (
    by-literal Sll 1 32 1 (omega arith) (omega arith) (omega arith),
    (by-literal Srl 1 32 1 (omega arith) (omega arith) (omega arith), tt),
  ),
)

pub straight_code-plain : (op : BpfOp) (k : ℕ) → KeepsTo op k → k < 2 ^ 32 → AllByRecursion IsPlain (straight_code op k)
straight_code-plain ops.Ld k fits small = load-plain k 3 fits
straight_code-plain ops.Ldh k fits small = load-plain k 1 fits
straight_code-plain ops.Ldb k fits small = load-plain k 0 fits
straight_code-plain ops.LdImm k fits small = constant-plain 1 k (omega arith) small
straight_code-plain ops.Add k fits small = with-constant k (Oper Add 1 (Reg 5) 1 ∷ Oper Sll 1 (Lit 32) 1 ∷ Oper Srl 1 (Lit 32) 1 ∷ []) small sum-plain
straight_code-plain ops.Or k fits small = with-constant k (Oper Bis 1 (Reg 5) 1 ∷ []) small (by-register Bis 1 5 1 (omega arith) (omega arith) (omega arith), tt)
straight_code-plain ops.And k fits small = with-constant k (Oper Band 1 (Reg 5) 1 ∷ []) small (by-register Band 1 5 1 (omega arith) (omega arith) (omega arith), tt)
straight_code-plain ops.Rsh k fits small = let low : k ≤ 31 = fits in (by-literal Srl 1 k 1 (omega arith) (omega (arith, low)) (omega arith), tt)
straight_code-plain ops.Ja k fits small = (by-literal Add 31 0 6 (omega arith) (omega arith) (omega arith), tt)
straight_code-plain (ops.Jump t) k fits small = with-constant k (test_code t ∷ []) small (test-plain t, tt)
straight_code-plain ops.Ret k fits small = (by-literal Add 31 (nonzero_flag k) 0 (omega arith) (flag-small k) (omega arith), tt)
straight_code-plain ops.RetA k fits small = (by-register Cmpult 31 1 0 (omega arith) (omega arith) (omega arith), tt)
