-- What blocks make of A.
use Rattle.std.proofs.Common.{◌≡◌, ℕ, ◌+◌, ◌/◌, ◌%◌, ◌^◌, ◌<◌, ◌≤◌, slice_index, bit_and, bit_or, ap, ◌∙◌, arith}
use Rattle.word_ops.specs.Words.{word_of}
use Rattle.word_ops.specs.Memory.{Memory}
use Rattle.word_ops.specs.declared.Op.TheVariants.{Add, Band, Sll, Srl, Cmpeq, Cmpult, Cmpule}
use Rattle.bpf_words.specs.declared.insn.BpfOp.TheVariants as ops
use Rattle.bpf_words.specs.declared.insn.BpfTest.{BpfTest}
use Rattle.bpf_words.specs.declared.insn.BpfTest.TheVariants as tests
use Rattle.bpf_code.specs.Blocks.{straight_code}
use Rattle.bpf_code.proofs.Straight.{effects, listing}
use Rattle.bpf_code.proofs.Numbers.{constant-is, sum-is}

-- register r after what a block computes
abbrev pub left_in : Memory → ops.the_data → ℕ → (ℕ → ℕ) → ℕ → ℕ
left_in m op k f r = slice_index (effects m (straight_code op k) (listing 31 f 0)) r

pub constant-a : (m : Memory) (k : ℕ) (f : ℕ → ℕ) → k < 2 ^ 32 → left_in m (ops.LdImm) k f 1 ≡ k
constant-a m k f h = constant-is k h

pub add-a : (m : Memory) (k : ℕ) (f : ℕ → ℕ) → k < 2 ^ 32 → f 1 < 2 ^ 32 → left_in m ops.Add k f 1 ≡ (f 1 + k) % 2 ^ 32
add-a m k f h g = ap (λ x. word_of Srl (word_of Sll (word_of Add (f 1) x) 32) 32) (constant-is k h) ∙ sum-is (f 1) k g h

pub or-a : (m : Memory) (k : ℕ) (f : ℕ → ℕ) → k < 2 ^ 32 → left_in m ops.Or k f 1 ≡ bit_or (f 1) k
or-a m k f h = ap (bit_or (f 1)) (constant-is k h)

pub and-a : (m : Memory) (k : ℕ) (f : ℕ → ℕ) → k < 2 ^ 32 → left_in m ops.And k f 1 ≡ bit_and (f 1) k
and-a m k f h = ap (bit_and (f 1)) (constant-is k h)

pub shift-a : (m : Memory) (k : ℕ) (f : ℕ → ℕ) → k ≤ 31 → left_in m ops.Rsh k f 1 ≡ f 1 / 2 ^ k
shift-a m k f h = ap (λ n. f 1 / 2 ^ n) (omega (arith, h))

-- what a test leaves in register 6
abbrev pub tested : BpfTest → ℕ → ℕ → ℕ
tested tests.Jeq a k = word_of Cmpeq a k
tested tests.Jgt a k = word_of Cmpult k a
tested tests.Jge a k = word_of Cmpule k a
tested tests.Jset a k = word_of Band a k

pub test-six : (m : Memory) (k : ℕ) (f : ℕ → ℕ) (t : BpfTest) → k < 2 ^ 32 → left_in m (ops.Jump t) k f 6 ≡ tested t (f 1) k
test-six m k f tests.Jeq h = ap (tested tests.Jeq (f 1)) (constant-is k h)
test-six m k f tests.Jgt h = ap (tested tests.Jgt (f 1)) (constant-is k h)
test-six m k f tests.Jge h = ap (tested tests.Jge (f 1)) (constant-is k h)
test-six m k f tests.Jset h = ap (tested tests.Jset (f 1)) (constant-is k h)
