-- The value of a program on a packet.
-- McCanne and Jacobson, The BSD Packet Filter, USENIX 1993, section 3.
use Rattle.std.specs.Prelude.{◌≡◌, ℕ, zero, suc, ◌+◌, ◌*◌, ◌/◌, ◌%◌, ◌^◌, Bool, not, ◌==◌, nat_lt, nat_le, if◌then◌else◌, List, length, slice_get, slice_index, Option, Some, None, bit_and, bit_or}
use Rattle.bpf_words.specs.declared.insn.Bpf.{Bpf}
use Rattle.bpf_words.specs.declared.insn.BpfOp.{BpfOp}
use Rattle.bpf_words.specs.declared.insn.BpfOp.TheVariants as ops
use Rattle.bpf_words.specs.declared.insn.BpfTest.{BpfTest}
use Rattle.bpf_words.specs.declared.insn.BpfTest.TheVariants as tests
use Rattle.bpf_words.specs.declared.values.BpfEffect.{BpfEffect}
use Rattle.bpf_words.specs.declared.values.BpfEffect.TheVariants as effects
use Rattle.bpf_words.specs.Programs.{bpf_op}

-- the number of the n bytes of a packet from offset k on, the highest first
abbrev pub big_endian : List ℕ → ℕ → ℕ → ℕ
big_endian packet k zero = 0
big_endian packet k (suc n) = big_endian packet k n * 256 + slice_index packet (k + n)

-- whether the test of a jump holds
abbrev pub jumps : BpfTest → ℕ → ℕ → Bool
jumps tests.Jeq a k = a == k
jumps tests.Jgt a k = nat_lt k a
jumps tests.Jge a k = nat_le k a
jumps tests.Jset a k = not (bit_and a k == 0)

-- what comes of an instruction at index i with this A, by what it does
abbrev pub op_effect : List ℕ → ℕ → ℕ → Bpf → BpfOp → BpfEffect
op_effect packet i a insn ops.Ld = effects.GoesOn (i + 1) (big_endian packet insn.k 4)
op_effect packet i a insn ops.Ldh = effects.GoesOn (i + 1) (big_endian packet insn.k 2)
op_effect packet i a insn ops.Ldb = effects.GoesOn (i + 1) (big_endian packet insn.k 1)
op_effect packet i a insn ops.LdImm = effects.GoesOn (i + 1) insn.k
op_effect packet i a insn ops.Add = effects.GoesOn (i + 1) ((a + insn.k) % 2 ^ 32)
op_effect packet i a insn ops.Or = effects.GoesOn (i + 1) (bit_or a insn.k)
op_effect packet i a insn ops.And = effects.GoesOn (i + 1) (bit_and a insn.k)
op_effect packet i a insn ops.Rsh = effects.GoesOn (i + 1) (a / 2 ^ insn.k)
op_effect packet i a insn ops.Ja = effects.GoesOn (i + 1 + insn.k) a
op_effect packet i a insn (ops.Jump test) = effects.GoesOn (i + 1 + (if jumps test a insn.k then insn.jt else insn.jf)) a
op_effect packet i a insn ops.Ret = effects.Returns insn.k
op_effect packet i a insn ops.RetA = effects.Returns a

-- the same, given what its code says
abbrev pub code_effect : List ℕ → ℕ → ℕ → Bpf → Option BpfOp → Option BpfEffect
code_effect packet i a insn None = None
code_effect packet i a insn (Some op) = Some (op_effect packet i a insn op)

-- the same, where there is an instruction
abbrev pub bpf_effect : List ℕ → ℕ → ℕ → Option Bpf → Option BpfEffect
bpf_effect packet i a None = None
bpf_effect packet i a (Some insn) = code_effect packet i a insn (bpf_op insn.code)

-- what comes of the instruction at index i of a program
abbrev pub effect_at : List Bpf → List ℕ → ℕ → ℕ → Option BpfEffect
effect_at program packet i a = bpf_effect packet i a (slice_get program i)

-- From index i with this A the program goes on, instruction by instruction, until it returns the value.
pub data ComesTo (program : List Bpf) (packet : List ℕ) : ℕ → ℕ → ℕ → Type 0 where
  returns_now : (i a value : ℕ) → effect_at program packet i a ≡ Some (effects.Returns value) → ComesTo program packet i a value
  goes_on : (i a j b value : ℕ) → effect_at program packet i a ≡ Some (effects.GoesOn j b) → ComesTo program packet j b value
      → ComesTo program packet i a value

-- the value that an effect leads to, given the value from an index on with an A
abbrev pub value_after : (ℕ → ℕ → ℕ) → Option BpfEffect → ℕ
value_after onward None = 0
value_after onward (Some (effects.GoesOn j a)) = onward j a
value_after onward (Some (effects.Returns value)) = value

-- the value from index i on with this A, at most n instructions being followed
abbrev pub value_from : List Bpf → List ℕ → ℕ → ℕ → ℕ → ℕ
value_from program packet zero i a = 0
value_from program packet (suc n) i a = value_after (value_from program packet n) (effect_at program packet i a)

-- the value: from index 0 with A = 0; jumps lead forward, so each instruction is followed once at most
unfoldable pub bpf_value : List Bpf → List ℕ → ℕ
bpf_value program packet = value_from program packet (length program) 0 0
