-- What each flaw of bytes means, in place of the tests that find it.
use Rattle.std.specs.Prelude.{◌≡◌, ℕ, ◌+◌, ◌*◌, ◌%◌, ◌<◌, ◌≤◌, ◌⊎◌, List, length, slice_get, Some, None}
use Rattle.bpf_words.specs.declared.insn.TheConstants.{MAX_PROGRAM, LOADABLE}
use Rattle.bpf_words.specs.declared.insn.Bpf.{Bpf}
use Rattle.bpf_words.specs.declared.insn.BpfOp.{BpfOp}
use Rattle.bpf_words.specs.declared.insn.BpfOp.TheVariants as ops
use Rattle.bpf_words.specs.declared.fault.BpfFlaw.{BpfFlaw}
use Rattle.bpf_words.specs.declared.fault.BpfFlaw.TheVariants as flaws
use Rattle.bpf_words.specs.Programs.{bpf_op, IsInBounds, IsRet}
use Rattle.bpf_words.specs.Reading.{HasInsns}

-- what the code says leaves the bounds, in the way that the flaw says
abbrev pub LeavesBounds : ℕ → ℕ → Bpf → BpfOp → BpfFlaw → Type 0
LeavesBounds count i insn ops.Ld (flaws.Offset j) = LOADABLE < insn.k + 4
LeavesBounds count i insn ops.Ldh (flaws.Offset j) = LOADABLE < insn.k + 2
LeavesBounds count i insn ops.Ldb (flaws.Offset j) = LOADABLE < insn.k + 1
LeavesBounds count i insn ops.Rsh (flaws.Shift j) = 31 < insn.k
LeavesBounds count i insn ops.Ja (flaws.Jump j) = count ≤ i + 1 + insn.k
LeavesBounds count i insn (ops.Jump test) (flaws.Jump j) = (count ≤ i + 1 + insn.jt) ⊎ (count ≤ i + 1 + insn.jf)
LeavesBounds count i insn op flaw = ⊥

-- the instruction at index i of count has a code of the table, and is in bounds
pub record IsFine (count i : ℕ) (insn : Bpf) : Type 0 where
  pub op : BpfOp
  pub op_is : bpf_op insn.code ≡ Some op
  pub bounds : IsInBounds count i insn op

-- what a flaw says of the instruction at index i of count
abbrev pub HasFlaw : ℕ → ℕ → Bpf → BpfFlaw → Type 0
HasFlaw count i insn (flaws.Opcode j) = bpf_op insn.code ≡ None
HasFlaw count i insn (flaws.NoReturn j) = (i + 1 ≡ count) × IsFine count i insn × ((op : BpfOp) → bpf_op insn.code ≡ Some op → IsRet op → ⊥)
HasFlaw count i insn flaw = (op : BpfOp) × (bpf_op insn.code ≡ Some op) × LeavesBounds count i insn op flaw

-- Bytes are at most MAX_PROGRAM instructions, of which the one at index i has the flaw, and those before it have none.
pub record IsFirstAt (bytes : List ℕ) (i : ℕ) (flaw : BpfFlaw) : Type 0 where
  pub insns : List Bpf
  pub has : HasInsns bytes insns
  pub few : length insns ≤ MAX_PROGRAM
  pub insn : Bpf
  pub at : slice_get insns i ≡ Some insn
  pub flawed : HasFlaw (length insns) i insn flaw
  pub before : (j : ℕ) (earlier : Bpf) → j < i → slice_get insns j ≡ Some earlier → IsFine (length insns) j earlier

-- what the first flaw of bytes means
abbrev pub MeansFlaw : List ℕ → BpfFlaw → Type 0
MeansFlaw bytes (flaws.Size n) = (n ≡ length bytes) × ((n ≡ 0) ⊎ (n % 8 ≡ 0 → ⊥))
MeansFlaw bytes (flaws.Count n) = (8 * n ≡ length bytes) × (MAX_PROGRAM < n)
MeansFlaw bytes (flaws.Opcode i) = IsFirstAt bytes i (flaws.Opcode i)
MeansFlaw bytes (flaws.Offset i) = IsFirstAt bytes i (flaws.Offset i)
MeansFlaw bytes (flaws.Shift i) = IsFirstAt bytes i (flaws.Shift i)
MeansFlaw bytes (flaws.Jump i) = IsFirstAt bytes i (flaws.Jump i)
MeansFlaw bytes (flaws.NoReturn i) = IsFirstAt bytes i (flaws.NoReturn i)
