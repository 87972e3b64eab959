-- The program that bytes are, or the first thing that is wrong with them, by the tests in their order.
use Rattle.std.specs.Prelude.{◌≡◌, ◌^◌, ◌<◌, ℕ, zero, suc, ◌+◌, ◌-◌, ◌*◌, ◌/◌, ◌%◌, Bool, true, false, ◌||◌, not, ◌==◌, nat_lt, nat_le, if◌then◌else◌, List, [], ◌∷◌, length, slice_get, slice_index, Option, Some, None, Result, Ok, Err, Vec}
use Rattle.std.specs.Global.{Global}
use Rattle.bpf_words.specs.declared.insn.TheConstants.{MAX_PROGRAM, LOADABLE}
use Rattle.bpf_words.specs.declared.insn.Bpf.{Bpf}
use Rattle.bpf_words.specs.declared.insn.BpfOp.{BpfOp}
use Rattle.bpf_words.specs.declared.insn.BpfOp.TheVariants as ops
use Rattle.bpf_words.specs.declared.fault.BpfFlaw.{BpfFlaw}
use Rattle.bpf_words.specs.declared.fault.BpfFlaw.TheVariants as flaws
use Rattle.bpf_words.specs.declared.fault.BpfFault.{BpfFault}
use Rattle.bpf_words.specs.declared.fault.BpfFault.TheVariants as faults
use Rattle.bpf_words.specs.Programs.{bpf_op, HasWidths}

-- numbers that are bytes
abbrev pub AreBytes : List ℕ → Type 0
AreBytes bytes = (i : ℕ) → slice_index bytes i < 2 ^ 8

-- the number of two bytes from an offset on, the lowest first
abbrev pub half_word : List ℕ → ℕ → ℕ
half_word bytes at = slice_index bytes at + 256 * slice_index bytes (at + 1)

-- the number of four bytes
abbrev pub full_word : List ℕ → ℕ → ℕ
full_word bytes at = half_word bytes at + 65536 * half_word bytes (at + 2)

-- the instruction of the i-th eight bytes
abbrev pub insn_at : List ℕ → ℕ → Bpf
insn_at bytes i = record {
  code = half_word bytes (8 * i);
  jt = slice_index bytes (8 * i + 2);
  jf = slice_index bytes (8 * i + 3);
  k = full_word bytes (8 * i + 4);
}

-- the n instructions from index i on
abbrev pub bpf_insns_from : List ℕ → ℕ → ℕ → List Bpf
bpf_insns_from bytes i zero = []
bpf_insns_from bytes i (suc n) = insn_at bytes i ∷ bpf_insns_from bytes (i + 1) n

-- the instructions of bytes
abbrev pub insns_of : List ℕ → List Bpf
insns_of bytes = bpf_insns_from bytes 0 (length bytes / 8)

-- a flaw where the test is true
abbrev pub flaw_if : Bool → BpfFlaw → Option BpfFlaw
flaw_if test flaw = if test then Some flaw else None

-- what is wrong with the instruction at index i of count, by what it does
abbrev pub op_flaw : ℕ → ℕ → Bpf → BpfOp → Option BpfFlaw
op_flaw count i insn ops.Ld = flaw_if (nat_lt LOADABLE (insn.k + 4)) (flaws.Offset i)
op_flaw count i insn ops.Ldh = flaw_if (nat_lt LOADABLE (insn.k + 2)) (flaws.Offset i)
op_flaw count i insn ops.Ldb = flaw_if (nat_lt LOADABLE (insn.k + 1)) (flaws.Offset i)
op_flaw count i insn ops.Rsh = flaw_if (nat_lt 31 insn.k) (flaws.Shift i)
op_flaw count i insn ops.Ja = flaw_if (nat_le count (i + 1 + insn.k)) (flaws.Jump i)
op_flaw count i insn (ops.Jump test) = flaw_if (nat_le count (i + 1 + insn.jt) || nat_le count (i + 1 + insn.jf)) (flaws.Jump i)
op_flaw count i insn op = None

-- what is wrong with it, given what its code says
abbrev pub code_flaw : ℕ → ℕ → Bpf → Option BpfOp → Option BpfFlaw
code_flaw count i insn None = Some (flaws.Opcode i)
code_flaw count i insn (Some op) = op_flaw count i insn op

-- what is wrong with it
abbrev pub insn_flaw : ℕ → ℕ → Bpf → Option BpfFlaw
insn_flaw count i insn = code_flaw count i insn (bpf_op insn.code)

-- the first, if there is one, else the second
abbrev pub else_flaw : Option BpfFlaw → Option BpfFlaw → Option BpfFlaw
else_flaw None second = second
else_flaw (Some flaw) second = Some flaw

-- the first flaw of instructions, whose first has index i of count
abbrev pub flaw_from : ℕ → ℕ → List Bpf → Option BpfFlaw
flaw_from count i [] = None
flaw_from count i (insn ∷ rest) = else_flaw (insn_flaw count i insn) (flaw_from count (i + 1) rest)

-- whether an instruction returns, given what its code says
abbrev pub returns : Option BpfOp → Bool
returns (Some ops.Ret) = true
returns (Some ops.RetA) = true
returns op = false

-- that the last instruction, at index i, doesn't return
abbrev pub return_flaw : ℕ → Option Bpf → Option BpfFlaw
return_flaw i None = None
return_flaw i (Some insn) = flaw_if (not (returns (bpf_op insn.code))) (flaws.NoReturn i)

-- the first flaw of instructions
abbrev pub first_flaw : List Bpf → Option BpfFlaw
first_flaw insns = else_flaw (flaw_from (length insns) 0 insns) (return_flaw (length insns - 1) (slice_get insns (length insns - 1)))

-- the instructions, where there is no flaw
abbrev pub unless_flaw : List Bpf → Option BpfFlaw → Result (List Bpf) BpfFlaw
unless_flaw insns None = Ok insns
unless_flaw insns (Some flaw) = Err flaw

-- what is wrong with a length in bytes
abbrev pub size_flaw : ℕ → Option BpfFlaw
size_flaw size = else_flaw (flaw_if (size == 0 || not (size % 8 == 0)) (flaws.Size size)) (flaw_if (nat_lt MAX_PROGRAM (size / 8)) (flaws.Count (size / 8)))

-- the program of bytes, or the first flaw: of the length, then of an instruction, then of the end
unfoldable pub program_of : List ℕ → Result (List Bpf) BpfFlaw
program_of bytes = unless_flaw (insns_of bytes) (else_flaw (size_flaw (length bytes)) (first_flaw (insns_of bytes)))

-- an answer that isn't want of memory is what the bytes read as
abbrev pub IsProgramRead : List ℕ → Result (Vec Bpf Global) BpfFault → Type 0
IsProgramRead bytes (Ok program) = program_of bytes ≡ Ok program.items
IsProgramRead bytes (Err (faults.At flaw)) = program_of bytes ≡ Err flaw
IsProgramRead bytes (Err faults.Memory) = Unit {0}

-- the instructions are those of all bytes, one for each eight, in their order
pub record HasInsns (bytes : List ℕ) (insns : List Bpf) : Type 0 where
  pub whole : 8 * length insns ≡ length bytes
  pub each : (i : ℕ) (insn : Bpf) → slice_get insns i ≡ Some insn → insn ≡ insn_at bytes i

-- the fields of each instruction are numbers of their widths
abbrev pub HaveWidths : List Bpf → Type 0
HaveWidths insns = (i : ℕ) (insn : Bpf) → slice_get insns i ≡ Some insn → HasWidths insn
