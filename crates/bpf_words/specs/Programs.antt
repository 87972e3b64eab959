-- Programs of classic BPF: what each code does, and which instructions make a program.
-- McCanne and Jacobson, The BSD Packet Filter, USENIX 1993, section 3; without its index register and scratch memory.
use Rattle.std.specs.Prelude.{◌≡◌, ℕ, ◌+◌, ◌<◌, ◌≤◌, ◌==◌, ◌^◌, if◌then◌else◌, List, length, slice_get, Option, Some, None}
use Rattle.bpf_words.specs.declared.insn.TheConstants.{MAX_PROGRAM, LOADABLE}
use Rattle.bpf_words.specs.declared.insn.Bpf.{Bpf}
use Rattle.bpf_words.specs.declared.insn.BpfOp.{BpfOp}
use Rattle.bpf_words.specs.declared.insn.BpfOp.TheVariants as ops
use Rattle.bpf_words.specs.declared.insn.BpfTest.TheVariants as tests

-- what a code says, if it is one of the table
abbrev pub bpf_op : ℕ → Option BpfOp
bpf_op code =
    if code == 0x20 then Some ops.Ld else
    if code == 0x28 then Some ops.Ldh else
    if code == 0x30 then Some ops.Ldb else
    if code == 0x00 then Some ops.LdImm else
    if code == 0x04 then Some ops.Add else
    if code == 0x44 then Some ops.Or else
    if code == 0x54 then Some ops.And else
    if code == 0x74 then Some ops.Rsh else
    if code == 0x05 then Some ops.Ja else
    if code == 0x15 then Some (ops.Jump tests.Jeq) else
    if code == 0x25 then Some (ops.Jump tests.Jgt) else
    if code == 0x35 then Some (ops.Jump tests.Jge) else
    if code == 0x45 then Some (ops.Jump tests.Jset) else
    if code == 0x06 then Some ops.Ret else
    if code == 0x16 then Some ops.RetA else
    None

-- at index i of count instructions: a load stays in the first bytes, a shift below 32, a jump among the instructions
abbrev pub IsInBounds : ℕ → ℕ → Bpf → BpfOp → Type 0
IsInBounds count i insn ops.Ld = insn.k + 4 ≤ LOADABLE
IsInBounds count i insn ops.Ldh = insn.k + 2 ≤ LOADABLE
IsInBounds count i insn ops.Ldb = insn.k + 1 ≤ LOADABLE
IsInBounds count i insn ops.LdImm = Unit {0}
IsInBounds count i insn ops.Add = Unit {0}
IsInBounds count i insn ops.Or = Unit {0}
IsInBounds count i insn ops.And = Unit {0}
IsInBounds count i insn ops.Rsh = insn.k ≤ 31
IsInBounds count i insn ops.Ja = i + 1 + insn.k < count
IsInBounds count i insn (ops.Jump test) = (i + 1 + insn.jt < count) × (i + 1 + insn.jf < count)
IsInBounds count i insn ops.Ret = Unit {0}
IsInBounds count i insn ops.RetA = Unit {0}

-- an instruction that ends the program
abbrev pub IsRet : BpfOp → Type 0
IsRet ops.Ld = ⊥
IsRet ops.Ldh = ⊥
IsRet ops.Ldb = ⊥
IsRet ops.LdImm = ⊥
IsRet ops.Add = ⊥
IsRet ops.Or = ⊥
IsRet ops.And = ⊥
IsRet ops.Rsh = ⊥
IsRet ops.Ja = ⊥
IsRet (ops.Jump test) = ⊥
IsRet ops.Ret = Unit {0}
IsRet ops.RetA = Unit {0}

-- the fields are numbers of their widths
pub record HasWidths (insn : Bpf) : Type 0 where
  pub code : insn.code < 2 ^ 16
  pub jt : insn.jt < 2 ^ 8
  pub jf : insn.jf < 2 ^ 8
  pub k : insn.k < 2 ^ 32

-- the instruction at index i of count has a code of the table and is in bounds, and the last one returns
pub record IsSoundAt (count i : ℕ) (insn : Bpf) : Type 0 where
  pub op : BpfOp
  pub op_is : bpf_op insn.code ≡ Some op
  pub bounds : IsInBounds count i insn op
  pub widths : HasWidths insn
  pub last : i + 1 ≡ count → IsRet op

-- a program: instructions in bounds, the last of which returns
pub record IsProgram (program : List Bpf) : Type 0 where
  pub some : 0 < length program
  pub few : length program ≤ MAX_PROGRAM
  pub each : (i : ℕ) (insn : Bpf) → slice_get program i ≡ Some insn → IsSoundAt (length program) i insn
