-- The code of a program: a block of BLOCK words for each instruction, block i from word BLOCK * i on.
-- Register 1 is A; a block may use 2 and 3 (the quadwords that a load looks at), 4 (a byte), 5 (k) and 6 (what is tested). Register 0
-- takes what is returned, register 16 is the packet's address, and no other register is written.
use Rattle.std.specs.Prelude.{ℕ, zero, suc, ◌+◌, ◌-◌, ◌*◌, ◌/◌, ◌%◌, ◌==◌, if◌then◌else◌, List, [], ◌∷◌, ◌++◌, length, Option, Some, None, ℤ, pos}
use Rattle.word_ops.specs.declared.Op.TheVariants.{Add, Band, Bis, Sll, Srl, Cmpeq, Cmpult, Cmpule}
use Rattle.alpha_words.specs.declared.insn.Rhs.TheVariants.{Reg, Lit}
use Rattle.alpha_words.specs.declared.conditions.Cond.TheVariants.{NotZero}
use Rattle.alpha_words.specs.declared.insn.Insn.{Insn}
use Rattle.alpha_words.specs.declared.insn.Insn.TheVariants.{Ldq, Oper, Branch, Br, Ret}
use Rattle.bpf_code.specs.declared.blocks.TheConstants.{BLOCK}
use Rattle.bpf_words.specs.declared.insn.Bpf.{Bpf}
use Rattle.bpf_words.specs.declared.insn.BpfOp.{BpfOp}
use Rattle.bpf_words.specs.declared.insn.BpfOp.TheVariants as ops
use Rattle.bpf_words.specs.declared.insn.BpfTest.{BpfTest}
use Rattle.bpf_words.specs.declared.insn.BpfTest.TheVariants as tests
use Rattle.bpf_words.specs.Programs.{bpf_op}

-- ---- numbers by their bytes, the highest first

-- room for one more byte in a register; before the first byte the register is cleared
abbrev pub shift_in : ℕ → ℕ → Insn
shift_in zero r = Oper Add 31 (Lit 0) r
shift_in (suc n) r = Oper Sll r (Lit 8) r

-- k in a register, by its four bytes
abbrev pub constant_code : ℕ → ℕ → List Insn
constant_code r k =
    Oper Add 31 (Lit (k / 16777216)) r
    ∷ Oper Sll r (Lit 8) r ∷ Oper Add r (Lit (k / 65536 % 256)) r
    ∷ Oper Sll r (Lit 8) r ∷ Oper Add r (Lit (k / 256 % 256)) r
    ∷ Oper Sll r (Lit 8) r ∷ Oper Add r (Lit (k % 256)) r ∷ []

-- byte n of a load into A: it is byte `at` of the quadword in register q, the lowest being byte 0
abbrev pub byte_code : ℕ → ℕ → ℕ → List Insn
byte_code n q at = shift_in n 1 ∷ Oper Srl q (Lit (8 * at)) 4 ∷ Oper Band 4 (Lit 255) 4 ∷ Oper Add 1 (Reg 4) 1 ∷ []

-- the register of the quadword that has byte n of a load at k
abbrev pub quad_reg : ℕ → ℕ → ℕ
quad_reg k n = if (k + n) / 8 == k / 8 then 2 else 3

-- the first n bytes of a load at k into A
abbrev pub bytes_code : ℕ → ℕ → List Insn
bytes_code k zero = []
bytes_code k (suc n) = bytes_code k n ++ byte_code n (quad_reg k n) ((k + n) % 8)

-- n + 1 bytes of the packet at k into A: the quadwords of the first and the last of them, then the bytes
abbrev pub load_code : ℕ → ℕ → List Insn
load_code k n = Ldq 2 16 (pos (8 * (k / 8))) ∷ Ldq 3 16 (pos (8 * ((k + n) / 8))) ∷ bytes_code k (suc n)

-- ---- what a block computes

-- 0 for 0, else 1
abbrev pub nonzero_flag : ℕ → ℕ
nonzero_flag k = if k == 0 then 0 else 1

-- the test of a jump into register 6, which isn't 0 where it holds
abbrev pub test_code : BpfTest → Insn
test_code tests.Jeq = Oper Cmpeq 1 (Reg 5) 6
test_code tests.Jgt = Oper Cmpult 5 (Reg 1) 6
test_code tests.Jge = Oper Cmpule 5 (Reg 1) 6
test_code tests.Jset = Oper Band 1 (Reg 5) 6

-- what is computed before the block ends: A, what is tested, or what is returned
abbrev pub straight_code : BpfOp → ℕ → List Insn
straight_code ops.Ld k = load_code k 3
straight_code ops.Ldh k = load_code k 1
straight_code ops.Ldb k = load_code k 0
straight_code ops.LdImm k = constant_code 1 k
straight_code ops.Add k = constant_code 5 k ++ Oper Add 1 (Reg 5) 1 ∷ Oper Sll 1 (Lit 32) 1 ∷ Oper Srl 1 (Lit 32) 1 ∷ []
straight_code ops.Or k = constant_code 5 k ++ Oper Bis 1 (Reg 5) 1 ∷ []
straight_code ops.And k = constant_code 5 k ++ Oper Band 1 (Reg 5) 1 ∷ []
straight_code ops.Rsh k = Oper Srl 1 (Lit k) 1 ∷ []
straight_code ops.Ja k = Oper Add 31 (Lit 0) 6 ∷ []
straight_code (ops.Jump t) k = constant_code 5 k ++ test_code t ∷ []
straight_code ops.Ret k = Oper Add 31 (Lit (nonzero_flag k)) 0 ∷ []
straight_code ops.RetA k = Oper Cmpult 31 (Reg 1) 0 ∷ []

-- ---- how a block ends

-- the instruction that follows where register 6 isn't 0
abbrev pub taken_index : ℕ → Bpf → BpfOp → ℕ
taken_index i b ops.Ja = i + 1 + b.k
taken_index i b (ops.Jump t) = i + 1 + b.jt
taken_index i b op = i + 1

-- the instruction that follows where it is 0
abbrev pub passed_index : ℕ → Bpf → BpfOp → ℕ
passed_index i b ops.Ja = i + 1 + b.k
passed_index i b (ops.Jump t) = i + 1 + b.jf
passed_index i b op = i + 1

-- the displacement from the word `at` to block i, which lies behind it
abbrev pub block_distance : ℕ → ℕ → ℤ
block_distance at i = pos (BLOCK * i - (at + 1))

-- from the word `at` on: to block i where register 6 isn't 0, else to block j
abbrev pub branch_pair : ℕ → ℕ → ℕ → List Insn
branch_pair at i j = Branch NotZero 6 (block_distance at i) ∷ Br (block_distance (at + 1) j) ∷ []

-- the last words of block i, from the word `at` on
abbrev pub end_code : ℕ → ℕ → Bpf → BpfOp → List Insn
end_code at i b ops.Ret = Ret ∷ Ret ∷ []
end_code at i b ops.RetA = Ret ∷ Ret ∷ []
end_code at i b op = branch_pair at (taken_index i b op) (passed_index i b op)

-- ---- blocks

-- the first n words, and where there are fewer, words that nothing leads to
abbrev pub filled : ℕ → List Insn → List Insn
filled zero l = []
filled (suc n) [] = Ret ∷ filled n []
filled (suc n) (x ∷ l) = x ∷ filled n l

-- the place of the last words of block i
abbrev pub end_place : ℕ → BpfOp → ℕ → ℕ
end_place i op k = BLOCK * i + length (straight_code op k)

-- what block i does
abbrev pub block_code : ℕ → Bpf → BpfOp → List Insn
block_code i b op = straight_code op b.k ++ end_code (end_place i op b.k) i b op

-- block i, given what the code of its instruction says
abbrev pub block_of : ℕ → Bpf → Option BpfOp → List Insn
block_of i b None = filled BLOCK []
block_of i b (Some op) = filled BLOCK (block_code i b op)

-- the blocks of instructions, the first of which has index i
abbrev pub blocks_from : ℕ → List Bpf → List Insn
blocks_from i [] = []
blocks_from i (b ∷ rest) = block_of i b (bpf_op b.code) ++ blocks_from (suc i) rest

-- the code of a program
unfoldable pub bpf_code : List Bpf → List Insn
bpf_code program = blocks_from 0 program
