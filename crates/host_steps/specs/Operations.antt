-- Which operations stand for the instructions of code.
use Rattle.std.specs.Prelude.{◌≡◌, ℕ, ◌+◌, ◌<◌, ◌≤◌, List, length, slice_get, Some, ℤ}
use Rattle.word_ops.specs.declared.Op.TheVariants as words
use Rattle.alpha_words.specs.declared.insn.Rhs.TheVariants.{Reg, Lit}
use Rattle.alpha_words.specs.declared.conditions.Cond.{Cond}
use Rattle.alpha_words.specs.declared.conditions.Cond.TheVariants as conds
use Rattle.alpha_words.specs.declared.insn.Insn.{Insn}
use Rattle.alpha_words.specs.declared.insn.Insn.TheVariants as insns
use Rattle.alpha_cfg.specs.declared.code.TheConstants.{MAX_WORDS}
use Rattle.alpha_cfg.specs.Flow.{jump_of}
use Rattle.host_steps.specs.declared.operations.Operation.{Operation}
use Rattle.host_steps.specs.declared.operations.Operation.TheVariants as operations

-- the instruction stands at the index, and code goes on behind it
abbrev pub GoesOnAt : List Insn → ℕ → Insn → Type 0
GoesOnAt code i insn = (slice_get code i ≡ Some insn) × (i + 1 < length code)

-- the same of one that writes a register, which isn't 31
abbrev pub IsWriteAt : List Insn → ℕ → Insn → ℕ → Type 0
IsWriteAt code i insn reg = (slice_get code i ≡ Some insn) × (i + 1 < length code) × (reg < 31)

-- a conditional branch to an index of the code
abbrev pub IsBranchAt : List Insn → ℕ → Cond → ℕ → ℕ → Type 0
IsBranchAt code i cond ra to =
    (disp : ℤ) × (slice_get code i ≡ Some (insns.Branch cond ra disp)) × (jump_of i (insns.Branch cond ra disp) ≡ Some to)
    × (to < length code) × (i + 1 < length code)

-- a branch that is always taken, to an index of the code
abbrev pub IsJumpAt : List Insn → ℕ → ℕ → Type 0
IsJumpAt code i to = (disp : ℤ) × (slice_get code i ≡ Some (insns.Br disp)) × (jump_of i (insns.Br disp) ≡ Some to) × (to < length code)

-- an instruction that writes register 31, and so only goes on
abbrev pub WritesNothing : Insn → Type 0
WritesNothing (insns.Lda ra rb disp) = ra ≡ 31
WritesNothing (insns.Ldq ra rb disp) = ⊥
WritesNothing (insns.Ldah ra rb disp) = ra ≡ 31
WritesNothing (insns.LdqU ra rb disp) = ⊥
WritesNothing (insns.Stq ra rb disp) = ⊥
WritesNothing (insns.Oper op ra rhs rc) = rc ≡ 31
WritesNothing (insns.Branch cond ra disp) = ⊥
WritesNothing (insns.Br disp) = ⊥
WritesNothing insns.Ret = ⊥

-- the operation stands for the instruction at the index
abbrev pub IsOperationAt : List Insn → ℕ → Operation → Type 0
IsOperationAt code i (operations.Lda ra rb disp) = IsWriteAt code i (insns.Lda ra rb disp) ra
IsOperationAt code i (operations.Ldq ra rb disp) = IsWriteAt code i (insns.Ldq ra rb disp) ra
IsOperationAt code i (operations.Ldah ra rb disp) = IsWriteAt code i (insns.Ldah ra rb disp) ra
IsOperationAt code i (operations.LdqU ra rb disp) = IsWriteAt code i (insns.LdqU ra rb disp) ra
IsOperationAt code i (operations.Stq ra rb disp) = GoesOnAt code i (insns.Stq ra rb disp)
IsOperationAt code i (operations.Add ra rb rc) = IsWriteAt code i (insns.Oper words.Add ra (Reg rb) rc) rc
IsOperationAt code i (operations.Sub ra rb rc) = IsWriteAt code i (insns.Oper words.Sub ra (Reg rb) rc) rc
IsOperationAt code i (operations.Band ra rb rc) = IsWriteAt code i (insns.Oper words.Band ra (Reg rb) rc) rc
IsOperationAt code i (operations.Bis ra rb rc) = IsWriteAt code i (insns.Oper words.Bis ra (Reg rb) rc) rc
IsOperationAt code i (operations.Sll ra rb rc) = IsWriteAt code i (insns.Oper words.Sll ra (Reg rb) rc) rc
IsOperationAt code i (operations.Srl ra rb rc) = IsWriteAt code i (insns.Oper words.Srl ra (Reg rb) rc) rc
IsOperationAt code i (operations.Cmpeq ra rb rc) = IsWriteAt code i (insns.Oper words.Cmpeq ra (Reg rb) rc) rc
IsOperationAt code i (operations.Cmplt ra rb rc) = IsWriteAt code i (insns.Oper words.Cmplt ra (Reg rb) rc) rc
IsOperationAt code i (operations.Cmple ra rb rc) = IsWriteAt code i (insns.Oper words.Cmple ra (Reg rb) rc) rc
IsOperationAt code i (operations.Cmpult ra rb rc) = IsWriteAt code i (insns.Oper words.Cmpult ra (Reg rb) rc) rc
IsOperationAt code i (operations.Cmpule ra rb rc) = IsWriteAt code i (insns.Oper words.Cmpule ra (Reg rb) rc) rc
IsOperationAt code i (operations.Oper op ra rb rc) = IsWriteAt code i (insns.Oper op ra (Reg rb) rc) rc
IsOperationAt code i (operations.AddLit ra lit rc) = IsWriteAt code i (insns.Oper words.Add ra (Lit lit) rc) rc
IsOperationAt code i (operations.SubLit ra lit rc) = IsWriteAt code i (insns.Oper words.Sub ra (Lit lit) rc) rc
IsOperationAt code i (operations.BandLit ra lit rc) = IsWriteAt code i (insns.Oper words.Band ra (Lit lit) rc) rc
IsOperationAt code i (operations.BisLit ra lit rc) = IsWriteAt code i (insns.Oper words.Bis ra (Lit lit) rc) rc
IsOperationAt code i (operations.SllLit ra lit rc) = IsWriteAt code i (insns.Oper words.Sll ra (Lit lit) rc) rc
IsOperationAt code i (operations.SrlLit ra lit rc) = IsWriteAt code i (insns.Oper words.Srl ra (Lit lit) rc) rc
IsOperationAt code i (operations.CmpeqLit ra lit rc) = IsWriteAt code i (insns.Oper words.Cmpeq ra (Lit lit) rc) rc
IsOperationAt code i (operations.CmpltLit ra lit rc) = IsWriteAt code i (insns.Oper words.Cmplt ra (Lit lit) rc) rc
IsOperationAt code i (operations.CmpleLit ra lit rc) = IsWriteAt code i (insns.Oper words.Cmple ra (Lit lit) rc) rc
IsOperationAt code i (operations.CmpultLit ra lit rc) = IsWriteAt code i (insns.Oper words.Cmpult ra (Lit lit) rc) rc
IsOperationAt code i (operations.CmpuleLit ra lit rc) = IsWriteAt code i (insns.Oper words.Cmpule ra (Lit lit) rc) rc
IsOperationAt code i (operations.OperLit op ra lit rc) = IsWriteAt code i (insns.Oper op ra (Lit lit) rc) rc
IsOperationAt code i (operations.Blbc ra to) = IsBranchAt code i conds.LowClear ra to
IsOperationAt code i (operations.Beq ra to) = IsBranchAt code i conds.Zero ra to
IsOperationAt code i (operations.Blt ra to) = IsBranchAt code i conds.Negative ra to
IsOperationAt code i (operations.Ble ra to) = IsBranchAt code i conds.NotPositive ra to
IsOperationAt code i (operations.Blbs ra to) = IsBranchAt code i conds.LowSet ra to
IsOperationAt code i (operations.Bne ra to) = IsBranchAt code i conds.NotZero ra to
IsOperationAt code i (operations.Bge ra to) = IsBranchAt code i conds.NotNegative ra to
IsOperationAt code i (operations.Bgt ra to) = IsBranchAt code i conds.Positive ra to
IsOperationAt code i (operations.Br to) = IsJumpAt code i to
IsOperationAt code i operations.Ret = slice_get code i ≡ Some insns.Ret
IsOperationAt code i operations.Next = (insn : Insn) × (slice_get code i ≡ Some insn) × WritesNothing insn × (i + 1 < length code)

-- one for each instruction of the code, in order
pub record AreOperations (code : List Insn) (list : List Operation) : Type 0 where
  pub count : length list ≡ length code
  pub short : length list ≤ MAX_WORDS
  pub each : (i : ℕ) (operation : Operation) → slice_get list i ≡ Some operation → IsOperationAt code i operation
