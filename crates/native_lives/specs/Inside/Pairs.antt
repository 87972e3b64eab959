-- A compare and the branch behind it that can be joined, if the register is dead.
use Rattle.std.specs.Prelude.{◌≡◌, ℕ, suc, ◌<◌, false, List, slice_get, Some}
use Rattle.word_ops.specs.declared.Op.{Op}
use Rattle.alpha_words.specs.declared.insn.Insn.{Insn}
use Rattle.alpha_words.specs.declared.insn.Rhs.{Rhs}
use Rattle.alpha_words.specs.declared.conditions.Cond.{Cond}
use Rattle.alpha_cfg.specs.Actions.{Applied, When, action_of}
use Rattle.alpha_cfg.specs.Actions as actions
use Rattle.x86_words.specs.declared.operators.X86Cond.{X86Cond}
use Rattle.native_steps.specs.Compares.{joined_cond}
use Rattle.native_code.specs.Heads.{jump_to}

-- The instruction at an index is a branch on the register that a compare writes, which can be joined to it, and no jump leads to it.
pub record IsBranchOn (code : List Insn) (i : ℕ) (op : Op) (to written : ℕ) (jump : X86Cond) : Type 0 where
  pub same : written ≡ to
  pub register : to < 31
  pub branch : Insn
  pub here : slice_get code i ≡ Some branch
  pub cond : Cond
  pub branches : action_of branch ≡ actions.Branching (When cond to)
  pub joined : joined_cond op cond ≡ Some jump
  pub alone : jump_to i 0 code ≡ false

-- The instruction at an index is a compare that writes the register, and such a branch is behind it.
pub record IsPair (code : List Insn) (i to : ℕ) (jump : X86Cond) : Type 0 where
  pub compare : Insn
  pub here : slice_get code i ≡ Some compare
  pub op : Op
  pub left : ℕ
  pub right : Rhs
  pub compares : action_of compare ≡ actions.Compute to (Applied op left right)
  pub behind : IsBranchOn code (suc i) op to to jump
