-- What native code may leave out: what writes a register that is dead, words that no run comes to, and the word of a compare that only the branch behind
-- it reads. A certificate says where, and `IsLean` when it is right. A register is live at an index if what native code does from there on may read it.
use Rattle.std.specs.Prelude.{◌≡◌, ◌≢◌, ◌⊎◌, ℕ, suc, ◌<◌, Bool, true, false, List, get_or, slice_get, Option, Some, None}
use Rattle.word_ops.specs.declared.Op.{Op}
use Rattle.alpha_words.specs.declared.insn.Insn.{Insn}
use Rattle.alpha_words.specs.declared.insn.Rhs.{Rhs}
use Rattle.alpha_words.specs.declared.insn.Rhs.TheVariants.{Reg, Lit}
use Rattle.alpha_words.specs.declared.conditions.Cond.{Cond}
use Rattle.alpha_cfg.specs.Actions.{Computed, Sum, Applied, Test, Always, When, Action, action_of}
use Rattle.alpha_cfg.specs.Actions as actions
use Rattle.alpha_cfg.specs.Flow.{next_of, jump_of}
use Rattle.x86_words.specs.declared.operators.X86Cond.{X86Cond}
use Rattle.native_steps.specs.Compares.{joined_cond}
use Rattle.native_code.specs.declared.insn.Form.{Form}
use Rattle.native_code.specs.declared.insn.Form.TheVariants.{Whole, Dead, Compare, Joined, Gone}
use Rattle.native_code.specs.Heads.{jump_to}

-- the form of each index, and whether a register is live at an index
pub record Lean : Type 0 where
  pub forms : List Form
  pub live : ℕ → ℕ → Bool

-- the form of an index
abbrev pub form_at : Lean → ℕ → Form
form_at lean i = get_or lean.forms i Whole

-- a register is live at an index, or reads 0
abbrev pub IsLive : Lean → ℕ → ℕ → Type 0
IsLive lean i r = (r ≡ 31) ⊎ (lean.live i r ≡ true)

-- the second operand's register is
abbrev pub RhsIsLive : Lean → ℕ → Rhs → Type 0
RhsIsLive lean i (Reg r) = IsLive lean i r
RhsIsLive lean i (Lit n) = Unit {0}

-- The registers that an action reads are live at its index.
abbrev pub ReadsLive : Lean → ℕ → Action → Type 0
ReadsLive lean i (actions.Compute to (Sum base disp)) = IsLive lean i base
ReadsLive lean i (actions.Compute to (Applied op left right)) = IsLive lean i left × RhsIsLive lean i right
ReadsLive lean i (actions.Load to base disp) = IsLive lean i base
ReadsLive lean i (actions.LoadAround to base disp) = IsLive lean i base
ReadsLive lean i (actions.Store from base disp) = IsLive lean i from × IsLive lean i base
ReadsLive lean i (actions.Branching Always) = Unit {0}
ReadsLive lean i (actions.Branching (When cond r)) = IsLive lean i r
ReadsLive lean i actions.Return = IsLive lean i 0

-- the register that an action writes
abbrev pub written : Action → Option ℕ
written (actions.Compute to word) = Some to
written (actions.Load to base disp) = Some to
written (actions.LoadAround to base disp) = Some to
written _ = None

-- the code may go on from an index to another
abbrev pub MayGoOn : ℕ → Insn → ℕ → Type 0
MayGoOn i insn j = (next_of i insn ≡ Some j) ⊎ (jump_of i insn ≡ Some j)

-- What an instruction writes is dead after it: it isn't done.
pub record IsDeadWrite (lean : Lean) (i : ℕ) (insn : Insn) : Type 0 where
  pub to : ℕ
  pub writes : written (action_of insn) ≡ Some to
  pub dead : lean.live (suc i) to ≡ false

-- A compare, and behind it a branch on the register that it writes, to which nothing else leads. The register is dead at the branch; it isn't register 31,
-- which would read 0.
pub record AreJoined (lean : Lean) (code : List Insn) (i : ℕ) (jump : X86Cond) : Type 0 where
  pub compare : Insn
  pub branch : Insn
  pub first : slice_get code i ≡ Some compare
  pub second : slice_get code (suc i) ≡ Some branch
  pub op : Op
  pub left : ℕ
  pub right : Rhs
  pub to : ℕ
  pub register : to < 31
  pub cond : Cond
  pub compares : action_of compare ≡ actions.Compute to (Applied op left right)
  pub branches : action_of branch ≡ actions.Branching (When cond to)
  pub joined : joined_cond op cond ≡ Some jump
  pub alone : jump_to (suc i) 0 code ≡ false
  pub dead : lean.live (suc i) to ≡ false

-- What an index's form asks of it.
abbrev pub FitsForm : Lean → List Insn → ℕ → Insn → Form → Type 0
FitsForm lean code i insn Whole = ReadsLive lean i (action_of insn)
FitsForm lean code i insn Dead = IsDeadWrite lean i insn
FitsForm lean code i insn Compare =
    ReadsLive lean i (action_of insn) × ((jump : X86Cond) × (form_at lean (suc i) ≡ Joined jump) × AreJoined lean code i jump)
FitsForm lean code i insn (Joined jump) = (k : ℕ) × (i ≡ suc k) × (form_at lean k ≡ Compare)
FitsForm lean code i insn Gone = Unit {0}

-- The certificate is right at an index that isn't left out: its form fits; what is live after it and isn't written is live before; the code doesn't go on
-- to an index that is left out.
pub record IsLeanAt (lean : Lean) (code : List Insn) (i : ℕ) (insn : Insn) : Type 0 where
  pub fits : FitsForm lean code i insn (form_at lean i)
  pub flows : (j r : ℕ) → MayGoOn i insn j → lean.live j r ≡ true → (written (action_of insn) ≡ Some r) ⊎ (lean.live i r ≡ true)
  pub kept : (j : ℕ) → MayGoOn i insn j → form_at lean j ≢ Gone

-- A right certificate. The first index is there, and isn't a branch that is joined.
pub record IsLean (lean : Lean) (code : List Insn) : Type 0 where
  pub at : (i : ℕ) (insn : Insn) → slice_get code i ≡ Some insn → form_at lean i ≢ Gone → IsLeanAt lean code i insn
  pub start : form_at lean 0 ≢ Gone
