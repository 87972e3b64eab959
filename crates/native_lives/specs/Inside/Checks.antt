-- Parts of what makes a certificate right, one for each part of the check.
use Rattle.std.specs.Prelude.{◌≡◌, ◌≢◌, ◌⊎◌, ℕ, suc, true, List, slice_get, Option, Some, None}
use Rattle.alpha_words.specs.declared.insn.Insn.{Insn}
use Rattle.alpha_cfg.specs.Actions.{action_of}
use Rattle.x86_words.specs.declared.operators.X86Cond.{X86Cond}
use Rattle.native_code.specs.declared.insn.Form.TheVariants.{Compare, Joined, Gone}
use Rattle.native_code.specs.Lives.{Lean, form_at, written, MayGoOn, AreJoined, FitsForm, IsLeanAt}

-- the compare at an index is joined to the branch behind it
abbrev pub IsCompare : Lean → List Insn → ℕ → Type 0
IsCompare lean code i = (jump : X86Cond) × (form_at lean (suc i) ≡ Joined jump) × AreJoined lean code i jump

-- a compare is at the index before
abbrev pub IsBehindCompare : Lean → ℕ → Type 0
IsBehindCompare lean i = (k : ℕ) × (i ≡ suc k) × (form_at lean k ≡ Compare)

-- the form of an index fits its instruction, if there is one
abbrev pub FitsAt : Lean → List Insn → ℕ → Option Insn → Type 0
FitsAt lean code i None = Unit {0}
FitsAt lean code i (Some insn) = FitsForm lean code i insn (form_at lean i)

-- a register that is live at an index, and isn't written, is live before
abbrev pub Flows : Lean → ℕ → Insn → ℕ → ℕ → Type 0
Flows lean i insn j r = lean.live j r ≡ true → (written (action_of insn) ≡ Some r) ⊎ (lean.live i r ≡ true)

-- An instruction may lead to an index.
pub record LeadsRightTo (lean : Lean) (i : ℕ) (insn : Insn) (j : ℕ) : Type 0 where
  pub kept : form_at lean j ≢ Gone
  pub flows : (r : ℕ) → Flows lean i insn j r

-- it may lead to each index to which it leads
abbrev pub LeadsRight : Lean → ℕ → Option Insn → Type 0
LeadsRight lean i None = Unit {0}
LeadsRight lean i (Some insn) = (j : ℕ) → MayGoOn i insn j → LeadsRightTo lean i insn j

-- the certificate is right at an index, if that isn't left out
abbrev pub IsRightAt : Lean → List Insn → ℕ → Type 0
IsRightAt lean code i = (insn : Insn) → slice_get code i ≡ Some insn → form_at lean i ≢ Gone → IsLeanAt lean code i insn
