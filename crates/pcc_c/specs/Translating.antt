-- The native code of a container.
use Rattle.std.specs.Prelude.{◌≡◌, ◌⊎◌, ◌+◌, ◌*◌, ℕ, List, length, Option, Some, None, Result, Ok, Err}
use Rattle.alpha_cfg.specs.Machine.{State}
use Rattle.policy_set.specs.Views.{PolicyView}
use Rattle.x86_machine.specs.Machine.{X86, x86_run}
use Rattle.native_steps.specs.Agreement.{Call}
use Rattle.native_code.specs.Layout.{native_insns}
use Rattle.native_code.specs.Ends.{LeavesWithin}
use Rattle.native_gate.specs.Translated.{is_metered, IsNativeOf}
use Rattle.native_gate.specs.Calls.{IsPolicyCall, IsGoodNativeEnd}
use Rattle.pcc_c.specs.declared.reason.Reason.{Reason}
use Rattle.pcc_c.specs.Statuses.{answer_status, IsShortage}
use Rattle.pcc_c.specs.Reasons.{answer_text}
use Rattle.pcc_c.specs.Policies.{policy_given}
use Rattle.pcc_c.specs.Checking.{check_answer}
use Rattle.pcc_c.specs.Buffers.{StoresIn, LeavesBuffer}

-- ---- the answer

-- the first bytes give a policy, under which the second are accepted; the text is native code of
-- them
pub record IsNativeUnder (given bytes text : List ℕ) : Type 0 where
  pub policy : PolicyView
  pub gives : policy_given given ≡ Ok policy
  pub native : IsNativeOf policy bytes text

-- the answer of `pcc_check`, with native code of the bytes where they are accepted
abbrev pub IsNativeAnswer : List ℕ → List ℕ → Result (List ℕ) Reason → Type 0
IsNativeAnswer given bytes (Ok text) = (check_answer given bytes ≡ Ok tt) × IsNativeUnder given bytes text
IsNativeAnswer given bytes (Err why) = check_answer given bytes ≡ Err why

-- such an answer is stored, by its text and its status
pub record StoresNative (given bytes old new : List ℕ) (count status : ℕ) : Type 0 where
  pub answer : Result (List ℕ) Reason
  pub due : IsNativeAnswer given bytes answer
  pub stored : StoresIn (answer_text answer) (answer_status answer) old new count status

-- that is so, unless something ran out
abbrev pub AnswersNative : List ℕ → List ℕ → List ℕ → List ℕ → ℕ → ℕ → Type 0
AnswersNative given bytes old new count status =
    LeavesBuffer IsShortage old new count status ⊎ StoresNative given bytes old new count status

-- ---- what calls do

-- the most steps of a call: by the fuel and the instructions of the text, or by the step bound
abbrev pub most_steps : Option ℕ → ℕ → ℕ → ℕ
most_steps None insns fuel = (fuel + 2) * insns
most_steps (Some bound) insns fuel = 10 * bound + 100

-- What is owed of calls whose registers and memory satisfy the policy's precondition: none is ever
-- stuck, where one returns the postcondition holds, and each ends in time.
pub record IsSafeNative (given bytes text : List ℕ) : Type 0 where
  pub under : IsNativeUnder given bytes text
  pub safe : let n = under.native in
      (call : Call) (s : State) (x : X86) (steps : ℕ) → IsPolicyCall under.policy call s x
      → IsGoodNativeEnd under.policy (is_metered n.accepted.contents.bound) n.accepted.code call s
      (x86_run text steps x)
  pub ends : let n = under.native in let bound = n.accepted.contents.bound in
      let insns = native_insns n.translated.places n.translated.lean (is_metered bound) n.accepted.code in
      (call : Call) (s : State) (x : X86) → IsPolicyCall under.policy call s x
      → LeavesWithin text (most_steps bound (length insns) call.fuel) x
