-- What calls of translated code do, if the container was accepted.
use Rattle.std.specs.Prelude.{◌≡◌, ◌⊎◌, ℕ, ◌+◌, ◌*◌, Bool, true, false, List, length, Some}
use Rattle.alpha_words.specs.declared.insn.Insn.{Insn}
use Rattle.alpha_cfg.specs.Machine.{State, IsState}
use Rattle.policy_set.specs.Views.{PolicyView, IsPolicy}
use Rattle.policy_set.specs.Satisfies.{Satisfies}
use Rattle.pcc_gate.specs.Accepted.{IsAccepted}
use Rattle.x86_machine.specs.declared.outcome.X86Outcome.{X86Outcome}
use Rattle.x86_machine.specs.declared.outcome.X86Outcome.TheVariants as outcomes
use Rattle.x86_machine.specs.Machine.{X86, x86_run}
use Rattle.native_steps.specs.Agreement.{Call, IsLent}
use Rattle.native_code.specs.Layout.{native_insns}
use Rattle.native_code.specs.Calls.{IsCall}
use Rattle.native_code.specs.Ends.{ReturnsAs, RunsOut, LeavesWithin}
use Rattle.native_translator.specs.Translation.{IsTranslation}

-- A call whose registers and memory satisfy the precondition, under the access rights that the caller grants, with an area of its own.
pub record IsPolicyCall (policy : PolicyView) (call : Call) (s : State) (x : X86) : Type 0 where
  pub state : IsState s
  pub lent : IsLent call s.rights
  pub begins : IsCall call s x
  pub pre : Satisfies s.rights s.regs s.memory policy.pre

-- it returned as an Alpha run did, in a state that satisfies the postcondition
pub record ReturnsWell (policy : PolicyView) (metered : Bool) (code : List Insn) (call : Call) (s : State) (y : X86) : Type 0 where
  pub returns : ReturnsAs metered code call s y
  pub post : Satisfies returns.state.rights returns.state.regs returns.state.memory policy.post

-- What a run of native code may come to: it goes on, it returned well, or it ran out of fuel. It isn't stuck.
abbrev pub IsGoodNativeEnd : PolicyView → Bool → List Insn → Call → State → X86Outcome × X86 → Type 0
IsGoodNativeEnd policy metered code call s (outcomes.OutOfSteps, y) = Unit {0}
IsGoodNativeEnd policy metered code call s (outcomes.Left, y) = ReturnsWell policy metered code call s y ⊎ RunsOut metered code call s y
IsGoodNativeEnd policy metered code call s (outcomes.Stuck, y) = ⊥

-- A call of the translation of accepted code is never stuck, whatever the number of steps; if it returned, the postcondition holds.
abbrev pub SafePolicyCalls : Type 0
SafePolicyCalls =
    (policy : PolicyView) (bytes text : List ℕ) (metered : Bool) (call : Call) (s : State) (x : X86) (n : ℕ) → IsPolicy policy
    → (a : IsAccepted policy bytes) → IsTranslation metered a.code text → IsPolicyCall policy call s x
    → IsGoodNativeEnd policy metered a.code call s (x86_run text n x)

-- With fuel it ends, within as many steps as the text has instructions, for each unit of fuel and twice more.
abbrev pub EndingPolicyCalls : Type 0
EndingPolicyCalls =
    (policy : PolicyView) (bytes text : List ℕ) (call : Call) (s : State) (x : X86) → IsPolicy policy → (a : IsAccepted policy bytes)
    → (t : IsTranslation true a.code text) → IsPolicyCall policy call s x
    → LeavesWithin text ((call.fuel + 2) * length (native_insns t.places t.lean true a.code)) x

-- Without fuel, if the container bounds the steps, it ends within ten steps for each of the bound, and a hundred.
abbrev pub BoundedPolicyCalls : Type 0
BoundedPolicyCalls =
    (policy : PolicyView) (bytes text : List ℕ) (bound : ℕ) (call : Call) (s : State) (x : X86) → IsPolicy policy
    → (a : IsAccepted policy bytes) → a.contents.bound ≡ Some bound → IsTranslation false a.code text → IsPolicyCall policy call s x
    → LeavesWithin text (10 * bound + 100) x
