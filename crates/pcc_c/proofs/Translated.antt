-- Native code: what it is of accepted bytes, what calls of it do, and how it is told.
use Rattle.std.proofs.Common.{◌≡◌, ◌<◌, ◌^◌, ℕ, List, length, Option, Some, None, Vec, Global, Result, Ok, Err, IfOk, refl, subst, inl, inr}
use Rattle.alpha_cfg.specs.Machine.{State}
use Rattle.policy_set.specs.Views.{PolicyView, IsPolicy}
use Rattle.pcc_gate.specs.Accepted.{IsAccepted}
use Rattle.pcc_gate.specs.Answers.{IsAcceptedBy}
use Rattle.pcc_gate.specs.Views.{AcceptedView}
use Rattle.x86_machine.specs.Machine.{X86}
use Rattle.native_steps.specs.Agreement.{Call}
use Rattle.native_code.specs.Layout.{native_insns}
use Rattle.native_code.specs.Ends.{LeavesWithin}
use Rattle.native_translator.specs.Translation.{IsTranslation}
use Rattle.native_gate.specs.Translated.{is_metered, IsNativeOf}
use Rattle.native_gate.specs.Calls.{IsPolicyCall, SafePolicyCalls, EndingPolicyCalls, BoundedPolicyCalls}
use Rattle.pcc_c.specs.declared.fault.Fault.{Fault}
use Rattle.pcc_c.specs.declared.fault.Fault.TheVariants as fault
use Rattle.pcc_c.specs.Policies.{policy_given}
use Rattle.pcc_c.specs.Checking.{check_answer}
use Rattle.pcc_c.specs.Translating.{IsNativeUnder, IsSafeNative, AnswersNative, most_steps}
use Rattle.pcc_c.specs.Inside.Answers.{IsDue, TellsMade}

-- a translation of what the gate accepted
pub native-of : (policy : PolicyView) (bytes text : List ℕ) (a : AcceptedView)
    → IsAcceptedBy policy bytes a → IsTranslation (is_metered a.bound) a.code text
    → length text < 2 ^ 30 → IsNativeOf policy bytes text
native-of policy bytes text a holds t short = record {
  accepted = record { contents = holds.contents; code = a.code; marks = a.marks; accepts = holds.accepts };
  translated = subst (λ (b : Option ℕ). IsTranslation (is_metered b) a.code text) holds.bound_is t;
  short = short;
}

-- ---- calls

-- a call ends in time, with a bound or without
ends-by : (policy : PolicyView) (bytes text : List ℕ) (a : IsAccepted policy bytes)
    (bound : Option ℕ) → a.contents.bound ≡ bound
    → (t : IsTranslation (is_metered bound) a.code text) → EndingPolicyCalls → BoundedPolicyCalls
    → IsPolicy policy → (call : Call) (s : State) (x : X86) → IsPolicyCall policy call s x
    → LeavesWithin text (most_steps bound (length (native_insns t.places t.lean (is_metered bound) a.code)) call.fuel) x
ends-by policy bytes text a None e t ending bounded is call s x may =
    ending policy bytes text call s x is a t may
ends-by policy bytes text a (Some b) e t ending bounded is call s x may =
    bounded policy bytes text b call s x is a e t may

-- what follows of a result that there is
pub ok-more : {A E : Type 0} {P Q : A → Type 0} (r : Result A E) → ((x : A) → P x → Q x)
    → IfOk r P → IfOk r Q
ok-more (Ok x) f h = f x h
ok-more (Err e) f h = h

-- native code under a policy that is given is safe
pub safe-native : (given bytes text : List ℕ) (policy : PolicyView) → policy_given given ≡ Ok policy
    → IsNativeOf policy bytes text → IsPolicy policy
    → SafePolicyCalls → EndingPolicyCalls → BoundedPolicyCalls → IsSafeNative given bytes text
safe-native given bytes text policy gives native is safe ending bounded =
    let a : IsAccepted policy bytes = native.accepted in
    record {
      under = record { policy = policy; gives = gives; native = native };
      safe = λ call s x steps may.
          safe policy bytes text (is_metered a.contents.bound) call s x steps is a native.translated may;
      ends = ends-by policy bytes text a a.contents.bound refl native.translated ending bounded is;
    }

-- ---- what is told

-- what was made is told as the answer
pub native-told : (given bytes old new : List ℕ) (count status : ℕ)
    (made : Result (Vec ℕ Global) Fault)
    → IsDue (Unit {0}) (λ _. tt) (check_answer given bytes) made
    → IfOk made (λ v. IsNativeUnder given bytes v.items)
    → TellsMade made old new count status → AnswersNative given bytes old new count status
native-told given bytes old new count status (Ok v) due native told =
    inr (record { answer = Ok v.items; due = (due, native); stored = told })
native-told given bytes old new count status (Err (fault.At why)) due native (inl left) =
    inl (record { ran_out = inl left.ran_out; none = left.none; unchanged = left.unchanged })
native-told given bytes old new count status (Err (fault.At why)) due native (inr told) =
    inr (record { answer = Err why; due = due; stored = told })
native-told given bytes old new count status (Err fault.Memory) due native left =
    inl (record { ran_out = inl left.ran_out; none = left.none; unchanged = left.unchanged })
native-told given bytes old new count status (Err fault.Results) due native left =
    inl (record { ran_out = inr left.ran_out; none = left.none; unchanged = left.unchanged })
