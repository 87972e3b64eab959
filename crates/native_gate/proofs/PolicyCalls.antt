-- Calls of the translation of accepted code.
use Rattle.std.proofs.Common.{◌≡◌, ℕ, ◌+◌, ◌*◌, ◌≤◌, Bool, true, List, length, refl, sym, subst, inl, inr, arith}
use Rattle.alpha_words.specs.declared.insn.Insn.{Insn}
use Rattle.alpha_cfg.specs.declared.outcome.Outcome.{Outcome}
use Rattle.alpha_cfg.specs.declared.outcome.Outcome.TheVariants.{OutOfSteps, Returned, Blocked}
use Rattle.alpha_cfg.specs.Flow.{IsCode}
use Rattle.alpha_cfg.specs.Machine.{State, run_of}
use Rattle.formula_tree.specs.Formulas.{Form}
use Rattle.policy_set.specs.Satisfies.{Satisfies}
use Rattle.policy_set.specs.Views.{PolicyView}
use Rattle.vcgen.specs.Safety.{IsGoodEnd, IsReturn, IsSafe}
use Rattle.pcc_gate.specs.Safe.{AcceptedSafe, AcceptedReturns}
use Rattle.x86_machine.specs.declared.outcome.X86Outcome.{X86Outcome}
use Rattle.x86_machine.specs.declared.outcome.X86Outcome.TheVariants as outcomes
use Rattle.x86_machine.specs.Machine.{X86, x86_run}
use Rattle.native_steps.specs.Places.{Places}
use Rattle.native_steps.specs.Agreement.{Call}
use Rattle.native_code.specs.Lives.{Lean, IsLean}
use Rattle.native_code.specs.Layout.{native_insns}
use Rattle.native_code.specs.Calls.{ArePlacesOf}
use Rattle.native_code.specs.Ends.{IsAllowedRun, IsSafeCall, IsSafeEnd, LeavesWithin, SafeCalls, EndingCalls, ReturningCalls}
use Rattle.native_gate.specs.Calls.{IsPolicyCall, IsGoodNativeEnd, SafePolicyCalls, EndingPolicyCalls, BoundedPolicyCalls}

-- ---- Alpha runs

allowed-run : (post : Form) (r : Outcome × State) → IsGoodEnd post r → IsAllowedRun r.0
allowed-run post (OutOfSteps, t) h = tt
allowed-run post (Returned word, t) h = tt
allowed-run post (Blocked index kind addr, t) h = absurd h

post-holds : (post : Form) (r : Outcome × State) (word : ℕ) (t : State) → IsGoodEnd post r → r ≡ (Returned word, t)
    → Satisfies t.rights t.regs t.memory post
post-holds post r word t h e = subst (IsGoodEnd post) e h

-- a run that returned, with its word and its state
record HasReturned (r : Outcome × State) : Type 0 where
  word : ℕ
  state : State
  is : r ≡ (Returned word, state)

has-returned : (r : Outcome × State) → IsReturn r.0 → HasReturned r
has-returned (OutOfSteps, t) h = absurd h
has-returned (Returned w, t) h = record { word = w; state = t; is = refl }
has-returned (Blocked index kind addr, t) h = absurd h

-- ---- a call

safe-call : (policy : PolicyView) (code : List Insn) (p : Places) (lean : Lean) (call : Call) (s : State) (x : X86) → IsSafe code policy.pre policy.post
    → IsCode code → IsLean lean code → ArePlacesOf p lean code → IsPolicyCall policy call s x → IsSafeCall p lean code call s x
safe-call policy code p lean call s x safe is lives lawful may = record {
  is_code = is;
  lives = lives;
  places = lawful;
  state = may.state;
  lent = may.lent;
  begins = may.begins;
  allowed = λ n. allowed-run policy.post (run_of code n s) (safe s may.state may.begins.start may.pre n);
}

good-end : (policy : PolicyView) (metered : Bool) (code : List Insn) (call : Call) (s : State) (x : X86) (q : X86Outcome × X86)
    → IsSafe code policy.pre policy.post → IsPolicyCall policy call s x → IsSafeEnd metered code call s q → IsGoodNativeEnd policy metered code call s q
good-end policy metered code call s x (outcomes.OutOfSteps, y) safe may h = tt
good-end policy metered code call s x (outcomes.Left, y) safe may (inl r) =
    inl (record {
      returns = r;
      post = post-holds policy.post (run_of code r.steps s) r.word r.state (safe s may.state may.begins.start may.pre r.steps) r.run;
    })
good-end policy metered code call s x (outcomes.Left, y) safe may (inr out) = inr out
good-end policy metered code call s x (outcomes.Stuck, y) safe may h = absurd h

-- ---- of accepted code

pub safe-policy-calls : SafeCalls → AcceptedSafe → SafePolicyCalls
safe-policy-calls calls accepted policy bytes text metered call s x n is a t may =
    let safe = accepted policy bytes a.contents a.code a.marks is a.accepts in
    let ready = safe-call policy a.code t.places t.lean call s x safe a.accepts.passes.has.code t.lives t.lawful may in
    subst (λ b. IsGoodNativeEnd policy metered a.code call s (x86_run b n x)) (sym t.text)
    (good-end policy metered a.code call s x _ safe may (calls t.places t.lean metered a.code call s x ready n))

pub ending-policy-calls : EndingCalls → AcceptedSafe → EndingPolicyCalls
ending-policy-calls calls accepted policy bytes text call s x is a t may =
    let safe = accepted policy bytes a.contents a.code a.marks is a.accepts in
    let ready = safe-call policy a.code t.places t.lean call s x safe a.accepts.passes.has.code t.lives t.lawful may in
    subst (λ b. LeavesWithin b ((call.fuel + 2) * length (native_insns t.places t.lean true a.code)) x) (sym t.text)
    (calls t.places t.lean a.code call s x ready).leaves

pub bounded-policy-calls : ReturningCalls → AcceptedSafe → AcceptedReturns → BoundedPolicyCalls
bounded-policy-calls calls accepted returns policy bytes text bound call s x is a most t may =
    let safe = accepted policy bytes a.contents a.code a.marks is a.accepts in
    let ready = safe-call policy a.code t.places t.lean call s x safe a.accepts.passes.has.code t.lives t.lawful may in
    let enough : bound ≤ bound = omega arith in
    let ended = has-returned (run_of a.code bound s)
    (returns policy bytes a.contents a.code a.marks is a.accepts bound most s may.state may.begins.start may.pre bound enough) in
    subst (λ b. LeavesWithin b (10 * bound + 100) x) (sym t.text)
    (calls t.places t.lean a.code call s ended.state x bound ended.word ready ended.is)
