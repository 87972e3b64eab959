-- Calls of native code of a program's code on a packet.
use Rattle.std.proofs.Common.{◌≡◌, ℕ, ◌+◌, ◌<◌, ◌≤◌, true, false, List, refl, sym, ap, ◌∙◌, subst, arith, inl, inr}
use Rattle.std.specs.Prelude.{◌↔◌}
use Rattle.std.proofs.lemmas.Bool.{cases_Bool}
use Rattle.word_ops.specs.Memory.{read}
use Rattle.alpha_words.specs.declared.insn.Insn.{Insn}
use Rattle.alpha_cfg.specs.declared.outcome.Outcome.{Outcome}
use Rattle.alpha_cfg.specs.declared.outcome.Outcome.TheVariants.{OutOfSteps, Returned, Blocked}
use Rattle.alpha_cfg.specs.Cuts.{StepsTo}
use Rattle.alpha_cfg.specs.Flow.{IsCode}
use Rattle.alpha_cfg.specs.Machine.{State, run_of}
use Rattle.alpha_turns.specs.Turns.{may_go_on}
use Rattle.alpha_turns.proofs.Running.{ended}
use Rattle.bpf_words.specs.declared.insn.Bpf.{Bpf}
use Rattle.bpf_words.specs.Programs.{IsProgram}
use Rattle.bpf_words.specs.Values.{bpf_value}
use Rattle.bpf_code.specs.Blocks.{nonzero_flag, bpf_code}
use Rattle.bpf_code.specs.Simulation.{Simulates}
use Rattle.x86_machine.specs.declared.outcome.X86Outcome.TheVariants as outcomes
use Rattle.x86_machine.specs.Machine.{X86}
use Rattle.native_steps.specs.Places.{Places}
use Rattle.native_steps.specs.Agreement.{Call}
use Rattle.native_code.specs.Heads.{IsLoopHead, is_loop_head}
use Rattle.native_code.specs.Lives.{Lean}
use Rattle.native_code.specs.Layout.{native_text}
use Rattle.native_code.specs.Calls.{IsCallEnd}
use Rattle.native_code.specs.Ends.{IsAllowedRun, IsSafeCall, ReturnsAs, IsSafeEnd, LeavesWithin, SafeCalls, ReturningCalls}
use Rattle.native_bpf.specs.Returns.{AnswersWith, ProgramsAnswer}
use Rattle.native_bpf.proofs.Keeping.{run-same, code-keeps}
use Rattle.native_bpf.proofs.Unmetered.{same-text}

-- ---- Alpha runs, of which those of 1,000 steps or more return the word

allowed-if : (o : Outcome) (word : ℕ) → (may_go_on o ≡ false → o ≡ Returned word) → IsAllowedRun o
allowed-if OutOfSteps word h = tt
allowed-if (Returned w) word h = tt
allowed-if (Blocked index kind addr) word h = let wrong : Blocked index kind addr ≡ Returned word = h refl in absurd cc

same-word : (w word : ℕ) → Returned w ≡ Returned word → w ≡ word
same-word w word e = cc

module _ (code : List Insn) (s : State) (word : ℕ) (runs : (n : ℕ) → 1000 ≤ n → (run_of code n s).0 ≡ Returned word) where
  settles : (n : ℕ) → may_go_on (run_of code n s).0 ≡ false → (run_of code n s).0 ≡ Returned word
  settles n over = ap (λ (r : Outcome × State). r.0) (sym (ended code n 1000 s over)) ∙ runs (n + 1000) (omega arith)

  never-blocked : (n : ℕ) → IsAllowedRun (run_of code n s).0
  never-blocked n = allowed-if (run_of code n s).0 word (settles n)

  word-is : (n w : ℕ) (t : State) → run_of code n s ≡ (Returned w, t) → w ≡ word
  word-is n w t e =
      same-word w word (ap (λ (r : Outcome × State). r.0) (sym e) ∙ settles n (ap (λ (r : Outcome × State). may_go_on r.0) e))

  -- ---- a call, if fuel isn't counted

  module _ (p : Places) (lean : Lean) (call : Call) (x : X86) (safe : IsSafeCall p lean code call s x)
      (same : (n : ℕ) → (run_of code n s).1.memory ≡ s.memory)
    where
      returned : (y : X86) → ReturnsAs false code call s y → IsCallEnd call word 0 s y
      returned y r = record {
        word_is = r.end.word_is ∙ word-is r.steps r.word r.state r.run;
        why_is = r.end.why_is;
        kept = r.end.kept;
        memory = λ a outside.
            r.end.memory a outside
            ∙ ap (λ m. read m a) (ap (λ (q : Outcome × State). q.1.memory) (sym r.run) ∙ same r.steps);
      }

      left : (y : X86) → IsSafeEnd false code call s (outcomes.Left, y) → IsCallEnd call word 0 s y
      left y (inl r) = returned y r
      left y (inr out) = let wrong : false ≡ true = out.counted in absurd cc

      pub answers : SafeCalls → ReturningCalls → AnswersWith (native_text p lean false code) word 10100 call s x
      answers calls returning =
          let end : State = (run_of code 1000 s).1 in
          let run : run_of code 1000 s ≡ (Returned word, end) = ap (λ (o : Outcome). (o, end)) (runs 1000 (omega arith)) in
          let l : LeavesWithin (native_text p lean false code) 10100 x = returning p lean code call s end x 1000 word safe run in
          record {
            leaves = l;
            returns = left l.end (subst (IsSafeEnd false code call s) l.left (calls p lean false code call s x safe l.count));
          }

-- ---- the code of a program

-- steps lead forward
abbrev pub LeadForward : Type 0
LeadForward = (program : List Bpf) (i j : ℕ) → IsProgram program → StepsTo (bpf_code program) i j → i < j

-- the test for loop heads is exact
abbrev pub AreHeads : Type 0
AreHeads = (code : List Insn) (head : ℕ) → (is_loop_head code head ≡ true) ↔ IsLoopHead code head

no-head : LeadForward → AreHeads → (program : List Bpf) → IsProgram program → (i : ℕ) → is_loop_head (bpf_code program) i ≡ false
no-head forward heads program is i = elim (cases_Bool (is_loop_head (bpf_code program) i)) [
  | inl e ↦
      let h : IsLoopHead (bpf_code program) i = (heads (bpf_code program) i).0 e in
      let on : h.from < i = forward program h.from i is (h.insn, h.here, inl h.leads) in
      let back = h.back in
      absurd (omega (arith, on, back))
  | inr e ↦ e
]

pub programs-answer : SafeCalls → ReturningCalls → AreHeads → LeadForward → Simulates
    → ((program : List Bpf) → IsProgram program → IsCode (bpf_code program)) → ProgramsAnswer
programs-answer calls returning heads forward simulates coded program packet text metered call s x is bytes t may =
    let code : List Insn = bpf_code program in
    let word : ℕ = nonzero_flag (bpf_value program packet) in
    let few = is.few in
    let runs : (n : ℕ) → 1000 ≤ n → (run_of code n s).0 ≡ Returned word =
    λ n enough. simulates program packet n s is bytes may.starts (omega (arith, enough, few)) in
    let safe : IsSafeCall t.places t.lean code call s x = record {
      is_code = coded program is;
      lives = t.lives;
      places = t.lawful;
      state = may.state;
      lent = may.lent;
      begins = may.begins;
      allowed = never-blocked code s word runs;
    } in
    subst (λ (b : List ℕ). AnswersWith b word 10100 call s x)
    (sym (t.text ∙ same-text t.places t.lean code (no-head forward heads program is) metered))
    (answers code s word runs t.places t.lean call x safe (λ n. run-same code n s (code-keeps program)) calls returning)
