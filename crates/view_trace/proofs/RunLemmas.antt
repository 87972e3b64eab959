-- The line of a step, and a run while its lines are printed.
use Rattle.std.proofs.Common.{◌≡◌, ℕ, suc, List, [], ◌++◌, Option, Some, slice_get, refl, sym, ap, subst, ◌∙◌, append_assoc, codes, decimal}
use Rattle.std.proofs.lemmas.List.{append-nil}
use Rattle.word_ops.specs.Registers.{read_reg}
use Rattle.alpha_words.specs.declared.insn.Insn.{Insn}
use Rattle.alpha_cfg.specs.Actions.{Action, action_of}
use Rattle.alpha_cfg.specs.Flow.{jump_of}
use Rattle.alpha_cfg.specs.Machine.{State, step_at, step_of, run_of, ends_with}
use Rattle.alpha_cfg.specs.declared.outcome.Step.{Step}
use Rattle.alpha_cfg.specs.declared.outcome.Step.TheVariants as steps
use Rattle.alpha_cfg.specs.declared.outcome.Outcome.{Outcome}
use Rattle.alpha_cfg.specs.declared.outcome.Outcome.TheVariants.{OutOfSteps}
use Rattle.file_port.specs.Sink.{SinkState, PutFails, with_piece}
use Rattle.file_port.proofs.PutLemmas.{part_fails, rest_fails, with_piece-with_piece, with_piece-nil}
use Rattle.asm_print.specs.Printing.{insn_text}
use Rattle.view_trace.specs.declared.accesses.Access.{Access}
use Rattle.view_trace.specs.Accesses.{action_access, access_text}
use Rattle.view_trace.specs.Changes.{change_text}
use Rattle.view_trace.specs.Traces.{trace_line_at, step_text, trace_text, where_moved}
use Rattle.view_trace.specs.Inside.Written.{register_written, word_change}
use Rattle.view_trace.specs.Inside.Ends.{PrintsRun}
use Rattle.view_trace.proofs.ChangeLemmas.{changed}

-- ---- the line of a step

-- the text of a register's change, by the registers before and after
abbrev change_of : ℕ → List ℕ → List ℕ → List ℕ
change_of r old new = word_change r (read_reg old r) (read_reg new r)

-- a line by what the code finds of the step
step_line : (code : List Insn) (s : State) (insn : Insn) (step : Step) (u : State) → slice_get code s.index ≡ Some insn
    → (step, u) ≡ step_of code s → step_text code s
    ≡ decimal s.index ++ codes " " ++ insn_text s.index insn ++ access_text (action_access s.regs (action_of insn)) step
    ++ change_of (register_written (action_of insn)) s.regs u.regs ++ codes "\n"
unfolding step_text
step_line code s insn step u at ended =
    let action : Action = action_of insn in
    let r : ℕ = register_written action in
    let front : List ℕ = decimal s.index ++ codes " " ++ insn_text s.index insn ++ access_text (action_access s.regs action) step in
    let made : step_of code s ≡ (step, u) = sym ended in
    let by_insn : step_of code s ≡ step_at (Some insn) s = ap (λ (o : Option Insn). step_at o s) at in
    let is : change_text 0 s.regs u.regs ≡ change_of r s.regs u.regs =
    subst (λ (x : Step × State). change_text 0 s.regs x.1.regs ≡ change_of r s.regs x.1.regs)
    (sym by_insn ∙ made) (changed action (jump_of s.index insn) s) in
    ap (λ (o : Option Insn). trace_line_at o s (step_of code s)) at ∙ ap (λ (x : Step × State). trace_line_at (Some insn) s x) made
    ∙ ap (λ x. front ++ x ++ codes "\n") is

regroup : (a b c d e : List ℕ) → (((a ++ b) ++ c) ++ d) ++ e ≡ a ++ (((b ++ c) ++ d) ++ e)
regroup a b c d e = simp append_assoc

-- a line as it is made, piece by piece
pub line_made : (code : List Insn) (s : State) (insn : Insn) (step : Step) (u : State) (index : ℕ) → index ≡ s.index
    → slice_get code index ≡ Some insn → (step, u) ≡ step_of code s
    → (old one two three four text : List ℕ) (reg before after : ℕ) (access : Access)
    → text ≡ insn_text index insn → access ≡ action_access s.regs (action_of insn)
    → reg ≡ register_written (action_of insn) → before ≡ read_reg s.regs reg → after ≡ read_reg u.regs reg
    → one ≡ old ++ (decimal index ++ codes " " ++ text) → two ≡ one ++ access_text access step
    → three ≡ two ++ word_change reg before after → four ≡ three ++ codes "\n" → four ≡ old ++ step_text code s
line_made code s insn step u index e_index at ended old one two three four text reg before after access e_text e_access
    e_reg e_before e_after e_one e_two e_three e_four =
    let here : slice_get code s.index ≡ Some insn = subst (λ i. slice_get code i ≡ Some insn) e_index at in
    let F : List ℕ = decimal s.index ++ codes " " ++ insn_text s.index insn in
    let A : List ℕ = access_text (action_access s.regs (action_of insn)) step in
    let C : List ℕ = change_of (register_written (action_of insn)) s.regs u.regs in
    let end : List ℕ = codes "\n" in
    let at_front : decimal index ++ codes " " ++ text ≡ F =
    ap (λ t. decimal index ++ codes " " ++ t) e_text ∙ ap (λ i. decimal i ++ codes " " ++ insn_text i insn) e_index in
    let at_access : access_text access step ≡ A = ap (λ (x : Access). access_text x step) e_access in
    let at_change : word_change reg before after ≡ C =
    ap (λ x. word_change reg x after) e_before ∙ ap (λ x. word_change reg (read_reg s.regs reg) x) e_after
    ∙ ap (λ k. change_of k s.regs u.regs) e_reg in
    let first : one ≡ old ++ F = e_one ∙ ap (λ x. old ++ x) at_front in
    let second : two ≡ (old ++ F) ++ A =
    e_two ∙ ap (λ x. x ++ access_text access step) first ∙ ap (λ x. (old ++ F) ++ x) at_access in
    let third : three ≡ ((old ++ F) ++ A) ++ C =
    e_three ∙ ap (λ x. x ++ word_change reg before after) second ∙ ap (λ x. ((old ++ F) ++ A) ++ x) at_change in
    e_four ∙ ap (λ x. x ++ end) third ∙ regroup old F A C end
    ∙ ap (λ x. old ++ x) (sym (step_line code s insn step u here ended))

-- ---- a run

module _ (code : List Insn) (budget : ℕ) (s : State) (old : SinkState) where
  -- the lines of the steps so far are printed, and so many steps are left
  pub record IsRunning (left : ℕ) (now : State) (out : SinkState) : Type 0 where
    pub text : List ℕ
    pub state : out ≡ with_piece text old
    pub parts : trace_text code budget s ≡ text ++ trace_text code left now
    pub run : run_of code left now ≡ run_of code budget s

  -- what follows a step, by what it answers
  step_parts : (left m : ℕ) (now u : State) (step : Step) (text : List ℕ) → left ≡ suc m → (step, u) ≡ step_of code now
      → trace_text code budget s ≡ text ++ trace_text code left now
      → trace_text code budget s ≡ text ++ (step_text code now ++ where_moved step (trace_text code m u))
  step_parts left m now u step text e_left ended parts =
      parts ∙ ap (λ n. text ++ trace_text code n now) e_left
      ∙ ap (λ (x : Step × State). text ++ (step_text code now ++ where_moved x.0 (trace_text code m x.1))) (sym ended)

  step_run : (left m : ℕ) (now u : State) (step : Step) → left ≡ suc m → (step, u) ≡ step_of code now
      → ends_with step u (run_of code m u) ≡ run_of code left now
  step_run left m now u step e_left ended =
      ap (λ (x : Step × State). ends_with x.0 x.1 (run_of code m x.1)) ended ∙ ap (λ n. run_of code n now) (sym e_left)

  pub begins : IsRunning budget s old
  begins = record { text = []; state = sym (with_piece-nil old); parts = refl; run = refl }

  pub moves : (left m : ℕ) (now u : State) (out out2 : SinkState) → IsRunning left now out → left ≡ suc m
      → (steps.Moved, u) ≡ step_of code now → out2 ≡ with_piece (step_text code now) out → IsRunning m u out2
  moves left m now u out out2 h e_left ended done =
      let line : List ℕ = step_text code now in
      record {
        text = h.text ++ line;
        state = done ∙ ap (with_piece line) h.state ∙ with_piece-with_piece h.text line old;
        parts =
            step_parts left m now u steps.Moved h.text e_left ended h.parts
            ∙ sym (append_assoc h.text line (trace_text code m u));
        run = step_run left m now u steps.Moved e_left ended ∙ h.run;
      }

  pub fails : (left m : ℕ) (now u : State) (step : Step) (out out2 : SinkState) → IsRunning left now out → left ≡ suc m
      → (step, u) ≡ step_of code now → PutFails (step_text code now) out out2
      → PutFails (trace_text code budget s) old out2
  fails left m now u step out out2 h e_left ended failed =
      let rest : List ℕ = where_moved step (trace_text code m u) in
      subst (λ x. PutFails x old out2) (sym (step_parts left m now u step h.text e_left ended h.parts))
      (rest_fails h.text h.state (part_fails rest failed))

  pub stops : (left m : ℕ) (now u : State) (step : Step) (outcome : Outcome) (out out2 : SinkState) → IsRunning left now out
      → left ≡ suc m → (step, u) ≡ step_of code now → out2 ≡ with_piece (step_text code now) out
      → where_moved step (trace_text code m u) ≡ [] → (outcome, u) ≡ ends_with step u (run_of code m u)
      → PrintsRun code budget s u old out2 (Some outcome)
  stops left m now u step outcome out out2 h e_left ended done last ends =
      let line : List ℕ = step_text code now in
      let whole : trace_text code budget s ≡ h.text ++ line =
      step_parts left m now u step h.text e_left ended h.parts ∙ ap (λ x. h.text ++ (line ++ x)) last
      ∙ ap (λ x. h.text ++ x) (append-nil line) in (
        ends ∙ step_run left m now u step e_left ended ∙ h.run,
        done ∙ ap (with_piece line) h.state ∙ with_piece-with_piece h.text line old ∙ ap (λ x. with_piece x old) (sym whole),
      )

  pub runs_out : (now : State) (out : SinkState) → IsRunning 0 now out → PrintsRun code budget s now old out (Some OutOfSteps)
  runs_out now out h =
      let whole : trace_text code budget s ≡ h.text = h.parts ∙ append-nil h.text in
      (h.run, h.state ∙ ap (λ x. with_piece x old) (sym whole))
