use Rattle.std.proofs.Common.{◌≡◌, true, ℕ, List, length, refl, sym, ◌∙◌, ap, subst, arith}
use Rattle.std.specs.Vec.{with_items}
use Rattle.std.proofs.lemmas.List.{with_items_is}
use Rattle.alpha_words.specs.declared.insn.Insn.{Insn}
use Rattle.alpha_cfg.specs.Machine.{run_of}
use Rattle.host_steps.specs.Parts.{ReturnedInBound}
use Rattle.safe_host.specs.Hosts.{HostView}
use Rattle.safe_host.specs.Runs.{IsRun, outcome_of}
use Rattle.safe_host.specs.Inside.Fields.{host_view, HasRightsBefore}
use Rattle.host_steps.specs.Stepping.{arena_state, EndsUnblocked}
use Rattle.safe_host.proofs.Running.{runs-unblocked, is-run, still-fits, still-zero, run-returns}
use Rattle.host_steps.specs.declared.operations.Operation.{Operation}
use Rattle.host_steps.specs.Operations.{AreOperations}
use Rattle.safe_host.proofs.host.Host.run.Goals as goal

pub run_steps-ended-requires-clause-unblocked : goal.run_steps-ended-requires-clause-unblocked
run_steps-ended-requires-clause-unblocked c =
    let h : HostView = host_view c.self.inside in
    let law = c.laws.ensures in
    let live : h.live ≡ true = subst (λ (v : HostView). v.live ≡ true) (sym c.self.view_is) c.requires in
    let code : List Insn = c.code-code.result.now in
    subst (λ (words : List ℕ). EndsUnblocked (run_of code c.args.budget (arena_state 65536 h.index h.regs words)).0) (sym c.deref_mut.ensures.value)
    (runs-unblocked h law.forms law.annotates law.valid c.args.budget code (c.code-code.ensures.value ∙ c.cut.ensures.code) c.self.inside.end (c.self.invariant.rights live))

pub run_steps-ended-requires-clause-operations : goal.run_steps-ended-requires-clause-operations
run_steps-ended-requires-clause-operations c =
    let code : List Insn = c.code-code.result.now in
    let same : code ≡ c.self.inside.accepted.code = c.code-code.ensures.value ∙ c.cut.ensures.code in
    let code_was : List Insn = c.self.inside.accepted.code in
    let are : AreOperations code_was c.deref.result.now =
    subst (λ (l : List Operation). AreOperations code_was l) (sym c.deref.ensures.value) c.self.invariant.operations in
    subst (λ (l : List Insn). AreOperations l c.deref.result.now) (sym same) are

pub invariant_of-self : goal.invariant_of-self
invariant_of-self c =
    let h : HostView = host_view c.self.inside in
    let law = c.laws.ensures in
    let ran = c.run_steps-ended in
    let live : h.live ≡ true = subst (λ (v : HostView). v.live ≡ true) (sym c.self.view_is) c.requires in
    let code : List Insn = c.code-code.result.now in
    let same : code ≡ h.accepted.code = c.code-code.ensures.value ∙ c.cut.ensures.code in
    let items : List ℕ = (with_items c.self.inside.words ran.new.words).items in
    let words : items ≡ ran.new.words = with_items_is c.self.inside.words ran.new.words (omega (arith, ran.auto.words, c.self.inside.words.ok.0)) in
    let new : HostView = record h { index = ran.new.index; regs = ran.new.slots; words = items; live = c.goes_on-self-inside.result } in
    let run : (outcome_of ran.result, arena_state 65536 new.index new.regs items) ≡ run_of code c.args.budget (arena_state 65536 h.index h.regs h.words) =
    ap (λ (l : List ℕ). (outcome_of ran.result, arena_state 65536 new.index new.regs l)) words
    ∙ ran.ensures.run
    ∙ ap (λ (l : List ℕ). run_of code c.args.budget (arena_state 65536 h.index h.regs l)) c.deref_mut.ensures.value in
    let fit : HasRightsBefore c.self.inside.end h = c.self.invariant.rights live in
    record {
      operations = c.self.invariant.operations;
      words_len = ap (λ (l : List ℕ). length l) words ∙ omega (arith, ran.auto.words, c.self.invariant.words_len);
      region_within = c.self.invariant.region_within;
      within = λ _. rw same at ran.ensures.within;
      end_within = c.self.invariant.end_within;
      past_end = still-zero h law.forms law.annotates law.valid c.args.budget code same ran.result new refl run c.self.inside.end fit c.self.invariant.past_end;
      rights = λ on. still-fits h law.forms law.annotates law.valid c.args.budget code same ran.result new refl run c.self.inside.end fit (sym c.goes_on-self-inside.ensures ∙ on);
    }

pub returns-clause-under : goal.returns-clause-under
returns-clause-under c =
    let h : HostView = host_view c.self.inside in
    let law = c.laws.ensures in
    let ran = c.run_steps-ended in
    let code : List Insn = c.code-code.result.now in
    let items : List ℕ = (with_items c.self.inside.words ran.new.words).items in
    let words : items ≡ ran.new.words = with_items_is c.self.inside.words ran.new.words (omega (arith, ran.auto.words, c.self.inside.words.ok.0)) in
    let new : HostView = record h { index = ran.new.index; regs = ran.new.slots; words = items; live = c.goes_on-self-inside.result } in
    let run : (outcome_of ran.result, arena_state 65536 new.index new.regs items) ≡ run_of code c.args.budget (arena_state 65536 h.index h.regs h.words) =
    ap (λ (l : List ℕ). (outcome_of ran.result, arena_state 65536 new.index new.regs l)) words
    ∙ ran.ensures.run
    ∙ ap (λ (l : List ℕ). run_of code c.args.budget (arena_state 65536 h.index h.regs l)) c.deref_mut.ensures.value in
    subst (λ (v : HostView). IsRun v c.args.budget ran.result new) c.self.view_is
    (is-run h law.forms law.annotates law.valid c.args.budget code (c.code-code.ensures.value ∙ c.cut.ensures.code) ran.result new refl run)

pub returns-clause-returns : goal.returns-clause-returns
returns-clause-returns c =
    let h : HostView = host_view c.self.inside in
    let law = c.laws.ensures in
    let ran = c.run_steps-ended in
    let code : List Insn = c.code-code.result.now in
    let items : List ℕ = (with_items c.self.inside.words ran.new.words).items in
    let words : items ≡ ran.new.words =
    with_items_is c.self.inside.words ran.new.words
    (omega (arith, ran.auto.words, c.self.inside.words.ok.0)) in
    let new : HostView = record h {
      index = ran.new.index;
      regs = ran.new.slots;
      words = items;
      live = c.goes_on-self-inside.result;
    } in
    let run : (outcome_of ran.result, arena_state 65536 new.index new.regs items) ≡ run_of code
    c.args.budget (arena_state 65536 h.index h.regs h.words) =
    ap (λ (l : List ℕ). (outcome_of ran.result, arena_state 65536 new.index new.regs l)) words
    ∙ ran.ensures.run
    ∙ ap (λ (l : List ℕ). run_of code c.args.budget (arena_state 65536 h.index h.regs l))
    c.deref_mut.ensures.value in
    let live : h.live ≡ true =
    subst (λ (v : HostView). v.live ≡ true) (sym c.self.view_is) c.requires in
    let fit : HasRightsBefore c.self.inside.end h = c.self.invariant.rights live in
    subst (λ (v : HostView). ReturnedInBound v.accepted.bound c.args.budget ran.result)
    c.self.view_is
    (run-returns h c.args.budget ran.result new (fit.0, fit.1, fit.2)
    (is-run h law.forms law.annotates law.valid c.args.budget code
    (c.code-code.ensures.value ∙ c.cut.ensures.code) ran.result new refl run))
