use Rattle.std.proofs.Common.{◌≡◌, ℕ, List, length, refl, sym, ◌∙◌, ap, subst, arith}
use Rattle.std.specs.Vec.{with_items}
use Rattle.std.proofs.lemmas.List.{with_items_is}
use Rattle.alpha_words.specs.declared.insn.Insn.{Insn}
use Rattle.alpha_cfg.specs.Machine.{run_of}
use Rattle.host_steps.specs.declared.operations.Operation.{Operation}
use Rattle.host_steps.specs.Operations.{AreOperations}
use Rattle.host_steps.specs.RunEnds.{outcome_of}
use Rattle.host_steps.specs.Stepping.{arena_state, EndsUnblocked}
use Rattle.agent_host.specs.declared.phase.Phase.TheVariants as phases
use Rattle.agent_host.specs.Agents.{HostedView}
use Rattle.agent_host.specs.Turns.{RunsTo}
use Rattle.agent_host.specs.Inside.Fields.{hosted_view}
use Rattle.agent_host.proofs.Running.{runs-unblocked, ran-under, run-returns, still-fits}
use Rattle.agent_host.proofs.agent.Hosted.run.Goals as goal

pub run_steps-ended-requires-clause-unblocked : goal.run_steps-ended-requires-clause-unblocked
run_steps-ended-requires-clause-unblocked c =
    let m : HostedView = hosted_view c.self.inside in
    let law = c.laws.ensures in
    let ready : m.phase ≡ phases.Ready =
    subst (λ (v : HostedView). v.phase ≡ phases.Ready) (sym c.self.view_is) c.requires in
    let code : List Insn = c.code-code.result.now in
    subst (λ (words : List ℕ). EndsUnblocked
    (run_of code c.args.budget (arena_state m.base m.index m.regs words)).0)
    (sym c.deref_mut.ensures.value)
    (runs-unblocked m law.forms law.annotates law.valid c.args.budget code
    (c.code-code.ensures.value ∙ c.cut.ensures.code) (c.self.invariant.rights ready))

pub run_steps-ended-requires-clause-operations : goal.run_steps-ended-requires-clause-operations
run_steps-ended-requires-clause-operations c =
    let code : List Insn = c.code-code.result.now in
    let same : code ≡ c.self.inside.accepted.code = c.code-code.ensures.value
    ∙ c.cut.ensures.code in
    let code_was : List Insn = c.self.inside.accepted.code in
    let are : AreOperations code_was c.deref.result.now =
    subst (λ (l : List Operation). AreOperations code_was l) (sym c.deref.ensures.value)
    c.self.invariant.operations in
    subst (λ (l : List Insn). AreOperations l c.deref.result.now) (sym same) are

pub invariant_of-self : goal.invariant_of-self
invariant_of-self c =
    let m : HostedView = hosted_view c.self.inside in
    let law = c.laws.ensures in
    let ran = c.run_steps-ended in
    let ready : m.phase ≡ phases.Ready =
    subst (λ (v : HostedView). v.phase ≡ phases.Ready) (sym c.self.view_is) c.requires in
    let code : List Insn = c.code-code.result.now in
    let same : code ≡ m.accepted.code = c.code-code.ensures.value ∙ c.cut.ensures.code in
    let items : List ℕ = (with_items c.self.inside.words ran.new.words).items in
    let words : items ≡ ran.new.words =
    with_items_is c.self.inside.words ran.new.words
    (omega (arith, ran.auto.words, c.self.inside.words.ok.0)) in
    let new : HostedView =
    record m {
      index = ran.new.index;
      regs = ran.new.slots;
      words = items;
      phase =
          c.after-self-inside.result;
    } in
    let run : (outcome_of ran.result, arena_state m.base new.index new.regs items) ≡ run_of code
    c.args.budget (arena_state m.base m.index m.regs m.words) =
    ap (λ (l : List ℕ). (outcome_of ran.result, arena_state m.base new.index new.regs l)) words
    ∙ ran.ensures.run
    ∙ ap (λ (l : List ℕ). run_of code c.args.budget (arena_state m.base m.index m.regs l))
    c.deref_mut.ensures.value in
    record {
      operations = c.self.invariant.operations;
      words_len = ap (λ (l : List ℕ). length l) words
          ∙ omega (arith, ran.auto.words, c.self.invariant.words_len);
      region_within = c.self.invariant.region_within;
      aligned = c.self.invariant.aligned;
      low = c.self.invariant.low;
      within = λ _. rw same at ran.ensures.within;
      rights = λ on. still-fits m law.forms law.annotates law.valid c.args.budget code same
          ran.result new refl run refl (c.self.invariant.rights ready)
          (sym c.after-self-inside.ensures ∙ on);
    }

pub returns : goal.returns
returns c =
    let m : HostedView = hosted_view c.self.inside in
    let law = c.laws.ensures in
    let ran = c.run_steps-ended in
    let ready : m.phase ≡ phases.Ready =
    subst (λ (v : HostedView). v.phase ≡ phases.Ready) (sym c.self.view_is) c.requires in
    let code : List Insn = c.code-code.result.now in
    let same : code ≡ m.accepted.code = c.code-code.ensures.value ∙ c.cut.ensures.code in
    let items : List ℕ = (with_items c.self.inside.words ran.new.words).items in
    let words : items ≡ ran.new.words =
    with_items_is c.self.inside.words ran.new.words
    (omega (arith, ran.auto.words, c.self.inside.words.ok.0)) in
    let new : HostedView =
    record m {
      index = ran.new.index;
      regs = ran.new.slots;
      words = items;
      phase =
          c.after-self-inside.result;
    } in
    let run : (outcome_of ran.result, arena_state m.base new.index new.regs items) ≡ run_of code
    c.args.budget (arena_state m.base m.index m.regs m.words) =
    ap (λ (l : List ℕ). (outcome_of ran.result, arena_state m.base new.index new.regs l)) words
    ∙ ran.ensures.run
    ∙ ap (λ (l : List ℕ). run_of code c.args.budget (arena_state m.base m.index m.regs l))
    c.deref_mut.ensures.value in
    let runs : RunsTo c.args.budget ran.result m new = record {
      ready = ready;
      under = ran-under m law.forms law.annotates law.valid c.args.budget code same ran.result new
          refl run;
      returns = run-returns m law.forms law.annotates law.valid c.args.budget code same ran.result
          new refl run (c.self.invariant.rights ready);
      kept = ap (λ p. record new { phase = p }) c.after-self-inside.ensures;
    } in
    subst (λ (v : HostedView). RunsTo c.args.budget ran.result v new) c.self.view_is runs
