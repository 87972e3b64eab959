use Rattle.std.proofs.Common.{ap, ◌+◌, ◌-◌, sym, ◌∙◌, subst, arith}
use Rattle.alpha_cfg.specs.Machine.{State}
use Rattle.alpha_cfg.specs.declared.outcome.Outcome.TheVariants as outcomes
use Rattle.host_steps.specs.Stepping.{arena_state, EndsUnblocked}
use Rattle.host_steps.proofs.Runs.{run-moved, run-returned, run-unblocked}
use Rattle.host_steps.proofs.stepping.run_steps.Goals as goal

pub step-requires-clause-unblocked : goal.step-requires-clause-unblocked
step-requires-clause-unblocked c =
    let now : State = arena_state c.args.base c.loop.at c.loop.slots c.loop.words in
    let n = c.args.budget in
    let k = c.loop.counter in
    run-unblocked c.args.code.now (n - k) (n - (k + 1)) now (omega arith) (subst (λ p. EndsUnblocked p.0) (sym c.loop.invariant.run) c.requires.unblocked)

pub loop-preserved : goal.loop-preserved
loop-preserved c =
    let now : State = arena_state c.args.base c.loop.at c.loop.slots c.loop.words in
    let new : State = arena_state c.args.base c.step.new.index c.step.new.slots c.step.new.words in
    let n = c.args.budget in
    let k = c.loop.counter in
    record {
      run = run-moved c.args.code.now (n - k) (n - (k + 1)) now new (omega arith) c.in-Moved.ensures.step ∙ c.loop.invariant.run;
      within = c.in-Moved.ensures.within;
    }

pub returns-in-Returned-clause-run : goal.returns-in-Returned-clause-run
returns-in-Returned-clause-run c =
    let now : State = arena_state c.args.base c.loop.at c.loop.slots c.loop.words in
    let new : State = arena_state c.args.base c.step.new.index c.step.new.slots c.step.new.words in
    let n = c.args.budget in
    let k = c.loop.counter in
    ap (λ w. (outcomes.Returned w, new)) c.result.ensures
    ∙ run-returned c.args.code.now (n - k) (n - (k + 1)) now new (omega arith) c.in-Returned.ensures.step
    ∙ c.loop.invariant.run
