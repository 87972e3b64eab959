use Rattle.std.proofs.Common.{◌≡◌, ℕ, suc, ◌+◌, ◌-◌, refl, sym, ap, subst, ◌∙◌, arith}
use Rattle.alpha_cfg.specs.Machine.{step_of}
use Rattle.alpha_cfg.specs.declared.outcome.Step.{Step}
use Rattle.alpha_cfg.specs.declared.outcome.Step.TheVariants as steps
use Rattle.alpha_cfg.specs.declared.outcome.Outcome.TheVariants as outcomes
use Rattle.file_port.specs.Sink.{Puts}
use Rattle.file_port.specs.declared.port.Put.{Put}
use Rattle.view_trace.specs.Traces.{step_text}
use Rattle.view_trace.proofs.RunLemmas.{fails, stops, moves}
use Rattle.view_trace.proofs.steps.print_steps.Goals as goal

pub returns-in-Failed-clause-prints : goal.returns-in-Failed-clause-prints
returns-in-Failed-clause-prints g c =
    let left : ℕ = c.args.budget - c.loop.counter in
    let m : ℕ = c.args.budget - (c.loop.counter + 1) in
    let one_less : left ≡ suc m = omega arith in
    let text = step_text c.args.code.now c.loop.agent.state in
    let out = g.S.Sink.state c.loop.out in
    let after = g.S.Sink.state c.print_step-step.new.out in
    fails c.args.code.now c.args.budget c.args.agent.now.state (g.S.Sink.state c.args.out.now) left m c.loop.agent.state
    c.print_step-step.new.agent.state c.print_step-step.result.0 out after c.loop.invariant.running one_less
    c.print_step-step.ensures.step
    (subst (λ (r : Put). Puts text out after r) c.in-Failed.is c.print_step-step.ensures.puts)

pub returns-in-Returned-clause-prints : goal.returns-in-Returned-clause-prints
returns-in-Returned-clause-prints g c =
    let left : ℕ = c.args.budget - c.loop.counter in
    let m : ℕ = c.args.budget - (c.loop.counter + 1) in
    let one_less : left ≡ suc m = omega arith in
    let text = step_text c.args.code.now c.loop.agent.state in
    let out = g.S.Sink.state c.loop.out in
    let after = g.S.Sink.state c.print_step-step.new.out in
    let u = c.print_step-step.new.agent.state in
    let ended : (steps.Returned, u) ≡ step_of c.args.code.now c.loop.agent.state =
    ap (λ (x : Step). (x, u)) (sym c.in-Returned.is) ∙ c.print_step-step.ensures.step in
    stops c.args.code.now c.args.budget c.args.agent.now.state (g.S.Sink.state c.args.out.now) left m c.loop.agent.state u
    steps.Returned (outcomes.Returned c.result.result) out after c.loop.invariant.running one_less ended
    (subst (λ (r : Put). Puts text out after r) c.in-Done.is c.print_step-step.ensures.puts)
    refl (ap (λ w. (outcomes.Returned w, u)) c.result.ensures)

pub returns-in-Blocked-clause-prints : goal.returns-in-Blocked-clause-prints
returns-in-Blocked-clause-prints g c =
    let left : ℕ = c.args.budget - c.loop.counter in
    let m : ℕ = c.args.budget - (c.loop.counter + 1) in
    let one_less : left ≡ suc m = omega arith in
    let text = step_text c.args.code.now c.loop.agent.state in
    let out = g.S.Sink.state c.loop.out in
    let after = g.S.Sink.state c.print_step-step.new.out in
    let u = c.print_step-step.new.agent.state in
    let blocked : Step = steps.Blocked c.in-Blocked.index c.in-Blocked.kind c.in-Blocked.addr in
    let ended : (blocked, u) ≡ step_of c.args.code.now c.loop.agent.state =
    ap (λ (x : Step). (x, u)) (sym c.in-Blocked.is) ∙ c.print_step-step.ensures.step in
    stops c.args.code.now c.args.budget c.args.agent.now.state (g.S.Sink.state c.args.out.now) left m c.loop.agent.state u
    blocked (outcomes.Blocked c.in-Blocked.index c.in-Blocked.kind c.in-Blocked.addr) out after c.loop.invariant.running
    one_less ended (subst (λ (r : Put). Puts text out after r) c.in-Done.is c.print_step-step.ensures.puts)
    refl refl

pub loop-preserved : goal.loop-preserved
loop-preserved g c =
    let left : ℕ = c.args.budget - c.loop.counter in
    let m : ℕ = c.args.budget - (c.loop.counter + 1) in
    let one_less : left ≡ suc m = omega arith in
    let text = step_text c.args.code.now c.loop.agent.state in
    let out = g.S.Sink.state c.loop.out in
    let after = g.S.Sink.state c.print_step-step.new.out in
    let u = c.print_step-step.new.agent.state in
    let ended : (steps.Moved, u) ≡ step_of c.args.code.now c.loop.agent.state =
    ap (λ (x : Step). (x, u)) (sym c.in-Moved.is) ∙ c.print_step-step.ensures.step in
    record {
      running = moves c.args.code.now c.args.budget c.args.agent.now.state (g.S.Sink.state c.args.out.now) left m
          c.loop.agent.state u out after c.loop.invariant.running one_less ended
          (subst (λ (r : Put). Puts text out after r) c.in-Done.is c.print_step-step.ensures.puts);
      within = c.print_step-step.ensures.within;
      region_at = c.print_step-step.ensures.region.0 ∙ c.loop.invariant.region_at;
      region = c.print_step-step.ensures.region.1 ∙ c.loop.invariant.region;
    }
