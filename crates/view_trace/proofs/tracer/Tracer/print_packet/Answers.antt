use Rattle.std.proofs.Common.{◌≡◌, ℕ, ◌%◌, ◌^◌, List, Option, Some, ap, subst, ◌∙◌}
use Rattle.alpha_cfg.specs.Machine.{run_of}
use Rattle.policy_set.specs.declared.kind.PolicyKind.{PolicyKind}
use Rattle.reference_machine.specs.Agents.{AgentView}
use Rattle.reference_machine.specs.Arena.{sum_of}
use Rattle.reference_machine.specs.Setups.{start_view}
use Rattle.reference_machine.specs.Starts.{start_state, agent_at_start}
use Rattle.packet_store.specs.declared.results.PacketResult.{PacketResult}
use Rattle.packet_store.specs.declared.results.PacketResult.TheVariants.{Short, Ran}
use Rattle.packet_store.specs.Results.{result_from}
use Rattle.packet_store.proofs.ResultLemmas.{result_from-some}
use Rattle.file_port.specs.Sink.{PutFails, Puts, with_piece}
use Rattle.file_port.proofs.PutLemmas.{part_fails, puts_then}
use Rattle.pcc_lines.specs.Results.{result_line}
use Rattle.view_trace.specs.Traces.{trace_text}
use Rattle.view_trace.proofs.PacketLemmas.{short_text, run_text}
use Rattle.view_trace.proofs.tracer.Tracer.print_packet.Goals as goal

pub returns-in_default-clause-exact : goal.returns-in_default-clause-exact
returns-in_default-clause-exact g c =
    let self = c.args.self.now in
    subst (λ x. Puts x (g.S.Sink.state c.args.out.now) (g.S.Sink.state c.print_result.new.out) c.print_result.result)
    (ap (λ (kind : Option PolicyKind). result_line kind c.args.number Short) c.kind-kind.ensures.exact
    ∙ short_text self.policy self.code self.steps c.args.number c.args.packet.now c.in_default.ensures.exact)
    c.print_result.ensures

pub returns-in-None-clause-exact : goal.returns-in-None-clause-exact
returns-in-None-clause-exact g c =
    let self = c.args.self.now in
    let setup = start_view c.in-Some.begin in
    let old = g.S.Sink.state c.args.out.now in
    let out = g.S.Sink.state c.print_steps.new.out in
    let failed : PutFails (trace_text self.code self.steps (start_state 65536 setup)) old out =
    subst (λ (h : AgentView). PutFails (trace_text self.code self.steps h.state) old out) c.load.ensures
    c.in-None.ensures.prints in
    subst (λ x. PutFails x old out)
    (run_text self.policy self.code self.steps c.args.number c.args.packet.now setup c.in-Some.ensures.exact)
    (part_fails (result_line self.policy.kind c.args.number (result_from self.code self.steps (Some setup))) failed)

pub returns-in-Some-print_steps-clause-exact : goal.returns-in-Some-print_steps-clause-exact
returns-in-Some-print_steps-clause-exact g c =
    let self = c.args.self.now in
    let code = self.code in
    let steps = self.steps in
    let setup = start_view c.in-Some.begin in
    let begun : c.load.new.self ≡ agent_at_start 65536 setup = c.load.ensures in
    let new : AgentView = c.print_steps.new.agent in
    let outcome = c.in-Some-print_steps.outcome in
    let prints = c.in-Some-print_steps.ensures.prints in
    let ran : (outcome, new.state) ≡ run_of code steps (start_state 65536 setup) =
    prints.0 ∙ ap (λ (h : AgentView). run_of code steps h.state) begun in
    let at : new.region_at ≡ setup.at =
    c.in-Some-print_steps.ensures.region.0 ∙ ap (λ (h : AgentView). h.region_at) begun in
    let region : new.region ≡ setup.region =
    c.in-Some-print_steps.ensures.region.1 ∙ ap (λ (h : AgentView). h.region) begun in
    let sum : c.sum.result ≡ sum_of new.state.memory setup.at setup.region % 2 ^ 64 =
    c.sum.ensures ∙ ap (λ a. sum_of new.state.memory a new.region % 2 ^ 64) at
    ∙ ap (λ n. sum_of new.state.memory setup.at n % 2 ^ 64) region in
    let end : Ran outcome c.sum.result ≡ result_from code steps (Some setup) =
    ap (Ran outcome) sum ∙ result_from-some code steps setup outcome new.state ran in
    let trace : List ℕ = trace_text code steps (start_state 65536 setup) in
    let line : List ℕ = result_line self.policy.kind c.args.number (result_from code steps (Some setup)) in
    let old = g.S.Sink.state c.args.out.now in
    let out = g.S.Sink.state c.print_steps.new.out in
    let last = g.S.Sink.state c.print_result-in-Some-print_steps.new.out in
    let put = c.print_result-in-Some-print_steps.result in
    let traced : out ≡ with_piece trace old =
    prints.1 ∙ ap (λ (h : AgentView). with_piece (trace_text code steps h.state) old) begun in
    let line_is : result_line c.kind-kind.result c.args.number (Ran outcome c.sum.result) ≡ line =
    ap (λ (kind : Option PolicyKind). result_line kind c.args.number (Ran outcome c.sum.result)) c.kind-kind.ensures.exact
    ∙ ap (λ (r : PacketResult). result_line self.policy.kind c.args.number r) end in
    subst (λ x. Puts x old last put)
    (run_text self.policy code steps c.args.number c.args.packet.now setup c.in-Some.ensures.exact)
    (puts_then trace line old out last put traced
    (subst (λ x. Puts x out last put) line_is c.print_result-in-Some-print_steps.ensures))
