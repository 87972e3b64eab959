use Rattle.std.proofs.Common.{◌≡◌, ◌%◌, ◌^◌, ap, ◌∙◌}
use Rattle.alpha_cfg.specs.Machine.{run_of}
use Rattle.reference_machine.specs.Agents.{AgentView}
use Rattle.reference_machine.specs.Arena.{sum_of}
use Rattle.reference_machine.specs.Setups.{start_view}
use Rattle.reference_machine.specs.Starts.{start_state, agent_at_start}
use Rattle.packet_store.specs.declared.results.PacketResult.TheVariants.{Ran}
use Rattle.packet_store.specs.Results.{result_from}
use Rattle.packet_store.proofs.ResultLemmas.{result_from-some}
use Rattle.packet_store.proofs.testing.TestingRunnerPacketRunner.run_packet.Goals as goal

pub returns-in_default-clause-exact : goal.returns-in_default-clause-exact
unfolding result_from
returns-in_default-clause-exact c = ap (result_from c.args.self.now.code c.args.self.now.steps) c.in_default.ensures.exact

pub returns-clause-exact : goal.returns-clause-exact
returns-clause-exact c =
    let code = c.args.self.now.code in
    let steps = c.args.self.now.steps in
    let setup = start_view c.in-Some.begin in
    let old : AgentView = c.load.new.self in
    let new : AgentView = c.run-outcome.new.self in
    let begun : old ≡ agent_at_start 65536 setup = c.load.ensures in
    let ran : (c.run-outcome.result, new.state) ≡ run_of code steps (start_state 65536 setup) = c.run-outcome.ensures.run ∙ ap (λ (h : AgentView). run_of code steps h.state) begun in
    let at : new.region_at ≡ setup.at = c.run-outcome.ensures.region.0 ∙ ap (λ (h : AgentView). h.region_at) begun in
    let region : new.region ≡ setup.region = c.run-outcome.ensures.region.1 ∙ ap (λ (h : AgentView). h.region) begun in
    let sum : c.sum.result ≡ sum_of new.state.memory setup.at setup.region % 2 ^ 64 = c.sum.ensures ∙ ap (λ a. sum_of new.state.memory a new.region % 2 ^ 64) at ∙ ap (λ n. sum_of new.state.memory setup.at n % 2 ^ 64) region in
    ap (Ran c.run-outcome.result) sum
    ∙ result_from-some code steps setup c.run-outcome.result new.state ran
    ∙ ap (result_from code steps) c.in-Some.ensures.exact
