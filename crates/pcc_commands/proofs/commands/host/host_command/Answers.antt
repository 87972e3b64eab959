use Rattle.std.proofs.Common.{List, [], Ok, Err, ap, sym, arith}
use Rattle.std.proofs.lemmas.List.{length-map}
use Rattle.agent_script.specs.Scripts.{ScriptView, load_view, script_view}
use Rattle.pcc_stages.specs.Stage.{Stage, ◌>>=◌}
use Rattle.pcc_stages.specs.Runs.{Effect}
use Rattle.pcc_stages.specs.declared.stops.Stop.TheVariants.{Memory}
use Rattle.pcc_stages.specs.Stages.Common.{printing}
use Rattle.pcc_stages.proofs.StageLemmas.{lifted, stops_first, gives_then}
use Rattle.pcc_commands.specs.declared.report.Report.{Report}
use Rattle.pcc_commands.specs.declared.report.Report.TheVariants.{Turns}
use Rattle.pcc_commands.specs.Stages.Hosting.{Member, script_of, agents_from}
use Rattle.pcc_commands.specs.Commands.Host.{turn_lines, host_command}
use Rattle.pcc_commands.specs.Reports.{effect_of}
use Rattle.pcc_commands.specs.Inside.Turning.{members_view}
use Rattle.pcc_commands.proofs.DecisionLemmas.{decides_report}
use Rattle.pcc_commands.proofs.commands.host.host_command.Goals as goal

-- the lines of the turns of agents
abbrev behind_agents : ScriptView → List Member → Stage Effect
behind_agents script agents = printing (turn_lines agents 0 [] script.turns)

-- the agents of the loads, and then the turns
abbrev behind_script : ScriptView → Stage Effect
behind_script script = agents_from 0 script.loads >>= behind_agents script

pub returns-in_err-said : goal.returns-in_err-said
unfolding host_command
returns-in_err-said g c =
    decides_report (script_of c.args.script.now >>= behind_script) _ _ _ _ c.from_residual.result
    (stops_first behind_script script_view effect_of (script_of c.args.script.now) _ _ _ _ c.in_err-said.field-0.0 c.from_residual.result c.in_err-said.ensures.exact c.from_residual.ensures.1)

pub returns-in_err-members : goal.returns-in_err-members
unfolding host_command
returns-in_err-members g c =
    let said = c.in_ok-said.said in
    decides_report (script_of c.args.script.now >>= behind_script) _ _ _ _ c.from_residual-in_err-members.result
    (gives_then behind_script script_view effect_of (script_of c.args.script.now) _ _ _ _ _ _ said c.from_residual-in_err-members.result c.in_ok-said.ensures.exact
    (stops_first (behind_agents (script_view said)) members_view effect_of (agents_from 0 (script_view said).loads) _ _ _ _ c.in_err-members.field-0.0 c.from_residual-in_err-members.result
    c.in_err-members.ensures.exact c.from_residual-in_err-members.ensures.1))

pub returns-in-Ok : goal.returns-in-Ok
unfolding host_command
returns-in-Ok g c =
    let said = c.in_ok-said.said in
    let members = c.in_ok-members.members in
    let report : Report = Turns c.in-Ok.job in
    decides_report (script_of c.args.script.now >>= behind_script) _ _ _ _ (Ok report)
    (gives_then behind_script script_view effect_of (script_of c.args.script.now) _ _ _ _ _ _ said (Ok report) c.in_ok-said.ensures.exact
    (gives_then (behind_agents (script_view said)) members_view effect_of (agents_from 0 (script_view said).loads) _ _ _ _ _ _ members (Ok report) c.in_ok-members.ensures.exact
    (lifted effect_of (behind_agents (script_view said) (members_view members)) _ _ (Ok report) (ap printing (sym c.in-Ok.ensures)))))

pub returns-in-Err : goal.returns-in-Err
unfolding host_command
returns-in-Err g c =
    let said = c.in_ok-said.said in
    let members = c.in_ok-members.members in
    decides_report (script_of c.args.script.now >>= behind_script) _ _ _ _ (Err Memory)
    (gives_then behind_script script_view effect_of (script_of c.args.script.now) _ _ _ _ _ _ said (Err Memory) c.in_ok-said.ensures.exact
    (gives_then (behind_agents (script_view said)) members_view effect_of (agents_from 0 (script_view said).loads) _ _ _ _ _ _ members (Err Memory) c.in_ok-members.ensures.exact
    (lifted effect_of (behind_agents (script_view said) (members_view members)) _ _ (Err Memory) tt)))

pub members_of-requires : goal.members_of-requires
members_of-requires g c =
    let count = length-map c.in_ok-said.said.loads.items load_view in
    omega (arith, count, c.in_ok-said.ensures.script.few)

pub job_of-requires : goal.job_of-requires
job_of-requires g c =
    let count = length-map c.in_ok-said.said.loads.items load_view in
    let script = c.in_ok-said.ensures.script in
    let all = c.in_ok-members.ensures.all in
    record {
      some = omega (arith, count, script.some, all);
      few = omega (arith, count, script.few, all);
      ready = c.in_ok-members.ensures.ready;
      turns = λ k d less. let turn = script.agents k d less in omega (arith, count, all, turn);
    }
