use Rattle.std.proofs.Common.{map, string_bytes}
use Rattle.pcc_stages.specs.Runs.{Runs}
use Rattle.pcc_stages.specs.Texts.{texts}
use Rattle.pcc_stages.proofs.DecisionLemmas.{runs_of_decision}
use Rattle.pcc_commands.specs.Tasks.{task_of}
use Rattle.pcc_commands.specs.Reports.{report_exit}
use Rattle.pcc_cli.specs.Means.{KeepsClauses}
use Rattle.pcc_cli.proofs.RunsLemmas.{log_tells}
use Rattle.pcc_cli.proofs.top_call.pcc.Goals as goal

pub returns : goal.returns
returns g c =
    let words = map string_bytes c.args.words.items in
    let log = g.F.Files.log c.args.files.now in
    let logged = g.F.Files.log c.decide-decision.new.files in
    let out = g.S.Sink.state c.args.out.now in
    let put = g.S.Sink.state c.print.new.out in
    let runs : Runs texts (task_of words).stage log logged (g.F.Files.state c.args.files.now)
    (g.F.Files.state c.decide-decision.new.files) out put c.print.result =
    rw (← c.as_slice.ensures.value)
    (runs_of_decision _ _ _ c.print.result report_exit _ _ _ _ c.decide-decision.result
    c.decide-decision.ensures c.print.ensures) in
    let all : KeepsClauses words log logged out put c.print.result =
    c.laws.ensures.keeps words _ _ _ _ _ _ c.print.result runs in
    record {
      happens = log_tells _ _ _ _ _ _ _ c.print.result runs;
      checks = all.checks;
      checks_from = all.checks_from;
      runs_code = all.runs_code;
      refuses = all.refuses;
      refers = all.refers;
      assembles = all.assembles;
      proves = all.proves;
      proves_exactly = all.proves_exactly;
      demonstrates = all.demonstrates;
      demonstrates_exactly = all.demonstrates_exactly;
      upgrades = all.upgrades;
      hosts = all.hosts;
      compiles = all.compiles;
      compiles_exactly = all.compiles_exactly;
      no_command = all.no_command;
      sound = c.accepted_laws.ensures.sound;
      safe = c.accepted_laws.ensures.safe;
      apart = c.accepted_laws.ensures.apart;
      returns = c.accepted_laws.ensures.returns;
    }
