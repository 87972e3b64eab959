use Rattle.std.proofs.Common.{map, string_bytes}
use Rattle.view_cli.specs.Invocations.{view_command_of}
use Rattle.pcc_stages.specs.Runs.{Runs}
use Rattle.pcc_stages.proofs.DecisionLemmas.{decides_ending, runs_of_decision, runs-usage}
use Rattle.view_cli.specs.Texts.{view_usage_line, view_texts}
use Rattle.view_cli.specs.Tasks.{exit_if_command, view_task_of}
use Rattle.view_cli.specs.Reports.{exit_of_report}
use Rattle.view_cli.proofs.Shown.{ViewLaws, shows}
use Rattle.view_cli.proofs.top_call.pcc_view.Goals as goal

pub returns : goal.returns
unfolding view_usage_line
returns g c =
    let words = map string_bytes c.args.words.items in
    let stage = (view_task_of words).stage in
    let runs : Runs view_texts stage (g.F.Files.log c.args.files.now)
    (g.F.Files.log c.decide-decision.new.files) (g.F.Files.state c.args.files.now)
    (g.F.Files.state c.decide-decision.new.files)
    (g.S.Sink.state c.args.out.now) (g.S.Sink.state c.print.new.out) c.print.result =
    rw (← c.as_slice.ensures.value)
    (runs-usage view_usage_line _ _ _ _ _ _ _ c.print.result
    (runs_of_decision _ _ _ c.print.result exit_of_report _ _ _ _ c.decide-decision.result
    (decides_ending exit_of_report (exit_if_command (view_command_of (map string_bytes c.as_slice.result.now))) _ _ _ _
    c.decide-decision.result c.decide-decision.ensures) c.print.ensures)) in
    let laws : ViewLaws = record {
      contents = c.laws.ensures.decided;
      listed = c.laws-2.ensures.source;
      same = c.laws-2.ensures.same;
      policies = c.laws-3.ensures.spelled;
      forms = c.laws-4.ensures.parsed;
      form_faults = c.laws-4.ensures.fault;
      sources = c.laws-5.ensures.sources;
      source_faults = c.laws-5.ensures.faults;
      marked = c.laws-6.ensures.marked;
      first = c.laws-7.ensures.first;
    } in
    record {
      runs = runs;
      shows = shows laws (view_command_of words) _ _ _ _ _ _ c.print.result runs;
    }
