-- What a command prints that is done, once the files were read and written.
use Rattle.std.specs.Prelude.{ℕ, List, [], None}
use Rattle.packet_store.specs.Runners.{testing_results}
use Rattle.safe_host.specs.Runners.{host_results}
use Rattle.pcc_lines.specs.Demo.{demo_lines}
use Rattle.pcc_lines.specs.Fixed.{accepted_line}
use Rattle.pcc_lines.specs.Results.{result_lines}
use Rattle.pcc_lines.specs.Sources.{written_line}
use Rattle.pcc_stages.specs.Exits.{Exit}
use Rattle.pcc_stages.specs.Runs.{Effect, done_exit}
use Rattle.pcc_commands.specs.Commands.Host.{turn_lines}
use Rattle.pcc_commands.specs.Turns.{members_with}
use Rattle.pcc_commands.specs.declared.turns.TurnJob.{TurnJob}
use Rattle.pcc_commands.specs.declared.report.Report.{Report}
use Rattle.pcc_commands.specs.declared.report.Report.TheVariants as report

-- the lines of the turns
abbrev pub job_lines : TurnJob → List ℕ
job_lines job = turn_lines (members_with job.host job.packets.items) 0 [] job.turns.items

-- the lines of a report
abbrev pub report_text : Report → List ℕ
report_text report.Accepted = accepted_line
report_text (report.Written count) = written_line count
report_text (report.Results job) = result_lines job.kind (testing_results job.runner) 0 job.packets
report_text (report.Hosted job) = result_lines job.kind (host_results job.runner) 0 job.packets
report_text (report.Turns job) = job_lines job
report_text (report.Demo summary) = demo_lines summary

-- what a command does that ends with a report, and writes nothing
abbrev pub effect_of : Report → Effect
effect_of report = record { text = report_text report; change = None }

-- the exit of a report
abbrev pub report_exit : Report → Exit
report_exit report = done_exit (report_text report)
