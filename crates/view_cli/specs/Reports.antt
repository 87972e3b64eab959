-- How a report ends a run.
use Rattle.view_trace.specs.Tracers.{traced_text}
use Rattle.pcc_stages.specs.Exits.{Exit}
use Rattle.pcc_stages.specs.Requests.{usage_exit}
use Rattle.pcc_stages.specs.Runs.{done_exit}
use Rattle.pcc_stages.specs.Stages.Common.{refused}
use Rattle.view_looks.specs.Looks.{no_container_text}
use Rattle.view_cli.specs.Texts.{help_text, version_text, formula_too_long_line, absent_packet_line, no_start_line, view_texts}
use Rattle.view_cli.specs.declared.report.Report.{Report}
use Rattle.view_cli.specs.declared.report.Report.TheVariants as report

-- the exit of a report
abbrev pub exit_of_report : Report → Exit
exit_of_report report.Usage = usage_exit view_texts
exit_of_report report.Help = done_exit help_text
exit_of_report report.Version = done_exit version_text
exit_of_report (report.Text text) = done_exit text.items
exit_of_report (report.Fault text) = refused text.items
exit_of_report (report.NoContainer offset flaw look) = refused (no_container_text offset flaw look)
exit_of_report report.FormulaTooLong = refused formula_too_long_line
exit_of_report (report.NoPacket k) = refused (absent_packet_line k)
exit_of_report report.NoStart = refused no_start_line
exit_of_report (report.Traced job) = done_exit (traced_text job.tracer job.number job.packet.items)
