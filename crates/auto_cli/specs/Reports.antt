-- How a report of pcc_auto ends a run.
use Rattle.pcc_stages.specs.Exits.{Exit}
use Rattle.pcc_stages.specs.Runs.{done_exit}
use Rattle.pcc_stages.specs.Requests.{usage_exit}
use Rattle.pcc_stages.specs.Stages.Common.{refused}
use Rattle.auto_cli.specs.Texts.{auto_texts, auto_help_text, auto_version_text, flags_line, found_line}
use Rattle.auto_cli.specs.declared.report.Report.{Report}
use Rattle.auto_cli.specs.declared.report.Report.TheVariants as report

-- the exit of a report
abbrev pub auto_exit : Report → Exit
auto_exit report.Usage = usage_exit auto_texts
auto_exit report.Help = done_exit auto_help_text
auto_exit report.Version = done_exit auto_version_text
auto_exit report.Flags = refused flags_line
auto_exit (report.Found count invariants) = done_exit (found_line count invariants)
auto_exit (report.Left text) = refused text.items
