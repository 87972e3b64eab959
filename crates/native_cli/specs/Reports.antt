-- How a report of pcc_native ends a run.
use Rattle.pcc_lines.specs.Sources.{written_line}
use Rattle.pcc_stages.specs.Exits.{Exit}
use Rattle.pcc_stages.specs.Runs.{done_exit}
use Rattle.pcc_stages.specs.Requests.{usage_exit}
use Rattle.native_cli.specs.Texts.{native_texts, native_help_text, native_version_text}
use Rattle.native_cli.specs.declared.report.Report.{Report}
use Rattle.native_cli.specs.declared.report.Report.TheVariants as report

-- the exit of a report
abbrev pub native_exit : Report → Exit
native_exit report.Usage = usage_exit native_texts
native_exit report.Help = done_exit native_help_text
native_exit report.Version = done_exit native_version_text
native_exit (report.Written count) = done_exit (written_line count)
