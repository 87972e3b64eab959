-- What the stages of `pcc_view` come to that read no file.
use Rattle.std.proofs.Common.{◌≡◌, ℕ, List, Option, get_or, Result, Ok, Err, refl, arith}
use Rattle.proof_container.specs.declared.fault.Flaw.{Flaw}
use Rattle.pcc_lines.specs.Refusals.{refusal_line}
use Rattle.pcc_stages.proofs.PureStages.{BeginsBefore, EndsAs, gave, refused_by, before, source_fault_begins}
use Rattle.view_source_faults.specs.SourceCode.{LinesAndCode, WrongLine, source_code}
use Rattle.view_cli.specs.Commands.List.{beside_found, beside_in}
use Rattle.view_looks.specs.Looks.{no_container_text}
use Rattle.view_looks.specs.declared.looks.Look.{Look}

pub no_container_begins : (offset : ℕ) (flaw : Flaw) (look : Look)
    → BeginsBefore (no_container_text offset flaw look)
unfolding refusal_line
no_container_begins offset flaw look =
    before (no_container_text offset flaw look) 114 refl (omega arith)

beside_end : (r : Result LinesAndCode WrongLine) → EndsAs (beside_found r)
beside_end (Ok source) = gave _ refl
beside_end (Err wrong) = refused_by _ (source_fault_begins wrong.0 wrong.1) refl

pub beside_in_end : (version : ℕ) (bound : Option ℕ) (text : List ℕ)
    → EndsAs (beside_in version bound text)
unfolding beside_in
beside_in_end version bound text = beside_end (source_code version bound text)
