-- What is said of a text that is to spell a source.
use Rattle.std.specs.Prelude.{ℕ, Bool, true, false, List, ◌++◌, codes, decimal, length, is_some, Option, Result, Ok, Err}
use Rattle.word_ops.specs.declared.Profile.{Profile}
use Rattle.alpha_words.specs.declared.insn.Insn.{Insn}
use Rattle.proof_container.specs.Versions.{profile_of}
use Rattle.asm_text.specs.declared.fault.LineFlaw.{LineFlaw}
use Rattle.asm_text.specs.Names.{line_flaw_name}
use Rattle.asm_text.specs.Sources.{Source}
use Rattle.asm_text.specs.SourceParsing.{parsed_source}
use Rattle.pcc_asm.specs.declared.fault.AsmFlaw.{AsmFlaw}
use Rattle.pcc_asm.specs.Names.{asm_flaw_line, asm_flaw_name}
use Rattle.pcc_asm.specs.Assembling.{assembled_code}
use Rattle.pcc_lines.specs.Sources.{source_fault_line}
use Rattle.view_faults.specs.Marking.{Span, Limits, fault_lines, no_limits}
use Rattle.view_faults.specs.Lines.{numbered_line}
use Rattle.view_source_faults.specs.Spans.{flaw_span, asm_flaw_span, flaw_limits}

-- how many instructions, labels and invariants a source has
unfoldable pub source_line : Source → List ℕ
source_line s =
    codes "source: " ++ (decimal (length s.insns) ++ (codes " instructions, "
    ++ (decimal (length s.labels) ++ (codes " labels, "
    ++ (decimal (length s.invs) ++ codes " invariants\n")))))

-- a fault: its line's number and its kind, and the line itself, marked
abbrev pub source_fault_text : List ℕ → ℕ → List ℕ → (List ℕ → Option Span)
    → (List ℕ → Option Limits) → List ℕ
source_fault_text text number kind span limits =
    source_fault_line number kind ++ fault_lines span limits (numbered_line text number)

-- what is said of a source, by what its code is assembled to
abbrev pub report_of_code : List ℕ → Source → Result (List Insn) AsmFlaw → Bool × List ℕ
report_of_code text s (Ok insns) = (true, source_line s)
report_of_code text s (Err flaw) =
    let line = asm_flaw_line flaw in
    (false, source_fault_text text line (asm_flaw_name flaw) (asm_flaw_span flaw) no_limits)

-- what is said of a text, by what it is parsed as in the profile; the flag says whether invariants
-- may name the steps that are left
abbrev pub report_of_source : Profile → Bool → List ℕ → Result Source (ℕ × LineFlaw) → Bool × List ℕ
report_of_source profile left text (Ok s) = report_of_code text s (assembled_code profile s)
report_of_source profile left text (Err fault) = (
  false,
  source_fault_text text fault.0 (line_flaw_name fault.1) (flaw_span profile left fault.1)
      (flaw_limits profile fault.1),
)

-- whether the text spells a source that is assembled in the version, with the bound, for any
-- policy, and what is said of it
unfoldable pub source_report : ℕ → Option ℕ → List ℕ → Bool × List ℕ
source_report version bound text =
    report_of_source (profile_of version) (is_some bound) text
    (parsed_source (profile_of version) (is_some bound) text)
