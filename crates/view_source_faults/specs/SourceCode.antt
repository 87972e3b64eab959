-- The code that a text spells as a source, or the first line that is wrong.
use Rattle.std.specs.Prelude.{ℕ, List, map, is_some, Option, Result, Ok, Err}
use Rattle.word_ops.specs.declared.Profile.{Profile}
use Rattle.alpha_words.specs.declared.insn.Insn.{Insn}
use Rattle.asm_text.specs.declared.fault.LineFlaw.{LineFlaw}
use Rattle.asm_text.specs.Names.{line_flaw_name}
use Rattle.asm_text.specs.Sources.{Source}
use Rattle.asm_text.specs.SourceParsing.{parsed_source}
use Rattle.pcc_asm.specs.declared.fault.AsmFlaw.{AsmFlaw}
use Rattle.pcc_asm.specs.Assembling.{assembled_code}
use Rattle.pcc_asm.specs.Names.{asm_flaw_line, asm_flaw_name}
use Rattle.pcc_asm.specs.Words.{code_bytes}
use Rattle.proof_container.specs.Versions.{profile_of}

-- the lines of a source's instructions, and the bytes of its code
abbrev pub LinesAndCode : Type 0
LinesAndCode = List ℕ × List ℕ

-- the number of the line that is wrong, and the name of what is wrong with it
abbrev pub WrongLine : Type 0
WrongLine = ℕ × List ℕ

-- a source with its code, if that is made
abbrev pub lines_and_code : Source → Result (List Insn) AsmFlaw → Result LinesAndCode WrongLine
lines_and_code s (Ok insns) = Ok (map (λ insn. insn.0) s.insns, code_bytes insns)
lines_and_code s (Err flaw) = Err (asm_flaw_line flaw, asm_flaw_name flaw)

-- the code of what a text is parsed as
abbrev pub code_of_parsed : Profile → Result Source (ℕ × LineFlaw) → Result LinesAndCode WrongLine
code_of_parsed p (Ok s) = lines_and_code s (assembled_code p s)
code_of_parsed p (Err fault) = Err (fault.0, line_flaw_name fault.1)

-- the code that a text spells as a source, for a container of the version and with the bound
unfoldable pub source_code : ℕ → Option ℕ → List ℕ → Result LinesAndCode WrongLine
source_code version bound text =
    let p = profile_of version in code_of_parsed p (parsed_source p (is_some bound) text)
