-- Stages that compile a program of classic BPF.
use Rattle.std.specs.Prelude.{ℕ, List, Result, Ok, Err}
use Rattle.bpf_words.specs.declared.insn.Bpf.{Bpf}
use Rattle.bpf_words.specs.declared.fault.BpfFlaw.{BpfFlaw}
use Rattle.bpf_words.specs.Reading.{program_of}
use Rattle.bpf_compile.specs.Compilation.{compiled_container}
use Rattle.pcc_lines.specs.Bpf.{bpf_flaw_line}
use Rattle.pcc_lines.specs.Fixed.{bpf_too_long_line}
use Rattle.pcc_stages.specs.Stage.{Stage, stops, gives, reads, ◌>>=◌}
use Rattle.pcc_stages.specs.Stages.Common.{refused}
use Rattle.pcc_commands.specs.Stages.Proving.{container_proved}
use Rattle.pcc_commands.specs.declared.stages.TheConstants.{MAX_PROGRAM_FILE}

-- what was read as a program
abbrev pub program_found : Result (List Bpf) BpfFlaw → Stage (List Bpf)
program_found (Ok program) = gives program
program_found (Err flaw) = stops (refused (bpf_flaw_line flaw))

-- the program that the bytes are
unfoldable pub program_in : List ℕ → Stage (List Bpf)
program_in bytes = program_found (program_of bytes)

-- the container, as bytes, that the program is compiled to; of a program there is one
unfoldable pub compiled_as : List Bpf → Stage (List ℕ)
compiled_as program = container_proved (compiled_container program)

-- the container, as bytes, that the program which the bytes are is compiled to
unfoldable pub compiled_in : List ℕ → Stage (List ℕ)
compiled_in bytes = do
  program ← program_in bytes
  compiled_as program

-- the bytes of the program's file of the name
abbrev pub program_bytes_of : List ℕ → Stage (List ℕ)
program_bytes_of name = reads name MAX_PROGRAM_FILE (refused bpf_too_long_line) gives

-- the container, as bytes, that the program in the file of the name is compiled to
unfoldable pub compiled_of : List ℕ → Stage (List ℕ)
compiled_of name = do
  bytes ← program_bytes_of name
  compiled_in bytes
