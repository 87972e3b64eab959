-- The container that a program of classic BPF is compiled to.
use Rattle.std.specs.Prelude.{◌≡◌, ℕ, List, Result, Ok, Err}
use Rattle.term_table.specs.Steps.{◌>>=◌}
use Rattle.bpf_words.specs.declared.insn.Bpf.{Bpf}
use Rattle.bpf_words.specs.declared.fault.BpfFlaw.{BpfFlaw}
use Rattle.bpf_words.specs.Reading.{program_of}
use Rattle.bpf_compile.specs.Compilation.{compiled_container}
use Rattle.bpf_compile.specs.Compiled.{IsCompiled}
use Rattle.pcc_c.specs.declared.reason.Reason.{Reason}
use Rattle.pcc_c.specs.declared.reason.Reason.TheVariants as reason
use Rattle.pcc_c.specs.Proving.{container_proven}

-- what was read as a program
abbrev pub program_read : Result (List Bpf) BpfFlaw → Result (List Bpf) Reason
program_read (Ok program) = Ok program
program_read (Err flaw) = Err (reason.BadProgram flaw)

-- what `pcc_bpf` makes: the container that the program in the bytes is compiled to
unfoldable pub bpf_answer : List ℕ → Result (List ℕ) Reason
bpf_answer bytes = do
  program ← program_read (program_of bytes)
  container_proven (compiled_container program)

-- The first bytes are a program, and the second are its container: accepted under `filter`, with
-- code that gives the flags of the program's values.
pub record IsCompiledFrom (bytes out : List ℕ) : Type 0 where
  pub program : List Bpf
  pub reads : program_of bytes ≡ Ok program
  pub compiled : IsCompiled program out
