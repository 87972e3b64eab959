-- How the printing of a run ends.
use Rattle.std.specs.Prelude.{◌≡◌, ℕ, List, Option, Some, None}
use Rattle.alpha_words.specs.declared.insn.Insn.{Insn}
use Rattle.alpha_cfg.specs.Machine.{State, run_of}
use Rattle.alpha_cfg.specs.declared.outcome.Outcome.{Outcome}
use Rattle.file_port.specs.Sink.{SinkState, PutFails, with_piece}
use Rattle.view_trace.specs.Traces.{trace_text}

-- The lines of a run are printed and its outcome is answered, or a put failed, and none is.
abbrev pub PrintsRun : List Insn → ℕ → State → State → SinkState → SinkState → Option Outcome → Type 0
PrintsRun code budget s u old new None = PutFails (trace_text code budget s) old new
PrintsRun code budget s u old new (Some outcome) =
    ((outcome, u) ≡ run_of code budget s) × (new ≡ with_piece (trace_text code budget s) old)
