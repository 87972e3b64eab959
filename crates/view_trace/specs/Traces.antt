-- A run as text: a line for each step, and the result line of the packet behind them.
use Rattle.std.specs.Prelude.{ℕ, zero, suc, List, [], ◌++◌, slice_get, Option, Some, None, codes, decimal}
use Rattle.alpha_words.specs.declared.insn.Insn.{Insn}
use Rattle.alpha_cfg.specs.Actions.{action_of}
use Rattle.alpha_cfg.specs.Machine.{State, step_of}
use Rattle.alpha_cfg.specs.declared.outcome.Step.{Step}
use Rattle.alpha_cfg.specs.declared.outcome.Step.TheVariants.{Moved}
use Rattle.asm_print.specs.Printing.{insn_text}
use Rattle.policy_set.specs.Views.{PolicyView}
use Rattle.reference_machine.specs.declared.layout.TheConstants.{ARENA}
use Rattle.reference_machine.specs.Starts.{StartView, start_state}
use Rattle.packet_store.specs.PolicyStarts.{start_of}
use Rattle.packet_store.specs.Results.{packet_result}
use Rattle.pcc_lines.specs.Results.{result_line}
use Rattle.view_trace.specs.Accesses.{action_access, access_text}
use Rattle.view_trace.specs.Changes.{change_text}

-- The line of a step by its instruction, the state before it, and what it answers and leaves: the index, the instruction,
-- what it accesses, and the register that changes.
abbrev pub trace_line : Insn → State → Step × State → List ℕ
trace_line insn s end =
    decimal s.index ++ codes " " ++ insn_text s.index insn
    ++ access_text (action_access s.regs (action_of insn)) end.0
    ++ change_text 0 s.regs end.1.regs ++ codes "\n"

-- outside the code no line is printed
abbrev pub trace_line_at : Option Insn → State → Step × State → List ℕ
trace_line_at None s end = []
trace_line_at (Some insn) s end = trace_line insn s end

-- the line of the step of the code from a state
unfoldable pub step_text : List Insn → State → List ℕ
step_text code s = trace_line_at (slice_get code s.index) s (step_of code s)

-- the text behind a step's line: what follows, where the machine moved
abbrev pub where_moved : Step → List ℕ → List ℕ
where_moved Moved text = text
where_moved step text = []

-- the lines of a run of at most so many steps, the last of which may be a return or blocked
abbrev pub trace_text : List Insn → ℕ → State → List ℕ
trace_text code zero s = []
trace_text code (suc n) s =
    let step = step_of code s in step_text code s ++ where_moved step.0 (trace_text code n step.1)

-- the lines of the run from a start, where there is one
unfoldable pub trace_from : List Insn → ℕ → Option StartView → List ℕ
trace_from code steps None = []
trace_from code steps (Some setup) = trace_text code steps (start_state ARENA setup)

-- the lines of the run from the policy's start on packet number k, and its result line
abbrev pub packet_text : PolicyView → List Insn → ℕ → ℕ → List ℕ → List ℕ
packet_text policy code steps k packet =
    trace_from code steps (start_of policy packet)
    ++ result_line policy.kind k (packet_result policy code steps packet)
