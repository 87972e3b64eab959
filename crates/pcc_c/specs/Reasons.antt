-- The line that says why a call does nothing.
use Rattle.std.specs.Prelude.{ℕ, ◌-◌, List, [], length, take, Result, Ok, Err}
use Rattle.formula_text.specs.Names.{text_flaw_name}
use Rattle.policy_set.specs.declared.fault.PolicyFlaw.{PolicyFlaw}
use Rattle.policy_set.specs.declared.fault.PolicyFlaw.TheVariants as flaw
use Rattle.asm_text.specs.Names.{line_flaw_name}
use Rattle.pcc_asm.specs.Names.{asm_flaw_line, asm_flaw_name}
use Rattle.bounds_prover.specs.Names.{measure_name}
use Rattle.pcc_lines.specs.Bpf.{bpf_flaw_line}
use Rattle.pcc_lines.specs.Fixed.{already_line, source_too_long_line, unknown_policy_line}
use Rattle.pcc_lines.specs.Policies.{policy_lines_line, policy_length_line, policy_form_line}
use Rattle.pcc_lines.specs.Proving.{not_easy_line, too_big_line}
use Rattle.pcc_lines.specs.Refusals.{refusal_line}
use Rattle.pcc_lines.specs.Sources.{source_fault_line}
use Rattle.pcc_c.specs.declared.reason.Reason.{Reason}
use Rattle.pcc_c.specs.declared.reason.Reason.TheVariants as reason

-- the line of a policy file that spells no policy
abbrev pub policy_flaw_line : PolicyFlaw → List ℕ
policy_flaw_line (flaw.Lines count) = policy_lines_line count
policy_flaw_line (flaw.Length line) = policy_length_line line
policy_flaw_line (flaw.Form line position what) =
    policy_form_line line position (text_flaw_name what)

-- the line that `pcc` prints for the reason; for arguments that no command can have it prints none
abbrev pub reason_line : Reason → List ℕ
reason_line (reason.Refused refusal) = refusal_line refusal
reason_line reason.Already = already_line
reason_line reason.UnknownPolicy = unknown_policy_line
reason_line (reason.BadPolicy flaw) = policy_flaw_line flaw
reason_line reason.SourceTooLong = source_too_long_line
reason_line (reason.BadLine line flaw) = source_fault_line line (line_flaw_name flaw)
reason_line (reason.BadCode flaw) = source_fault_line (asm_flaw_line flaw) (asm_flaw_name flaw)
reason_line (reason.BadProgram flaw) = bpf_flaw_line flaw
reason_line (reason.NotEasy part) = not_easy_line part
reason_line (reason.TooBig measure number) = too_big_line (measure_name measure) number
reason_line reason.BadVersion = []

-- the bytes without the last one, which is the LF of a line
abbrev pub without_last : List ℕ → List ℕ
without_last bytes = take (length bytes - 1) bytes

-- the line of the reason, without LF
abbrev pub reason_text : Reason → List ℕ
reason_text why = without_last (reason_line why)

-- what a call puts into the buffer by its answer: what it makes, or the line that says why not
abbrev pub answer_text : Result (List ℕ) Reason → List ℕ
answer_text (Ok made) = made
answer_text (Err why) = reason_text why
