-- The number that each reason has in C.
use Rattle.std.specs.Prelude.{◌≡◌, ◌⊎◌, ℕ, Result, Ok, Err}
use Rattle.pcc_lines.specs.Refusals.{refusal_number}
use Rattle.pcc_c.specs.declared.statuses.TheConstants.{DONE, ALREADY, UNKNOWN_POLICY, BAD_POLICY, NO_MEMORY, TOO_MANY_RESULTS, BAD_SOURCE, BAD_PROGRAM, NOT_EASY, TOO_BIG, BAD_VERSION}
use Rattle.pcc_c.specs.declared.reason.Reason.{Reason}
use Rattle.pcc_c.specs.declared.reason.Reason.TheVariants as reason

-- the status of a call that does nothing for this reason
abbrev pub reason_status : Reason → ℕ
reason_status (reason.Refused refusal) = refusal_number refusal
reason_status reason.Already = ALREADY
reason_status reason.UnknownPolicy = UNKNOWN_POLICY
reason_status (reason.BadPolicy flaw) = BAD_POLICY
reason_status reason.SourceTooLong = BAD_SOURCE
reason_status (reason.BadLine line flaw) = BAD_SOURCE
reason_status (reason.BadCode flaw) = BAD_SOURCE
reason_status (reason.BadProgram flaw) = BAD_PROGRAM
reason_status (reason.NotEasy part) = NOT_EASY
reason_status (reason.TooBig measure number) = TOO_BIG
reason_status reason.BadVersion = BAD_VERSION

-- the status of a call by its answer
abbrev pub answer_status : {A : Type 0} → Result A Reason → ℕ
answer_status (Ok made) = DONE
answer_status (Err why) = reason_status why

-- the call ran out of memory; that says nothing of its arguments
abbrev pub IsNoMemory : ℕ → Type 0
IsNoMemory status = status ≡ NO_MEMORY

-- the call ran out of memory, or reached its limit of cached results; neither says anything of its
-- arguments
abbrev pub IsShortage : ℕ → Type 0
IsShortage status = IsNoMemory status ⊎ (status ≡ TOO_MANY_RESULTS)
