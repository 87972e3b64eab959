-- What functions of this crate return, before it is told.
use Rattle.std.specs.Prelude.{◌≡◌, ◌⊎◌, ℕ, List, Result, Ok, Err, Vec}
use Rattle.std.specs.Global.{Global}
use Rattle.pcc_c.specs.declared.statuses.TheConstants.{DONE, TOO_MANY_RESULTS}
use Rattle.pcc_c.specs.declared.reason.Reason.{Reason}
use Rattle.pcc_c.specs.declared.fault.Fault.{Fault}
use Rattle.pcc_c.specs.declared.fault.Fault.TheVariants as fault
use Rattle.pcc_c.specs.Statuses.{reason_status, IsNoMemory}
use Rattle.pcc_c.specs.Reasons.{reason_text}
use Rattle.pcc_c.specs.Buffers.{StoresIn, LeavesBuffer}

-- A result, seen by view, is what is due. That memory ran out says nothing, and that cached results
-- did says this.
abbrev pub IsDue : {X Y : Type 0} → Type 0 → (X → Y) → Result Y Reason → Result X Fault → Type 0
IsDue Searched view due (Ok x) = due ≡ Ok (view x)
IsDue Searched view due (Err (fault.At why)) = due ≡ Err why
IsDue Searched view due (Err fault.Memory) = Unit {0}
IsDue Searched view due (Err fault.Results) = Searched

-- the line of the reason is stored, unless memory ran out for it
abbrev pub TellsReason : Reason → List ℕ → List ℕ → ℕ → ℕ → Type 0
TellsReason why old new count status =
    LeavesBuffer IsNoMemory old new count status
    ⊎ StoresIn (reason_text why) (reason_status why) old new count status

-- what is left in the buffer for a fault
abbrev pub TellsFault : Fault → List ℕ → List ℕ → ℕ → ℕ → Type 0
TellsFault (fault.At why) old new count status = TellsReason why old new count status
TellsFault fault.Memory old new count status = LeavesBuffer IsNoMemory old new count status
TellsFault fault.Results old new count status =
    LeavesBuffer (λ s. s ≡ TOO_MANY_RESULTS) old new count status

-- what is left in the buffer for what was made, or a fault
abbrev pub TellsMade : Result (Vec ℕ Global) Fault → List ℕ → List ℕ → ℕ → ℕ → Type 0
TellsMade (Ok made) old new count status = StoresIn made.items DONE old new count status
TellsMade (Err why) old new count status = TellsFault why old new count status

-- this holds if the fault has a reason
abbrev pub IfAt : Type 0 → Fault → Type 0
IfAt P (fault.At why) = P
IfAt P fault.Memory = Unit {0}
IfAt P fault.Results = Unit {0}
