-- What answers of calls say.
use Rattle.std.specs.Prelude.{◌≡◌, Result, Ok, Err}
use Rattle.view_container.specs.declared.stop.NoSource.{NoSource}
use Rattle.view_container.specs.declared.stop.Stop.{Stop}
use Rattle.view_container.specs.declared.stop.Stop.TheVariants as stop
use Rattle.view_container.specs.declared.stop.ListFault.{ListFault}
use Rattle.view_container.specs.declared.stop.ListFault.TheVariants as fault

-- the fault is what is told; want of memory, or of room for results, says nothing
abbrev pub IsTold : {Y : Type 0} → Result Y ListFault → ListFault → Type 0
IsTold told (fault.TooLong length) = told ≡ Err (fault.TooLong length)
IsTold told (fault.Malformed offset flaw) = told ≡ Err (fault.Malformed offset flaw)
IsTold told fault.Memory = Unit {0}
IsTold told fault.Results = Unit {0}

-- an answer, seen by view, is what is told
abbrev pub Reports : {X Y : Type 0} → (X → Y) → Result Y ListFault → Result X ListFault → Type 0
Reports view told (Ok x) = told ≡ Ok (view x)
Reports view told (Err e) = IsTold told e

-- the reason is the first
abbrev pub IsReason : {Y : Type 0} → Result Y NoSource → Stop → Type 0
IsReason said (stop.Not why) = said ≡ Err why
IsReason said stop.Memory = Unit {0}
IsReason said stop.Results = Unit {0}

-- an answer, seen by view, is what there is, or the first reason why there is none
abbrev pub Finds : {X Y : Type 0} → (X → Y) → Result Y NoSource → Result X Stop → Type 0
Finds view said (Ok x) = said ≡ Ok (view x)
Finds view said (Err e) = IsReason said e
