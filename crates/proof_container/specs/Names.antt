-- The names of the kinds of faults, as lines show them.
use Rattle.std.specs.Prelude.{ℕ, List, codes}
use Rattle.proof_container.specs.declared.fault.Flaw.{Flaw}
use Rattle.proof_container.specs.declared.fault.Flaw.TheVariants.{Cut, Magic, Version, Count, EntryKind, ForwardRef, DoubleEntry, Order, LambdaHead, InvOrder, Trailing}

-- what is wrong with the bytes at an offset, in one name
abbrev pub flaw_name : Flaw → List ℕ
flaw_name Cut = codes "Cut"
flaw_name Magic = codes "Magic"
flaw_name Version = codes "Version"
flaw_name Count = codes "Count"
flaw_name EntryKind = codes "EntryKind"
flaw_name ForwardRef = codes "ForwardRef"
flaw_name DoubleEntry = codes "DoubleEntry"
flaw_name Order = codes "Order"
flaw_name LambdaHead = codes "LambdaHead"
flaw_name InvOrder = codes "InvOrder"
flaw_name Trailing = codes "Trailing"
