-- What a host that C holds owns: its box, if there is one.
use base.Fml.{Fml, ftrue}
use base.Stored.{Coded}
use denote.RawPtr.{Ptr}
use Rattle.std.specs.Prelude.{Option, Some, None}
use Rattle.std.specs.Coded.{coded_option}
use Rattle.std.specs.Box.Ownership.{box_owns}
use Rattle.std.specs.Global.{Global}
use Rattle.std.specs.contracts.impls.GlobalAllocator.TheImpl.{ghosts}
use Rattle.safe_host.specs.contracts.runner.HostRunner.{the_row}

-- the box at a pointer, if there is a host
abbrev pub owned : Global → Ptr → Option the_row.Denot → Fml
owned alloc p None = ftrue
owned alloc p (Some runner) = box_owns (ghosts.dealloc_token alloc) the_row p runner

-- a host, if there is one, as a value that is stored
abbrev pub runner_coded : Coded (Option the_row.Denot)
runner_coded = coded_option the_row.coded
