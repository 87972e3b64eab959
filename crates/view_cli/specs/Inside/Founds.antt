-- What bytes are found to be that were read as a container.
use Rattle.std.specs.Prelude.{◌≡◌, ℕ, List, Option, Some, None, Ok, Err}
use Rattle.proof_container.specs.Contents.{Contents}
use Rattle.proof_container.specs.Decoding.{decoded_container}
use Rattle.proof_container.specs.Versions.{IsVersion, IsBoundOf}
use Rattle.view_container.specs.Beside.{BesideView, nothing_beside}
use Rattle.view_source_faults.specs.declared.code.SourceCode.{SourceCode}
use Rattle.view_cli.specs.declared.commands.list.Found.{Found}
use Rattle.view_cli.specs.declared.commands.list.Found.TheVariants as found

-- a container of this version and with this bound, or the first fault
abbrev pub IsFoundIn : List ℕ → Found → Type 0
IsFoundIn bytes (found.Container version bound) =
    (c : Contents) × (decoded_container bytes ≡ Ok c) × (c.version ≡ version) × (c.bound ≡ bound)
    × IsVersion version × IsBoundOf version bound
IsFoundIn bytes (found.Not offset flaw) = decoded_container bytes ≡ Err (offset, flaw)

-- the source that was read, if there is one, as it is beside a container
abbrev pub beside_source : Option SourceCode → BesideView
beside_source None = nothing_beside
beside_source (Some source) = record { lines = source.lines.items; code = Some source.code.items }
