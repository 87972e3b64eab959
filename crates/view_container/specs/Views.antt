-- A source beside a container as definitions see it.
use Rattle.std.specs.Option.{option_map}
use Rattle.view_container.specs.declared.beside.Beside as code
use Rattle.view_container.specs.Beside.{BesideView}

-- its lines and its code
abbrev pub beside_view : code.Beside → BesideView
beside_view b = record { lines = b.lines.now; code = option_map (λ c. c.now) b.code }
