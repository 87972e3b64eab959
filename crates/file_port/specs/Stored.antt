-- How the logic stores the events of a log: as numbers and lists.
use Rattle.std.specs.Prelude.{◌≡◌, ℕ, List, [], cond, ◌==◌, refl}
use Rattle.std.specs.Coded.{Coded, code_by, coded×, coded_ℕ, coded_list}
use Rattle.file_port.specs.declared.port.Put.TheVariants as put
use Rattle.file_port.specs.Events.{whole, missing, too_long, failed, no_memory, Event, was_read, was_written, was_put}

-- which event, a number, a name or piece, and bytes
abbrev Parts : Type 0
Parts = ℕ × (ℕ × (List ℕ × List ℕ))

abbrev to_parts : Event → Parts
to_parts (was_read name max (whole b)) = (0, (max, (name, b)))
to_parts (was_read name max missing) = (1, (max, (name, [])))
to_parts (was_read name max too_long) = (2, (max, (name, [])))
to_parts (was_read name max failed) = (3, (max, (name, [])))
to_parts (was_read name max no_memory) = (4, (max, (name, [])))
to_parts (was_written name b put.Done) = (5, (0, (name, b)))
to_parts (was_written name b put.Failed) = (6, (0, (name, b)))
to_parts (was_put piece put.Done) = (7, (0, (piece, [])))
to_parts (was_put piece put.Failed) = (8, (0, (piece, [])))

abbrev from_parts : Parts → Event
from_parts p =
    cond (p.0 == 0) (was_read p.1.1.0 p.1.0 (whole p.1.1.1)) (cond (p.0 == 1) (was_read p.1.1.0 p.1.0 missing) (cond (p.0 == 2) (was_read p.1.1.0 p.1.0 too_long)
    (cond (p.0 == 3) (was_read p.1.1.0 p.1.0 failed) (cond (p.0 == 4) (was_read p.1.1.0 p.1.0 no_memory) (cond (p.0 == 5) (was_written p.1.1.0 p.1.1.1 put.Done)
    (cond (p.0 == 6) (was_written p.1.1.0 p.1.1.1 put.Failed) (cond (p.0 == 7) (was_put p.1.1.0 put.Done) (was_put p.1.1.0 put.Failed))))))))

-- an event is told by its parts
pub from_parts-to_parts : (e : Event) → from_parts (to_parts e) ≡ e
from_parts-to_parts (was_read name max (whole b)) = refl
from_parts-to_parts (was_read name max missing) = refl
from_parts-to_parts (was_read name max too_long) = refl
from_parts-to_parts (was_read name max failed) = refl
from_parts-to_parts (was_read name max no_memory) = refl
from_parts-to_parts (was_written name b put.Done) = refl
from_parts-to_parts (was_written name b put.Failed) = refl
from_parts-to_parts (was_put piece put.Done) = refl
from_parts-to_parts (was_put piece put.Failed) = refl

-- events as a ghost state stores them, by their parts
abbrev pub events_code : Coded (List Event)
events_code = coded_list (code_by Parts (coded× coded_ℕ (coded× coded_ℕ (coded× (coded_list coded_ℕ) (coded_list coded_ℕ)))) to_parts from_parts from_parts-to_parts)
