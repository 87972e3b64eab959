-- Which event a call adds to a log.
use Rattle.file_port.specs.declared.log.Asked.{Asked}
use Rattle.file_port.specs.declared.log.Asked.TheVariants as asked
use Rattle.file_port.specs.Events.{given_of, Event, was_read, was_written, was_put}

-- the event of a call
abbrev pub event_of : Asked → Event
event_of (asked.Read name max answer) = was_read name.now max (given_of answer.now)
event_of (asked.Write name bytes answer) = was_written name.now bytes.now answer
event_of (asked.Put piece answer) = was_put piece.now answer
