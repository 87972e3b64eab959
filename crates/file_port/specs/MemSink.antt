-- Output in memory: what its contracts see, and what a put makes of it.
use Rattle.std.specs.Prelude.{ℕ, ◌+◌, Bool, ◌==◌, nat_le, if◌then◌else◌, List, [], ◌∷◌, ◌++◌, length, Some, refl}
use Rattle.std.specs.Coded.{Coded, code_by, coded×, coded_ℕ, coded_list}
use Rattle.file_port.specs.Counts.{count_after}
use Rattle.file_port.specs.Calls.{is_failing, first_half}
use Rattle.file_port.specs.Sink.{SinkState}
use Rattle.file_port.specs.Events.{Event, was_put, put_bytes}
use Rattle.file_port.specs.Stored.{events_code}
use Rattle.file_port.specs.declared.port.Put.{Put}
use Rattle.file_port.specs.declared.port.Put.TheVariants as put

-- what contracts see of output in memory
pub record MemSinkView : Type 0 where
  pub bytes : List ℕ
  pub faults : ℕ
  -- how many bytes there is room for in all
  pub room : ℕ
  -- how many puts were called, and the numbers of those that fail
  pub calls : ℕ
  pub failing : List ℕ
  -- the puts, with their answers
  pub log : List Event

-- as nested pairs
abbrev pub mem_sink_code : Coded MemSinkView
mem_sink_code =
    code_by (List ℕ × (ℕ × (ℕ × (ℕ × (List ℕ × List Event)))))
    (coded× (coded_list coded_ℕ) (coded× coded_ℕ (coded× coded_ℕ (coded× coded_ℕ (coded× (coded_list coded_ℕ) events_code)))))
    (λ v. (v.bytes, (v.faults, (v.room, (v.calls, (v.failing, v.log))))))
    (λ p. record { bytes = p.0; faults = p.1.0; room = p.1.1.0; calls = p.1.1.1.0; failing = p.1.1.1.1.0; log = p.1.1.1.1.1 }) (λ _. refl)

-- what is told of output in memory
abbrev pub state_of_mem_sink : MemSinkView → SinkState
state_of_mem_sink v = record { contents = Some v.bytes; faults = v.faults; asked = put_bytes v.log }

-- whether the next put is one that is to fail
abbrev pub sink_fails_next : MemSinkView → Bool
sink_fails_next v = is_failing v.failing v.calls

-- after one more call
abbrev pub sink_after_call : MemSinkView → MemSinkView
sink_after_call v = record v { calls = count_after v.calls }

-- with a piece at the end
abbrev pub with_bytes : List ℕ → MemSinkView → MemSinkView
with_bytes piece v = record v { bytes = v.bytes ++ piece }

-- with one more failed put
abbrev pub after_failed_put : MemSinkView → MemSinkView
after_failed_put v = record v { faults = count_after v.faults }

-- What a put leaves but for the log, and what it answers. One past the room leaves the bytes, one that is to fail adds the
-- first half, and an empty piece is always taken.
abbrev pub taken_put : MemSinkView → List ℕ → MemSinkView × Put
taken_put v piece =
    if length piece == 0 then (sink_after_call v, put.Done)
    else (if nat_le (length v.bytes + length piece) v.room
    then (if sink_fails_next v
    then (after_failed_put (with_bytes (first_half piece) (sink_after_call v)), put.Failed)
    else (with_bytes piece (sink_after_call v), put.Done))
    else (after_failed_put (sink_after_call v), put.Failed))

-- what a put leaves, and what it answers
abbrev pub after_put : MemSinkView → List ℕ → MemSinkView × Put
after_put v piece =
    let taken = taken_put v piece in
    (record taken.0 { log = taken.0.log ++ was_put piece taken.1 ∷ [] }, taken.1)
