-- What a tracer prints.
use Rattle.std.specs.Prelude.{ℕ, List}
use Rattle.view_trace.specs.declared.tracer.Tracer.{Tracer}
use Rattle.view_trace.specs.Traces.{packet_text}

-- the text of each packet, by its number
abbrev pub traced_text : Tracer → ℕ → List ℕ → List ℕ
traced_text tracer k packet = packet_text tracer.policy tracer.code tracer.steps k packet
