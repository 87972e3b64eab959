use Rattle.std.specs.Prelude.{◌≡◌, ◌-◌, ◌<◌, length}
use Rattle.bpf_words.specs.Values.{bpf_value, value_from}
use Rattle.bpf_words.proofs.values.bpf_value.Given as goal

abbrev pub invariant-loop : goal.invariant-loop
invariant-loop l = (l.next < length l.program) × (value_from l.program l.packet (length l.program - l.counter) l.next l.a ≡ bpf_value l.program l.packet)
