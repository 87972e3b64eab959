use Rattle.std.specs.Prelude.{◌≡◌, ◌-◌, ◌/◌, ◌++◌, length}
use Rattle.bpf_words.specs.Reading.{bpf_insns_from, insns_of}
use Rattle.bpf_words.proofs.reader.insns_of.Given as goal

abbrev pub invariant-loop-i : goal.invariant-loop-i
invariant-loop-i l = l.insns.items ++ bpf_insns_from l.bytes l.i (length l.bytes / 8 - l.i) ≡ insns_of l.bytes
