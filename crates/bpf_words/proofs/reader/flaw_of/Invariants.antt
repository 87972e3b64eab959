use Rattle.std.specs.Prelude.{◌≡◌, ℕ, ◌<◌, length, drop, slice_get, Some}
use Rattle.bpf_words.specs.declared.insn.Bpf.{Bpf}
use Rattle.bpf_words.specs.Programs.{HasWidths}
use Rattle.bpf_words.specs.Reading.{flaw_from}
use Rattle.bpf_words.proofs.reader.flaw_of.Given as goal

abbrev pub invariant-loop-i : goal.invariant-loop-i
invariant-loop-i l =
    (flaw_from (length l.insns) 0 l.insns ≡ flaw_from (length l.insns) l.i (drop l.i l.insns))
    × ((j : ℕ) → j < l.i → (insn : Bpf) → slice_get l.insns j ≡ Some insn → HasWidths insn)
