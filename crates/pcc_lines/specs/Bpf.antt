-- Faults of programs of classic BPF.
use Rattle.std.specs.Prelude.{ℕ, List, ◌++◌, codes, decimal}
use Rattle.bpf_words.specs.declared.fault.BpfFlaw.{BpfFlaw}
use Rattle.bpf_words.specs.declared.fault.BpfFlaw.TheVariants.{Size, Count, Opcode, Offset, Shift, Jump, NoReturn}
use Rattle.bpf_words.specs.Names.{bpf_flaw_name}

-- the name of a measure of the bytes that makes them no program, and the measure
unfoldable pub bpf_measure_line : List ℕ → ℕ → List ℕ
bpf_measure_line kind number = codes "bpf " ++ (kind ++ (codes " " ++ (decimal number ++ codes "\n")))

-- the index of an instruction that is wrong, and the name of what is wrong with it
unfoldable pub bpf_insn_line : ℕ → List ℕ → List ℕ
bpf_insn_line index kind = codes "bpf " ++ (decimal index ++ (codes " " ++ (kind ++ codes "\n")))

-- the first thing that is wrong with bytes that are no program
abbrev pub bpf_flaw_line : BpfFlaw → List ℕ
bpf_flaw_line (Size n) = bpf_measure_line (bpf_flaw_name (Size n)) n
bpf_flaw_line (Count n) = bpf_measure_line (bpf_flaw_name (Count n)) n
bpf_flaw_line (Opcode i) = bpf_insn_line i (bpf_flaw_name (Opcode i))
bpf_flaw_line (Offset i) = bpf_insn_line i (bpf_flaw_name (Offset i))
bpf_flaw_line (Shift i) = bpf_insn_line i (bpf_flaw_name (Shift i))
bpf_flaw_line (Jump i) = bpf_insn_line i (bpf_flaw_name (Jump i))
bpf_flaw_line (NoReturn i) = bpf_insn_line i (bpf_flaw_name (NoReturn i))
