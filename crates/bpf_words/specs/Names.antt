-- The names of the kinds of flaws, as lines show them, and their numbers.
use Rattle.std.specs.Prelude.{ℕ, List, codes}
use Rattle.bpf_words.specs.declared.fault.BpfFlaw.{BpfFlaw}
use Rattle.bpf_words.specs.declared.fault.BpfFlaw.TheVariants.{Size, Count, Opcode, Offset, Shift, Jump, NoReturn}

-- what is wrong with bytes that are no program, in one name
abbrev pub bpf_flaw_name : BpfFlaw → List ℕ
bpf_flaw_name (Size n) = codes "Size"
bpf_flaw_name (Count n) = codes "Count"
bpf_flaw_name (Opcode i) = codes "Opcode"
bpf_flaw_name (Offset i) = codes "Offset"
bpf_flaw_name (Shift i) = codes "Shift"
bpf_flaw_name (Jump i) = codes "Jump"
bpf_flaw_name (NoReturn i) = codes "NoReturn"

-- the length, the count or the index of a flaw
abbrev pub bpf_flaw_number : BpfFlaw → ℕ
bpf_flaw_number (Size n) = n
bpf_flaw_number (Count n) = n
bpf_flaw_number (Opcode i) = i
bpf_flaw_number (Offset i) = i
bpf_flaw_number (Shift i) = i
bpf_flaw_number (Jump i) = i
bpf_flaw_number (NoReturn i) = i
