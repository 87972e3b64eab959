-- What bytes look like that aren't a container.
use Rattle.std.specs.Prelude.{ℕ, Bool, true, ◌&&◌, ◌||◌, ◌==◌, is_ok, if◌then◌else◌, List, [], ◌∷◌, ◌++◌, codes, length, take}
use Rattle.std.specs.Str.{bytes_eq}
use Rattle.asm_text.specs.Statements.{is_printable}
use Rattle.packet_store.specs.PacketDecoding.{decoded_packets}
use Rattle.proof_container.specs.declared.fault.Flaw.{Flaw}
use Rattle.pcc_gate.specs.declared.refusal.Refusal.TheVariants as refusal
use Rattle.bpf_words.specs.Reading.{program_of}
use Rattle.pcc_lines.specs.Refusals.{refusal_line}
use Rattle.view_looks.specs.declared.looks.Look.{Look}
use Rattle.view_looks.specs.declared.looks.Look.TheVariants as look

-- the bytes begin with these
abbrev pub begins_with : List ℕ → List ℕ → Bool
begins_with front bytes = bytes_eq front (take (length front) bytes)

-- An ELF file begins so (System V ABI, "ELF Identification").
abbrev pub is_elf : List ℕ → Bool
is_elf bytes = begins_with (127 ∷ 69 ∷ 76 ∷ 70 ∷ []) bytes

-- A capture of libpcap begins so: the number a1b2c3d4, or a1b23c4d where times are in nanoseconds, of
-- either byte order (pcap-savefile(5)).
abbrev pub is_pcap : List ℕ → Bool
is_pcap bytes =
    begins_with (212 ∷ 195 ∷ 178 ∷ 161 ∷ []) bytes || begins_with (161 ∷ 178 ∷ 195 ∷ 212 ∷ []) bytes
    || begins_with (77 ∷ 60 ∷ 178 ∷ 161 ∷ []) bytes || begins_with (161 ∷ 178 ∷ 60 ∷ 77 ∷ []) bytes

-- A capture of the next generation begins with a section's block, 0a0d0d0a (the pcapng format, "Section
-- Header Block").
abbrev pub is_pcapng : List ℕ → Bool
is_pcapng bytes = begins_with (10 ∷ 13 ∷ 13 ∷ 10 ∷ []) bytes

-- printable ASCII, a tab, or a byte of a line's end
abbrev pub is_text_byte : ℕ → Bool
is_text_byte b = is_printable b || b == 10 || b == 13

-- such bytes alone
abbrev pub is_text : List ℕ → Bool
is_text [] = true
is_text (b ∷ bs) = is_text_byte b && is_text bs

-- what the bytes look like; of a container that is spoiled, nothing else
unfoldable pub look_of : List ℕ → Look
look_of bytes =
    if begins_with (codes "PCCA") bytes then look.Unknown else
    if length bytes == 0 then look.Empty else
    if is_elf bytes then look.Elf else
    if is_pcap bytes then look.Pcap else
    if is_pcapng bytes then look.Pcapng else
    if is_ok (program_of bytes) then look.Bpf else
    if is_ok (decoded_packets bytes) then look.Packets else
    if is_text bytes then look.Text else
    look.Unknown

-- the line on it, if there is one
unfoldable pub look_line : Look → List ℕ
look_line look.Empty = codes "FILE is empty\n"
look_line look.Elf = codes "FILE looks like an ELF file\n"
look_line look.Pcap = codes "FILE looks like a capture (pcap); examples/from_pcap makes packets of it\n"
look_line look.Pcapng = codes "FILE looks like a capture (pcapng); examples/from_pcap makes packets of it\n"
look_line look.Bpf = codes "FILE looks like a program of classic BPF; pcc bpf makes a container of it\n"
look_line look.Packets = codes "FILE looks like a packet file\n"
look_line look.Text = codes "FILE looks like a text; pcc asm makes a container of a source\n"
look_line look.Unknown = []

-- what is said of bytes that aren't a container: the line that `pcc check` prints, and what they look
-- like
abbrev pub no_container_text : ℕ → Flaw → Look → List ℕ
no_container_text offset flaw found =
    refusal_line (refusal.Malformed offset flaw) ++ look_line found
