-- What stages that read no file come to: a value, a refusal that isn't that of an unknown policy, or
-- want of memory.
use Rattle.std.proofs.Common.{◌≡◌, ℕ, ◌<◌, Bool, true, false, List, length, get_or, Option, if◌then◌else◌, Result, Ok, Err, refl, sym, ap, subst, arith}
use Rattle.alpha_words.specs.declared.insn.Insn.{Insn}
use Rattle.alpha_cfg.specs.declared.fault.CodeFlaw.{CodeFlaw}
use Rattle.alpha_cfg.specs.CodeDecoding.{decoded_code}
use Rattle.formula_text.specs.Names.{text_flaw_name}
use Rattle.policy_set.specs.Views.{PolicyView}
use Rattle.policy_set.specs.declared.fault.PolicyFlaw.{PolicyFlaw}
use Rattle.policy_set.specs.declared.fault.PolicyFlaw.TheVariants as policy_flaw
use Rattle.policy_set.specs.PolicyText.{policy_read}
use Rattle.packet_store.specs.declared.fault.PacketFault.{PacketFault}
use Rattle.packet_store.specs.declared.fault.PacketFault.TheVariants as packet_fault
use Rattle.packet_store.specs.PacketDecoding.{decoded_packets}
use Rattle.proof_container.specs.Contents.{Contents}
use Rattle.proof_container.specs.Decoding.{Fault, decoded_container}
use Rattle.proof_container.specs.Versions.{profile_of}
use Rattle.pcc_gate.specs.ForPolicy.{is_for}
use Rattle.pcc_gate.specs.declared.refusal.Refusal.{Refusal}
use Rattle.pcc_gate.specs.declared.refusal.Refusal.TheVariants as refusal
use Rattle.pcc_lines.specs.PacketFaults.{packet_fault_line}
use Rattle.pcc_lines.specs.Policies.{policy_lines_line, policy_length_line, policy_form_line}
use Rattle.pcc_lines.specs.Refusals.{refusal_line}
use Rattle.pcc_lines.specs.Sources.{source_fault_line}
use Rattle.pcc_stages.specs.Requests.{no_memory_exit}
use Rattle.pcc_stages.specs.Stage.{Stage, stops, gives, ◌>>=◌}
use Rattle.pcc_stages.specs.Stages.Common.{refused}
use Rattle.pcc_stages.specs.Stages.Containers.{container_for, container_in, code_found, code_in}
use Rattle.pcc_stages.specs.Stages.Packets.{packets_found, packets_in}
use Rattle.pcc_stages.specs.Stages.Policies.{policy_spelled, policy_in}

-- the line begins with a letter before that of an unknown policy's
abbrev pub BeginsBefore : List ℕ → Type 0
BeginsBefore line = get_or line 0 0 < 117

-- how a stage ends that reads no file
pub data EndsAs {A : Type 0} (s : Stage A) : Type 0 where
  gave : (x : A) → s ≡ gives x → EndsAs s
  refused_by : (line : List ℕ) → BeginsBefore line → s ≡ stops (refused line) → EndsAs s
  had_no_memory : s ≡ stops no_memory_exit → EndsAs s

-- ---- lines

-- the first letter of a line comes before that one
pub before : (line : List ℕ) (letter : ℕ) → get_or line 0 0 ≡ letter → letter < 117 → BeginsBefore line
before line letter is less = omega (arith, is, less)

refusal_letter : (r : Refusal) → get_or (refusal_line r) 0 0 ≡ 114
unfolding refusal_line
refusal_letter r = refl

pub refusal_begins : (r : Refusal) → BeginsBefore (refusal_line r)
refusal_begins r = before (refusal_line r) 114 (refusal_letter r) (omega arith)

pub refused_so : {A : Type 0} (s : Stage A) (r : Refusal) → s ≡ stops (refused (refusal_line r)) → EndsAs s
refused_so s r is = refused_by (refusal_line r) (refusal_begins r) is

pub source_fault_begins : (number : ℕ) (kind : List ℕ) → BeginsBefore (source_fault_line number kind)
unfolding source_fault_line
source_fault_begins number kind = before (source_fault_line number kind) 108 refl (omega arith)

pub packet_fault_begins : (fault : PacketFault) → BeginsBefore (packet_fault_line fault)
unfolding packet_fault_line
packet_fault_begins (packet_fault.Cut offset) = before (packet_fault_line (packet_fault.Cut offset)) 112 refl (omega arith)
packet_fault_begins (packet_fault.TooLong offset) = before (packet_fault_line (packet_fault.TooLong offset)) 112 refl (omega arith)

pub policy_lines_begins : (count : ℕ) → BeginsBefore (policy_lines_line count)
unfolding policy_lines_line
policy_lines_begins count = before (policy_lines_line count) 112 refl (omega arith)

pub policy_length_begins : (line : ℕ) → BeginsBefore (policy_length_line line)
unfolding policy_length_line
policy_length_begins line = before (policy_length_line line) 112 refl (omega arith)

pub policy_form_begins : (line position : ℕ) (kind : List ℕ)
    → BeginsBefore (policy_form_line line position kind)
unfolding policy_form_line
policy_form_begins line position kind = before (policy_form_line line position kind) 112 refl (omega arith)

-- ---- stages

for_policy : (c : Contents) (b : Bool)
    → EndsAs (if b then gives c else stops (refused (refusal_line (refusal.OtherPolicy c.head))))
for_policy c true = gave c refl
for_policy c false = refused_so _ (refusal.OtherPolicy c.head) refl

pub container_end : (policy : PolicyView) (r : Result Contents Fault) → EndsAs (container_for policy r)
container_end policy (Ok c) = for_policy c (is_for policy c.head)
container_end policy (Err fault) = refused_so _ (refusal.Malformed fault.0 fault.1) refl

pub code_found_end : (r : Result (List Insn) CodeFlaw) → EndsAs (code_found r)
code_found_end (Ok code) = gave code refl
code_found_end (Err flaw) = refused_so _ (refusal.BadCode flaw) refl

-- a stage behind one that ends
pub end_then : {A B : Type 0} (next : A → Stage B) (s : Stage A) → EndsAs s → ((x : A) → EndsAs (next x))
    → EndsAs (s >>= next)
end_then next s (gave x is) k = subst (λ y. EndsAs (y >>= next)) (sym is) (k x)
end_then next s (refused_by line less is) k = refused_by line less (ap (λ y. y >>= next) is)
end_then next s (had_no_memory is) k = had_no_memory (ap (λ y. y >>= next) is)

pub container_in_end : (policy : PolicyView) (bytes : List ℕ) → EndsAs (container_in policy bytes)
unfolding container_in
container_in_end policy bytes = container_end policy (decoded_container bytes)

pub code_end : (policy : PolicyView) (bytes : List ℕ) → EndsAs (code_in policy bytes)
unfolding code_in container_in
code_end policy bytes =
    end_then (λ c. code_found (decoded_code (profile_of c.version) c.code))
    (container_for policy (decoded_container bytes)) (container_end policy (decoded_container bytes))
    (λ c. code_found_end (decoded_code (profile_of c.version) c.code))

packets_end : (r : Result (List (List ℕ)) PacketFault) → EndsAs (packets_found r)
packets_end (Ok packets) = gave packets refl
packets_end (Err fault) = refused_by _ (packet_fault_begins fault) refl

pub packets_in_end : (bytes : List ℕ) → EndsAs (packets_in bytes)
packets_in_end bytes = packets_end (decoded_packets bytes)

pub policy_end : (r : Result PolicyView PolicyFlaw) → EndsAs (policy_spelled r)
policy_end (Ok policy) = gave policy refl
policy_end (Err (policy_flaw.Lines count)) = refused_by _ (policy_lines_begins count) refl
policy_end (Err (policy_flaw.Length line)) = refused_by _ (policy_length_begins line) refl
policy_end (Err (policy_flaw.Form line position flaw)) =
    refused_by _ (policy_form_begins line position (text_flaw_name flaw)) refl

pub policy_in_end : (bytes : List ℕ) → EndsAs (policy_in bytes)
unfolding policy_in
policy_in_end bytes = policy_end (policy_read bytes)
