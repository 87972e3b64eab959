-- What the stages of commands come to that read no file: a value, a refusal that isn't that of an unknown policy, or want of memory.
use Rattle.std.proofs.Common.{◌≡◌, ℕ, ◌<◌, List, length, get_or, Option, Some, None, is_some, Result, Ok, Err, refl, arith}
use Rattle.alpha_words.specs.declared.insn.Insn.{Insn}
use Rattle.asm_text.specs.declared.fault.LineFlaw.{LineFlaw}
use Rattle.asm_text.specs.Sources.{Source}
use Rattle.asm_text.specs.SourceParsing.{parsed_source}
use Rattle.pcc_asm.specs.Assembling.{assembled_contents}
use Rattle.pcc_asm.specs.declared.fault.AsmFlaw.{AsmFlaw}
use Rattle.policy_set.specs.Views.{PolicyView}
use Rattle.proof_container.specs.Contents.{Contents}
use Rattle.proof_container.specs.Versions.{profile_of}
use Rattle.proof_container.specs.declared.container.Head.TheVariants.{Number}
use Rattle.pcc_gate.specs.First.{first_refusal}
use Rattle.pcc_gate.specs.declared.refusal.Refusal.{Refusal}
use Rattle.pcc_gate.specs.declared.refusal.Refusal.TheVariants as refusal
use Rattle.gate_upgrade.specs.Upgrading.{upgraded_container}
use Rattle.gate_upgrade.specs.declared.fault.UpgradeFlaw.{UpgradeFlaw}
use Rattle.gate_upgrade.specs.declared.fault.UpgradeFlaw.TheVariants as upgrade_flaw
use Rattle.bounds_prover.specs.Proving.{proved_container}
use Rattle.bounds_prover.specs.declared.fault.ProveFlaw.{ProveFlaw}
use Rattle.bounds_prover.specs.declared.fault.ProveFlaw.TheVariants as prove_flaw
use Rattle.bpf_words.specs.Reading.{program_of}
use Rattle.bpf_words.specs.declared.insn.Bpf.{Bpf}
use Rattle.bpf_words.specs.declared.fault.BpfFlaw.{BpfFlaw}
use Rattle.bpf_words.specs.declared.fault.BpfFlaw.TheVariants as bpf_flaw
use Rattle.bpf_compile.specs.Compilation.{compiled_container}
use Rattle.pcc_lines.specs.Bpf.{bpf_measure_line, bpf_insn_line, bpf_flaw_line}
use Rattle.pcc_lines.specs.Fixed.{already_line}
use Rattle.pcc_lines.specs.Proving.{not_easy_line, too_big_line}
use Rattle.pcc_stages.specs.Stage.{Stage, gives, ◌>>=◌}
use Rattle.pcc_stages.specs.Stages.Containers.{container_in, code_in}
use Rattle.pcc_stages.proofs.PureStages.{BeginsBefore, EndsAs, gave, refused_by, refused_so, before, source_fault_begins, end_then, container_in_end, code_end}
use Rattle.pcc_commands.specs.Stages.Assembling.{source_found, container_made, assembled_as, source_in, assembled_in}
use Rattle.pcc_commands.specs.Stages.Compiling.{program_found, program_in, compiled_as, compiled_in}
use Rattle.pcc_commands.specs.Stages.Judging.{stops_if_refused, accepted_in, accepted_code_in, Shown, shown_in}
use Rattle.pcc_commands.specs.Stages.Proving.{container_proved, proved_in}
use Rattle.pcc_commands.specs.Stages.Upgrading.{container_upgraded, upgraded_in}

-- ---- lines

not_easy_begins : (part : ℕ) → BeginsBefore (not_easy_line part)
unfolding not_easy_line
not_easy_begins part = before (not_easy_line part) 110 refl (omega arith)

too_big_begins : (name : List ℕ) (number : ℕ) → BeginsBefore (too_big_line name number)
unfolding too_big_line
too_big_begins name number = before (too_big_line name number) 116 refl (omega arith)

bpf_flaw_first : (f : BpfFlaw) → get_or (bpf_flaw_line f) 0 0 ≡ 98
unfolding bpf_measure_line bpf_insn_line
bpf_flaw_first (bpf_flaw.Size n) = refl
bpf_flaw_first (bpf_flaw.Count n) = refl
bpf_flaw_first (bpf_flaw.Opcode i) = refl
bpf_flaw_first (bpf_flaw.Offset i) = refl
bpf_flaw_first (bpf_flaw.Shift i) = refl
bpf_flaw_first (bpf_flaw.Jump i) = refl
bpf_flaw_first (bpf_flaw.NoReturn i) = refl

-- ---- judging

judged_end : (r : Option Refusal) → EndsAs (stops_if_refused r)
judged_end None = gave tt refl
judged_end (Some r) = refused_so _ r refl

pub accepted_in_end : (policy : PolicyView) (bytes : List ℕ) → EndsAs (accepted_in policy bytes)
unfolding accepted_in
accepted_in_end policy bytes = judged_end (first_refusal policy bytes)

pub accepted_code_in_end : (policy : PolicyView) (bytes : List ℕ) → EndsAs (accepted_code_in policy bytes)
unfolding accepted_code_in
accepted_code_in_end policy bytes =
    end_then (λ accepted. code_in policy bytes) (accepted_in policy bytes) (accepted_in_end policy bytes) (λ accepted. code_end policy bytes)

pub shown_in_end : (policy : PolicyView) (bytes : List ℕ) → EndsAs (shown_in policy bytes)
unfolding shown_in
shown_in_end policy bytes =
    end_then (λ accepted. container_in policy bytes >>= λ container. code_in policy bytes >>= λ code. gives (shown code container))
    (accepted_in policy bytes) (accepted_in_end policy bytes) (λ accepted.
    end_then (λ container. code_in policy bytes >>= λ code. gives (shown code container)) (container_in policy bytes)
    (container_in_end policy bytes) (λ container.
    end_then (λ code. gives (shown code container)) (code_in policy bytes) (code_end policy bytes) (λ code. gave _ refl)))
  where
    shown : List Insn → Contents → Shown
    shown code container = record { code = code; invariants = length container.invs }

-- ---- making

source_end : (r : Result Source (ℕ × LineFlaw)) → EndsAs (source_found r)
source_end (Ok source) = gave source refl
source_end (Err fault) = refused_by _ (source_fault_begins _ _) refl

made_end : (r : Result Contents AsmFlaw) → EndsAs (container_made r)
made_end (Ok contents) = gave _ refl
made_end (Err flaw) = refused_by _ (source_fault_begins _ _) refl

pub assembled_in_end : (version : ℕ) (bound : Option ℕ) (policy : PolicyView) (text : List ℕ)
    → EndsAs (assembled_in version bound policy text)
unfolding assembled_in source_in assembled_as
assembled_in_end version bound policy text =
    end_then (λ source. assembled_as version bound policy source) (source_in version bound text)
    (source_end (parsed_source (profile_of version) (is_some bound) text))
    (λ source. made_end (assembled_contents version bound policy source))

proved_end : (r : Result (List ℕ) ProveFlaw) → EndsAs (container_proved r)
proved_end (Ok bytes) = gave bytes refl
proved_end (Err (prove_flaw.Refused r)) = refused_so _ r refl
proved_end (Err (prove_flaw.NotEasy part)) = refused_by _ (not_easy_begins part) refl
proved_end (Err (prove_flaw.TooBig measure number)) = refused_by _ (too_big_begins _ number) refl

pub proved_in_end : (policy : PolicyView) (bytes : List ℕ) → EndsAs (proved_in policy bytes)
unfolding proved_in
proved_in_end policy bytes = proved_end (proved_container policy bytes)

upgraded_end : (r : Result (List ℕ) UpgradeFlaw) → EndsAs (container_upgraded r)
upgraded_end (Ok bytes) = gave bytes refl
upgraded_end (Err (upgrade_flaw.TooLong length)) = refused_so _ (refusal.TooLong length) refl
upgraded_end (Err (upgrade_flaw.Malformed offset flaw)) = refused_so _ (refusal.Malformed offset flaw) refl
upgraded_end (Err upgrade_flaw.Already) = refused_by already_line (omega arith) refl
upgraded_end (Err (upgrade_flaw.OtherPolicy n)) = refused_so _ (refusal.OtherPolicy (Number n)) refl
upgraded_end (Err (upgrade_flaw.TooBig size)) = refused_by _ (too_big_begins _ size) refl

pub upgraded_in_end : (bytes : List ℕ) → EndsAs (upgraded_in bytes)
unfolding upgraded_in
upgraded_in_end bytes = upgraded_end (upgraded_container bytes)

program_end : (r : Result (List Bpf) BpfFlaw) → EndsAs (program_found r)
program_end (Ok program) = gave program refl
program_end (Err f) = refused_by _ (before (bpf_flaw_line f) 98 (bpf_flaw_first f) (omega arith)) refl

pub compiled_in_end : (bytes : List ℕ) → EndsAs (compiled_in bytes)
unfolding compiled_in program_in compiled_as
compiled_in_end bytes =
    end_then (λ program. compiled_as program) (program_in bytes) (program_end (program_of bytes))
    (λ program. proved_end (compiled_container program))
