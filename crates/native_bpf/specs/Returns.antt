-- What calls of native code of BPF programs return.
-- McCanne and Jacobson, The BSD Packet Filter, USENIX 1993, section 3, for a program's value on a packet; System V Application Binary Interface, AMD64
-- Architecture Processor Supplement, section 3.2, for calls.
use Rattle.std.specs.Prelude.{ℕ, Bool, List}
use Rattle.alpha_cfg.specs.Machine.{State, IsState}
use Rattle.policy_set.specs.declared.kind.PolicyKind.TheVariants.{Filter}
use Rattle.policy_set.specs.Views.{built_in}
use Rattle.pcc_gate.specs.Accepted.{IsAccepted}
use Rattle.bpf_words.specs.declared.insn.Bpf.{Bpf}
use Rattle.bpf_words.specs.Programs.{IsProgram}
use Rattle.bpf_words.specs.Reading.{AreBytes}
use Rattle.bpf_words.specs.Values.{bpf_value}
use Rattle.bpf_code.specs.Blocks.{nonzero_flag, bpf_code}
use Rattle.bpf_code.specs.Simulation.{StartsOn}
use Rattle.bpf_compile.specs.Compilation.{IsCompilation}
use Rattle.x86_machine.specs.Machine.{X86}
use Rattle.native_steps.specs.Agreement.{Call, IsLent}
use Rattle.native_code.specs.Calls.{IsCall, IsCallEnd}
use Rattle.native_code.specs.Ends.{LeavesWithin}
use Rattle.native_translator.specs.Translation.{IsTranslation}

-- A call on a packet: its first eight quadwords stand from the address in r16 on, and may be loaded. The area is the call's own. Nothing is asked of r17, r18,
-- other memory or the fuel.
pub record IsPacketCall (packet : List ℕ) (call : Call) (s : State) (x : X86) : Type 0 where
  pub state : IsState s
  pub lent : IsLent call s.rights
  pub begins : IsCall call s x
  pub starts : StartsOn packet s

-- The call leaves within so many steps, with this word in rax, and 0 in rdx: no fuel was missing. The caller's registers, and memory outside the area, are as
-- they were before the call.
pub record AnswersWith (text : List ℕ) (word most : ℕ) (call : Call) (s : State) (x : X86) : Type 0 where
  pub leaves : LeavesWithin text most x
  pub returns : IsCallEnd call word 0 s leaves.end

-- Native code of a program's code, with fuel counted or not, returns 0 if the program's value on the packet is 0, else 1. The code returns within 1,000 steps:
-- so native code leaves within ten for each, and a hundred.
abbrev pub ProgramsAnswer : Type 0
ProgramsAnswer =
    (program : List Bpf) (packet text : List ℕ) (metered : Bool) (call : Call) (s : State) (x : X86) → IsProgram program → AreBytes packet
    → IsTranslation metered (bpf_code program) text → IsPacketCall packet call s x
    → AnswersWith text (nonzero_flag (bpf_value program packet)) 10100 call s x

-- Whatever code the container that a program is compiled to is accepted with under `filter`, native code of it returns so.
abbrev pub CompiledAnswer : Type 0
CompiledAnswer =
    (program : List Bpf) (bytes packet text : List ℕ) (metered : Bool) (call : Call) (s : State) (x : X86) → IsProgram program → AreBytes packet
    → IsCompilation program bytes → (a : IsAccepted (built_in Filter) bytes)
    → IsTranslation metered a.code text → IsPacketCall packet call s x
    → AnswersWith text (nonzero_flag (bpf_value program packet)) 10100 call s x
