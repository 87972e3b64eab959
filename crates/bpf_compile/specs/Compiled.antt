-- What bytes that stand for a program under `filter` have to be.
use Rattle.std.specs.Prelude.{◌≡◌, ℕ, ◌*◌, ◌≤◌, Bool, List, length}
use Rattle.alpha_words.specs.declared.insn.Insn.{Insn}
use Rattle.alpha_cfg.specs.declared.outcome.Outcome.TheVariants.{Returned}
use Rattle.policy_set.specs.declared.kind.PolicyKind.TheVariants.{Filter}
use Rattle.policy_set.specs.Views.{built_in}
use Rattle.packet_store.specs.declared.results.PacketResult.TheVariants.{Ran}
use Rattle.packet_store.specs.Results.{packet_result}
use Rattle.proof_container.specs.Contents.{Contents}
use Rattle.pcc_gate.specs.Accepted.{Accepts, IsAccepted}
use Rattle.bpf_words.specs.declared.insn.TheConstants.{LOADABLE}
use Rattle.bpf_words.specs.declared.insn.Bpf.{Bpf}
use Rattle.bpf_words.specs.Reading.{AreBytes}
use Rattle.bpf_words.specs.Values.{bpf_value}
use Rattle.bpf_code.specs.declared.blocks.TheConstants.{BLOCK}
use Rattle.bpf_code.specs.Blocks.{nonzero_flag}

-- With twenty steps an instruction or more, each packet that isn't short comes to the flag of the program's value: 0 if the value is 0, else 1.
abbrev pub GivesFlags : List Bpf → List Insn → Type 0
GivesFlags program code = (packet : List ℕ) (budget : ℕ) → AreBytes packet → LOADABLE ≤ length packet → BLOCK * length program ≤ budget
    → packet_result (built_in Filter) code budget packet
    ≡ Ran (Returned (nonzero_flag (bpf_value program packet))) 0

-- The gate accepts the bytes, and whatever code it accepts them with gives the flags of the program's values.
pub record IsCompiled (program : List Bpf) (bytes : List ℕ) : Type 0 where
  pub accepted : IsAccepted (built_in Filter) bytes
  pub flags : (contents : Contents) (code : List Insn) (marks : List Bool)
      → Accepts (built_in Filter) bytes contents code marks → GivesFlags program code
