-- What the runs of `demo` come to.
use Rattle.std.proofs.Common.{◌≡◌, ℕ, suc, ◌+◌, true, false, List, Option, Some, None, refl, sym, ap, ◌∙◌, arith}
use Rattle.alpha_words.specs.declared.insn.Insn.{Insn}
use Rattle.alpha_cfg.specs.Machine.{State, run_of}
use Rattle.alpha_cfg.specs.declared.outcome.Outcome.{Outcome}
use Rattle.policy_set.specs.Views.{PolicyView}
use Rattle.reference_machine.specs.declared.layout.TheConstants.{ARENA}
use Rattle.reference_machine.specs.Starts.{StartView, start_state}
use Rattle.packet_store.specs.PolicyStarts.{start_of}
use Rattle.safe_host.specs.Hosts.{HostView, state_under, start_rights}
use Rattle.safe_host.specs.Runs.{Loads, IsRun, outcome_of}
use Rattle.safe_host.specs.Counts.{steps_of, MakesSteps}
use Rattle.host_steps.specs.declared.ended.Ended.{Ended}
use Rattle.pcc_demo.specs.Packets.{demo_packet}
use Rattle.pcc_commands.specs.Commands.Demo.{ones_of, count_from, both_counts, packet_counts}
use Rattle.vcgen.specs.Safety.{all_steps}
use Rattle.pcc_commands.specs.declared.commands.demo.Counts.{Counts}

abbrev pub nothing : Counts
nothing = record { steps = 0; ones = 0 }

-- a short packet isn't run
pub short-count : (old new : HostView) (code : List Insn) (budget : ℕ) (o : Option StartView) → Loads old o new false → nothing ≡ count_from code budget o
unfolding count_from
short-count old new code budget None l = refl
short-count old new code budget (Some setup) l = let wrong : false ≡ true = l.0 in cc

-- a run from a start that was loaded
pub ran-count : (old begun after : HostView) (budget steps : ℕ) (result : Ended) (o : Option StartView) → Loads old o begun true → IsRun begun budget result after → MakesSteps begun budget steps → record { steps = steps; ones = ones_of (outcome_of result) } ≡ count_from old.accepted.code budget o
unfolding count_from
ran-count old begun after budget steps result None l run made = let wrong : true ≡ false = l.0 in cc
ran-count old begun after budget steps result (Some setup) l run made =
    let rights = start_rights setup in
    let same : begun ≡ _ = l.1 in
    let left = all_steps old.accepted.bound in
    let ended : (outcome_of result, state_under after rights) ≡ run_of old.accepted.code budget (start_state ARENA setup) =
    sym (run left rights l.3).same ∙ ap (λ (h : HostView). run_of h.accepted.code budget (state_under h rights)) same in
    let count : steps ≡ steps_of old.accepted.code budget (start_state ARENA setup) =
    made left rights l.3 ∙ ap (λ (h : HostView). steps_of h.accepted.code budget (state_under h rights)) same in
    let one : ones_of (outcome_of result) ≡ ones_of (run_of old.accepted.code budget (start_state ARENA setup)).0 = ap (λ (q : Outcome × State). ones_of q.0) ended in
    λ i. record { steps = count i; ones = one i }

-- ---- packet after packet

pub counts-none : (policy : PolicyView) (code : List Insn) (budget n : ℕ) → nothing
    ≡ packet_counts policy code budget n 0
unfolding packet_counts
counts-none policy code budget n = refl

pub counts-more : (policy : PolicyView) (code : List Insn) (budget n k : ℕ) (all one : Counts) → all
    ≡ packet_counts policy code budget n k → one
    ≡ count_from code budget (start_of policy (demo_packet n k)) → both_counts all one
    ≡ packet_counts policy code budget n (k + 1)
unfolding packet_counts
counts-more policy code budget n k all one a b =
    let next : suc k ≡ k + 1 = omega arith in
    ap (λ (x : Counts). both_counts x one) a ∙ ap (both_counts (packet_counts policy code budget n k)) b ∙ ap (packet_counts policy code budget n) next
