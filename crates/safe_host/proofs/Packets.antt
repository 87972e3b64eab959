-- What loading and running a packet come to.
use Rattle.std.proofs.Common.{◌≡◌, ℕ, ◌%◌, ◌^◌, true, false, List, Option, Some, None, refl, sym, ◌∙◌, ap}
use Rattle.word_ops.specs.Memory.{Memory}
use Rattle.alpha_cfg.specs.Machine.{State, run_of}
use Rattle.reference_machine.specs.Arena.{map_of, sum_of}
use Rattle.reference_machine.specs.Starts.{StartView, start_state}
use Rattle.packet_store.specs.declared.results.PacketResult.TheVariants.{Short, Ran}
use Rattle.packet_store.specs.PolicyStarts.{start_of}
use Rattle.packet_store.specs.Results.{result_from, packet_result}
use Rattle.packet_store.proofs.ResultLemmas.{result_from-some}
use Rattle.packet_store.proofs.StartLemmas.{start_from-sum}
use Rattle.host_steps.specs.declared.ended.Ended.{Ended}
use Rattle.vcgen.specs.Safety.{all_steps}
use Rattle.safe_host.specs.Hosts.{HostView, state_under, RightsFit, host_at, start_rights}
use Rattle.safe_host.specs.Runs.{Loads, IsRun, outcome_of}

-- ---- a short packet

pub short-none : (old new : HostView) (o : Option StartView) → Loads old o new false → None ≡ o
short-none old new None l = refl
short-none old new (Some setup) l = absurd (cc)

pub short-result : (old new : HostView) (n : ℕ) (o : Option StartView) → Loads old o new false → Short ≡ result_from old.accepted.code n o
unfolding result_from
short-result old new n o l = ap (result_from old.accepted.code n) (short-none old new o l)

-- ---- any other

-- a start that was loaded
pub record IsLoaded (old new : HostView) (o : Option StartView) : Type 0 where
  pub setup : StartView
  pub is : Some setup ≡ o
  pub new_is : new ≡ host_at old.accepted setup
  pub fits : RightsFit new (all_steps old.accepted.bound) (start_rights setup)

pub loaded : (old new : HostView) (o : Option StartView) → Loads old o new true → IsLoaded old new o
loaded old new None l = absurd (cc)
loaded old new (Some setup) (e, is, meets, fits) = record { setup = setup; is = refl; new_is = is; fits = fits }

-- a run from a start that was loaded, and the sum behind it
pub ran-result : (old begun after : HostView) (n sum : ℕ) (result : Ended) (packet : List ℕ)
    → Loads old (start_of old.accepted.policy packet) begun true → IsRun begun n result after
    → after.region ≡ begun.region
    → sum ≡ sum_of (map_of 65536 after.words) 65536 after.region % 2 ^ 64
    → Ran (outcome_of result) sum ≡ packet_result old.accepted.policy old.accepted.code n packet
ran-result old begun after n sum result packet loads run region is =
    let l : IsLoaded old begun (start_of old.accepted.policy packet) = loaded old begun (start_of old.accepted.policy packet) loads in
    let setup : StartView = l.setup in
    let end : State = state_under after (start_rights setup) in
    let m : Memory = map_of 65536 after.words in
    let ran : run_of begun.accepted.code n (state_under begun (start_rights setup))
    ≡ (outcome_of result, end) =
    (run (all_steps old.accepted.bound) (start_rights setup) l.fits).same in
    let from : (outcome_of result, end) ≡ run_of old.accepted.code n (start_state 65536 setup) =
    sym ran
    ∙ ap (λ (h : HostView). run_of h.accepted.code n (state_under h (start_rights setup)))
    l.new_is in
    let size : after.region ≡ setup.region = region ∙ ap (λ (h : HostView). h.region) l.new_is in
    let total : sum ≡ sum_of m setup.at setup.region % 2 ^ 64 =
    is ∙ ap (λ k. sum_of m 65536 k % 2 ^ 64) size
    ∙ ap (λ k. k % 2 ^ 64) (start_from-sum 65536 old.accepted.policy.kind packet setup m (sym l.is)) in
    ap (Ran (outcome_of result)) total
    ∙ result_from-some old.accepted.code n setup (outcome_of result) end from
    ∙ ap (result_from old.accepted.code n) l.is
