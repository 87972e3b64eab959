-- The start of `filter` on a packet is a state from which the code of a program is run.
use Rattle.std.proofs.Common.{◌≡◌, ◌≢◌, ℕ, zero, suc, ◌+◌, ◌-◌, ◌*◌, ◌<◌, ◌≤◌, ◌⊎◌, Bool, true, false, cond, List, length, Some, None, refl, sym, ap, ◌∙◌, subst, arith, inl, inr}
use Rattle.std.proofs.lemmas.Bool.{cases_lt, lt-ltb, le-ltb, false≢true}
use Rattle.std.proofs.lemmas.Option.{same_Some}
use Rattle.word_ops.specs.Memory.{Memory, read}
use Rattle.word_ops.specs.Rights.{allowed}
use Rattle.word_ops.proofs.Spans.{allowed-from}
use Rattle.alpha_words.specs.declared.insn.Insn.{Insn}
use Rattle.alpha_cfg.specs.Machine.{State, ends_with, step_of, run_of}
use Rattle.alpha_cfg.specs.declared.outcome.Kind.{Kind}
use Rattle.alpha_cfg.specs.declared.outcome.Step.{Step}
use Rattle.alpha_cfg.specs.declared.outcome.Step.TheVariants as steps
use Rattle.alpha_cfg.specs.declared.outcome.Outcome.{Outcome}
use Rattle.alpha_cfg.specs.declared.outcome.Outcome.TheVariants.{Returned, Blocked, OutOfSteps}
use Rattle.policy_set.specs.declared.kind.PolicyKind.TheVariants.{Filter}
use Rattle.policy_set.specs.Views.{built_in}
use Rattle.reference_machine.specs.Arena.{quadword, placed_word}
use Rattle.reference_machine.specs.Starts.{StartView, start_state}
use Rattle.reference_machine.proofs.Starting.{read-start}
use Rattle.packet_store.specs.declared.results.PacketResult.{PacketResult}
use Rattle.packet_store.specs.declared.results.PacketResult.TheVariants.{Ran, Short}
use Rattle.packet_store.specs.PolicyStarts.{filter_start, quadwords_of, start_from, start_of}
use Rattle.packet_store.specs.Results.{packet_result, result_from}
use Rattle.bpf_words.specs.declared.insn.Bpf.{Bpf}
use Rattle.bpf_words.specs.Programs.{IsProgram}
use Rattle.bpf_words.specs.Reading.{AreBytes}
use Rattle.bpf_words.specs.Values.{bpf_value}
use Rattle.bpf_code.specs.Blocks.{bpf_code, nonzero_flag}
use Rattle.bpf_code.specs.Simulation.{ReturnsFlag, StartsOn, address_behind, quadword_of}
use Rattle.bpf_code.proofs.Starting.{simulates, simulates-thousand}

-- ---- where the packet stands

abbrev memory_of : List ℕ → Memory
memory_of packet = (start_state 65536 (filter_start 65536 packet)).memory

-- a word of the arena that lies d words behind the first of the bytes
placed_word-behind : (place : ℕ) (packet : List ℕ) (d : ℕ) → placed_word place packet (place + d) ≡ quadword packet d
placed_word-behind place packet d =
    let past : place + d - place ≡ d = omega arith in
    ap (λ b. cond b 0 (quadword packet (place + d - place))) (le-ltb (place + d) place (omega arith)) ∙ ap (quadword packet) past

stands : (packet : List ℕ) (d : ℕ) → 8 * d < 64 → read (memory_of packet) (address_behind 65552 (8 * d)) ≡ quadword_of packet (8 * d)
stands packet d inside =
    let place : address_behind 65552 (8 * d) ≡ 65536 + 8 * (2 + d) = omega (arith, inside) in
    ap (read (memory_of packet)) place
    ∙ read-start 65536 (filter_start 65536 packet) (2 + d) (omega (arith, inside))
    ∙ placed_word-behind 2 packet d

readable : (packet : List ℕ) → 64 ≤ length packet → (d : ℕ) → 8 * d < 64 → allowed (filter_start 65536 packet).reads (address_behind 65552 (8 * d)) ≡ true
readable packet long d inside =
    let within : d < quadwords_of packet = omega (arith, inside, long) in
    let place : address_behind 65552 (8 * d) ≡ 65552 + 8 * d = omega (arith, inside) in
    allowed-from (filter_start 65536 packet).reads (address_behind 65552 (8 * d)) ((65552, quadwords_of packet), (1, omega arith, refl), (d, within, place))

starts-on : (packet : List ℕ) → 64 ≤ length packet → StartsOn packet (start_state 65536 (filter_start 65536 packet))
starts-on packet long = record { index = refl; count = refl; a = refl; stands = stands packet; readable = readable packet long }

-- ---- the policy's start

start-long : (packet : List ℕ) → 64 ≤ length packet → start_of (built_in Filter) packet
    ≡ Some (filter_start 65536 packet)
unfolding start_from
start-long packet long = ap (λ b. cond b None (Some (filter_start 65536 packet))) (le-ltb (length packet) 64 long)

start-short : (packet : List ℕ) → length packet < 64 → start_of (built_in Filter) packet ≡ None
unfolding start_from
start-short packet less = ap (λ b. cond b None (Some (filter_start 65536 packet))) (lt-ltb (length packet) 64 less)

pub starts : (packet : List ℕ) (setup : StartView) → start_of (built_in Filter) packet ≡ Some setup
    → StartsOn packet (start_state 65536 setup)
starts packet setup e = elim (cases_lt (length packet) 64) [
  | inl less ↦ let none : None ≡ Some setup = sym (start-short packet less) ∙ e in cc
  | inr long ↦
      let same : filter_start 65536 packet ≡ setup = same_Some (filter_start 65536 packet) setup (sym (start-long packet long) ∙ e) in
      subst (λ s. StartsOn packet (start_state 65536 s)) same (starts-on packet long)
]

pub returns-value : (program : List Bpf) (packet : List ℕ) (setup : StartView) → IsProgram program → AreBytes packet
    → start_of (built_in Filter) packet ≡ Some setup
    → ReturnsFlag program packet 1000 (start_state 65536 setup)
returns-value program packet setup is bytes e = simulates-thousand program packet (start_state 65536 setup) is bytes (starts packet setup e)

-- ---- what a packet comes to

pub outcome : (program : List Bpf) (packet : List ℕ) (budget : ℕ) → IsProgram program → AreBytes packet → 64 ≤ length packet
    → 20 * length program ≤ budget
    → packet_result (built_in Filter) (bpf_code program) budget packet
    ≡ Ran (Returned (nonzero_flag (bpf_value program packet))) 0
unfolding result_from
outcome program packet budget is bytes long enough =
    ap (result_from (bpf_code program) budget) (start-long packet long)
    ∙ ap (λ end. Ran end 0) (simulates program packet budget (start_state 65536 (filter_start 65536 packet)) is bytes (starts-on packet long) enough)

pub short : (code : List Insn) (packet : List ℕ) (budget : ℕ) → length packet < 64
    → packet_result (built_in Filter) code budget packet ≡ Short
unfolding result_from
short code packet budget less = ap (result_from code budget) (start-short packet less)

-- ---- whatever the budget

-- a run that isn't out of steps is the run of any greater budget
settled-by : (step : Step) (u : State) (fewer more : Outcome × State) → (fewer.0 ≡ OutOfSteps) ⊎ (more ≡ fewer)
    → ((ends_with step u fewer).0 ≡ OutOfSteps) ⊎ (ends_with step u more ≡ ends_with step u fewer)
settled-by steps.Moved u fewer more h = h
settled-by steps.Returned u fewer more h = inr refl
settled-by (steps.Blocked index kind addr) u fewer more h = inr refl

settled : (code : List Insn) (n k : ℕ) (s : State) → ((run_of code n s).0 ≡ OutOfSteps) ⊎ (run_of code (n + k) s ≡ run_of code n s)
settled code zero k s = inl refl
settled code (suc n) k s =
    let more : suc (n + k) ≡ suc n + k = omega arith in
    let u : State = (step_of code s).1 in
    subst (λ m. ((run_of code (suc n) s).0 ≡ OutOfSteps) ⊎ (run_of code m s ≡ run_of code (suc n) s)) more
    (settled-by (step_of code s).0 u (run_of code n u) (run_of code (n + k) u) (settled code n k u))

-- an access was blocked
abbrev is_blocked : PacketResult → Bool
is_blocked (Ran (Blocked index kind addr) sum) = true
is_blocked result = false

unblocked : (program : List Bpf) (packet : List ℕ) (budget : ℕ) → IsProgram program → AreBytes packet
    → is_blocked (packet_result (built_in Filter) (bpf_code program) budget packet) ≡ false
unfolding result_from
unblocked program packet budget is bytes = elim (cases_lt (length packet) 64) [
  | inl less ↦ ap (λ o. is_blocked (result_from (bpf_code program) budget o)) (start-short packet less)
  | inr long ↦
      let s : State = start_state 65536 (filter_start 65536 packet) in
      let answer : ReturnsFlag program packet (budget + 20 * length program) s =
      simulates program packet (budget + 20 * length program) s is bytes (starts-on packet long) (omega arith) in
      ap (λ o. is_blocked (result_from (bpf_code program) budget o)) (start-long packet long)
      ∙ elim (settled (bpf_code program) budget (20 * length program) s) [
        | inl out ↦ ap (λ o. is_blocked (Ran o 0)) out
        | inr same ↦ ap (λ r. is_blocked (Ran r.0 0)) (sym same) ∙ ap (λ o. is_blocked (Ran o 0)) answer
      ]
]

pub safe : (program : List Bpf) (packet : List ℕ) (budget index addr sum : ℕ) (kind : Kind) → IsProgram program → AreBytes packet
    → packet_result (built_in Filter) (bpf_code program) budget packet
    ≢ Ran (Blocked index kind addr) sum
safe program packet budget index addr sum kind is bytes e = false≢true (sym (unblocked program packet budget is bytes) ∙ ap is_blocked e)
