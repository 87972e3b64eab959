-- What the exports about hosts answer.
use Rattle.std.specs.Prelude.{◌≡◌, ◌⊎◌, ◌<◌, ◌≤◌, ℕ, List, length, Option, Some, None, option_map, Result, Ok}
use Rattle.term_table.specs.Steps.{◌>>=◌}
use Rattle.alpha_cfg.specs.declared.outcome.Outcome.TheVariants.{Returned, OutOfSteps, Blocked}
use Rattle.policy_set.specs.Views.{PolicyView}
use Rattle.packet_store.specs.declared.reader.TheConstants.{MAX_PACKET}
use Rattle.packet_store.specs.declared.results.PacketResult.{PacketResult}
use Rattle.packet_store.specs.declared.results.PacketResult.TheVariants.{Short, Ran}
use Rattle.packet_store.specs.Results.{packet_result}
use Rattle.pcc_gate.specs.First.{first_refusal}
use Rattle.safe_host.specs.Runners.{host_results}
use Rattle.pcc_c.specs.declared.reason.Reason.{Reason}
use Rattle.pcc_c.specs.declared.statuses.TheConstants.{DONE, HOST_OPEN, NO_HOST, LONG_PACKET}
use Rattle.pcc_c.specs.declared.results.TheConstants.{SHORT, RETURNED, OUT_OF_STEPS}
use Rattle.pcc_c.specs.declared.results.PccResult.{PccResult}
use Rattle.pcc_c.specs.declared.host.PccHost.{PccHost}
use Rattle.pcc_c.specs.Statuses.{answer_status, IsShortage}
use Rattle.pcc_c.specs.Policies.{policy_for}
use Rattle.pcc_c.specs.Checking.{refusal_answer, IsSafeCode}

-- what a host is to its caller: the result of each packet
abbrev pub Results : Type 0
Results = List ℕ → PacketResult

-- the host that a handle has, if there is one
abbrev pub host_of : PccHost → Option Results
host_of handle = option_map host_results handle.held.runner

-- ---- a new host

-- what `pcc_host_new` answers: by the first acceptance check that fails, under the built-in policy
-- that the first bytes name
abbrev pub host_answer : List ℕ → List ℕ → Result (Unit {0}) Reason
host_answer given bytes = do
  policy ← policy_for 1 given
  refusal_answer (first_refusal policy bytes)

-- the status is that of the answer, unless memory or cached results ran out; or the handle has a
-- host already
abbrev pub IsNewStatus : Option Results → List ℕ → List ℕ → ℕ → Type 0
IsNewStatus (Some results) given bytes status = status ≡ HOST_OPEN
IsNewStatus None given bytes status =
    IsShortage status ⊎ (status ≡ answer_status (host_answer given bytes))

-- The bytes are accepted under the policy, and their code is safe for it. The result of each packet
-- is what the machine that tests each access makes of it with this code, in so many steps at most.
pub record HostsCode (policy : PolicyView) (bytes : List ℕ) (steps : ℕ) (results : Results)
    : Type 0 where
  pub code : IsSafeCode policy bytes
  pub runs : results ≡ packet_result policy code.accepted.code steps

-- that is so under the built-in policy that the first bytes name
pub record RunsAccepted (given bytes : List ℕ) (steps : ℕ) (results : Results) : Type 0 where
  pub policy : PolicyView
  pub gives : policy_for 1 given ≡ Ok policy
  pub accepted : HostsCode policy bytes steps results

-- A handle that had no host has one exactly if the status is that of success, and the host runs
-- accepted code.
abbrev pub MakesHost : List ℕ → List ℕ → ℕ → Option Results → Option Results → ℕ → Type 0
MakesHost given bytes steps (Some results) new status = new ≡ Some results
MakesHost given bytes steps None None status = ¬ (status ≡ DONE)
MakesHost given bytes steps None (Some results) status =
    (status ≡ DONE) × RunsAccepted given bytes steps results

-- ---- a packet

-- a result as C has it; no run of accepted code is blocked
abbrev pub ShowsResult : PacketResult → PccResult → Type 0
ShowsResult Short shown = shown ≡ record { end = SHORT; r0 = 0; sum = 0 }
ShowsResult (Ran (Returned word) sum) shown = shown ≡ record { end = RETURNED; r0 = word; sum = sum }
ShowsResult (Ran OutOfSteps sum) shown = shown ≡ record { end = OUT_OF_STEPS; r0 = 0; sum = sum }
ShowsResult (Ran (Blocked index kind addr) sum) shown = ⊥

-- what `pcc_host_run` answers: the host's result of the packet, if there is a host and the packet
-- isn't too long
abbrev pub RunsPacket : Option Results → List ℕ → PccResult → PccResult → ℕ → Type 0
RunsPacket None packet old new status = (status ≡ NO_HOST) × (new ≡ old)
RunsPacket (Some results) packet old new status =
    ((length packet ≤ MAX_PACKET) × (status ≡ DONE) × ShowsResult (results packet) new)
    ⊎ ((MAX_PACKET < length packet) × (status ≡ LONG_PACKET) × (new ≡ old))

-- ---- no host any more

-- what `pcc_host_free` answers
abbrev pub IsFreeStatus : Option Results → ℕ → Type 0
IsFreeStatus None status = status ≡ NO_HOST
IsFreeStatus (Some results) status = status ≡ DONE
