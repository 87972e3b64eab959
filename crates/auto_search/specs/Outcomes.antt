-- What a search may come to, and what that keeps, however it was searched for.
use Rattle.std.specs.Prelude.{◌≡◌, ◌≢◌, ℕ, List, length, Ok}
use Rattle.policy_set.specs.Views.{PolicyView}
use Rattle.proof_container.specs.Contents.{Contents}
use Rattle.proof_container.specs.Decoding.{decoded_container}
use Rattle.pcc_gate.specs.Accepted.{IsAccepted}
use Rattle.bounds_prover.specs.Proving.{proved_container}
use Rattle.auto_search.specs.declared.outcome.Outcome.{Outcome}
use Rattle.auto_search.specs.declared.outcome.Outcome.TheVariants as outcome
use Rattle.auto_search.specs.declared.outcome.SearchFault.{SearchFault}
use Rattle.auto_search.specs.declared.outcome.SearchFault.TheVariants as search_fault

-- What a search comes to.
pub data OutcomeView : Type 0 where
  -- the bytes of an accepted container, and how many invariants it has
  found : (out : List ℕ) → (invariants : ℕ) → OutcomeView
  -- none is found: the bytes of the container, without proof, with the invariants that were kept
  unfound : (kept : List ℕ) → OutcomeView

-- an outcome without where its bytes lie in memory
abbrev pub outcome_view : Outcome → OutcomeView
outcome_view (outcome.Found out invariants) = found out.items invariants
outcome_view (outcome.Unfound kept) = unfound kept.items

-- The contents are the same but for invariants and proof.
pub record IsSameBut (c d : Contents) : Type 0 where
  pub version : d.version ≡ c.version
  pub head : d.head ≡ c.head
  pub bound : d.bound ≡ c.bound
  pub code : d.code ≡ c.code
  pub lemmas : d.lemmas ≡ c.lemmas

-- The bytes are a container with so many invariants, the same as the one in `input` but for
-- invariants and proof.
pub record IsOf (input out : List ℕ) (invariants : ℕ) : Type 0 where
  pub before : Contents
  pub after : Contents
  pub had : decoded_container input ≡ Ok before
  pub has : decoded_container out ≡ Ok after
  pub same : IsSameBut before after
  pub count : length after.invs ≡ invariants

-- `prove` has no proof of the container as it stands
abbrev pub HasNoProof : PolicyView → List ℕ → Type 0
HasNoProof policy input = (out : List ℕ) → proved_container policy input ≢ Ok out

-- What an outcome keeps of a container in `input`. What is found is accepted, and is that container
-- but for invariants and proof. If none is found, what is kept is that container but for invariants
-- and proof, and `prove` has no proof of the container as it stands.
abbrev pub IsOutcome : PolicyView → List ℕ → OutcomeView → Type 0
IsOutcome policy input (found out invariants) =
    IsAccepted policy out × IsOf input out invariants
IsOutcome policy input (unfound kept) =
    ((invariants : ℕ) × IsOf input kept invariants) × HasNoProof policy input

-- the bytes aren't a container
abbrev pub IsNoContainer : List ℕ → Type 0
IsNoContainer bytes = (c : Contents) → decoded_container bytes ≢ Ok c

-- what a fault of a search says of the bytes; want of memory says nothing
abbrev pub IsSearchFault : List ℕ → SearchFault → Type 0
IsSearchFault bytes search_fault.NoContainer = IsNoContainer bytes
IsSearchFault bytes search_fault.Memory = Unit {0}
