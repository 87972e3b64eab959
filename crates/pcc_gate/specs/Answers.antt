-- What the gate answers.
use Rattle.std.specs.Prelude.{◌≡◌, ℕ, ◌≤◌, List, length, None, Some, Result, Ok, Err}
use Rattle.policy_set.specs.Views.{PolicyView}
use Rattle.term_table.specs.Table.{id_trees}
use Rattle.proof_container.specs.Views.{AreKnown, contents_of}
use Rattle.lf_signature.specs.Constants.{places_of, declared}
use Rattle.lf_lemmas.specs.Tables.{LemmasKnown}
use Rattle.lf_lemmas.specs.Checking.{LemmasCheck}
use Rattle.proof_container.specs.Contents.{Contents}
use Rattle.proof_container.specs.declared.limits.TheConstants.{MAX_BYTES}
use Rattle.proof_container.specs.declared.container.Container.{Container}
use Rattle.pcc_gate.specs.declared.fault.GateFault.{GateFault}
use Rattle.pcc_gate.specs.declared.fault.GateFault.TheVariants.{Refused, Memory, Results}
use Rattle.pcc_gate.specs.declared.passing.Passed.{Passed}
use Rattle.pcc_gate.specs.Passing.{Passes, PassesUntyped}
use Rattle.pcc_gate.specs.First.{front_refusal, lemma_refusal, first_refusal}
use Rattle.pcc_gate.specs.Weights.{lemmas_weight}
use Rattle.pcc_gate.specs.declared.limits.TheConstants.{MAX_WEIGHT}
use Rattle.pcc_gate.specs.Accepted.{Accepts}
use Rattle.proof_container.specs.Versions.{signature_of}
use Rattle.pcc_gate.specs.Views.{AcceptedView}

-- the container's terms are the table's, whose weights go by the parameters of the version's
-- signature
pub record IsHeld (c : Container) : Type 0 where
  pub known : AreKnown c.table c.invs.items c.proof
  pub lemmas : LemmasKnown c.table c.lemmas.items
  pub places : c.table.places ≡ places_of (signature_of c.version)

-- The clauses before the proof hold of what is passed on; a refusal is the first of them that
-- fails; where memory ran out, the bytes aren't too many. Results are counted only of a container
-- that passes clauses 1 to 5.
abbrev pub IsFrontAnswer : PolicyView → List ℕ → Result Passed GateFault → Type 0
IsFrontAnswer policy bytes (Ok p) = Passes policy bytes (contents_of p.container) p.cut.code p.cut.marks × (front_refusal policy bytes ≡ None)
IsFrontAnswer policy bytes (Err (Refused r)) = front_refusal policy bytes ≡ Some r
IsFrontAnswer policy bytes (Err Memory) = length bytes ≤ MAX_BYTES
IsFrontAnswer policy bytes (Err Results) = PassesUntyped policy bytes

-- the lemmas of the contents aren't too heavy, and each one's proof proves its formula with those
-- before it
pub record HasGoodLemmas (c : Contents) : Type 0 where
  pub weight : lemmas_weight (signature_of c.version) c.lemmas ≤ MAX_WEIGHT
  pub proved : LemmasCheck (declared (signature_of c.version)) c.lemmas

-- The clauses before the proof hold of what is passed on, and of its lemmas alone 10 and 14; a
-- refusal is the first of these that fails; where memory ran out, the bytes aren't too many.
-- Results are counted only of a container that passes clauses 1 to 5.
abbrev pub IsLemmaFrontAnswer : PolicyView → List ℕ → Result Passed GateFault → Type 0
IsLemmaFrontAnswer policy bytes (Ok p) =
    Passes policy bytes (contents_of p.container) p.cut.code p.cut.marks
    × HasGoodLemmas (contents_of p.container) × (lemma_refusal policy bytes ≡ None)
IsLemmaFrontAnswer policy bytes (Err (Refused r)) = lemma_refusal policy bytes ≡ Some r
IsLemmaFrontAnswer policy bytes (Err Memory) = length bytes ≤ MAX_BYTES
IsLemmaFrontAnswer policy bytes (Err Results) = PassesUntyped policy bytes

-- What the gate shows of accepted bytes: the policy, the bound, the code with its flags, and the
-- invariants of their contents.
pub record IsAcceptedBy (policy : PolicyView) (bytes : List ℕ) (a : AcceptedView) : Type 0 where
  pub contents : Contents
  pub policy_is : a.policy ≡ policy
  pub bound_is : a.bound ≡ contents.bound
  pub invs_are : contents.invs ≡ id_trees a.table a.invs
  pub accepts : Accepts policy bytes contents a.code a.marks
  pub first : first_refusal policy bytes ≡ None

-- All clauses hold of what is accepted; a refusal is the first of them that fails; where memory ran
-- out, the bytes aren't too many. Results are counted only of a container that passes clauses 1 to 5.
abbrev pub IsGateAnswer : PolicyView → List ℕ → Result AcceptedView GateFault → Type 0
IsGateAnswer policy bytes (Ok a) = IsAcceptedBy policy bytes a
IsGateAnswer policy bytes (Err (Refused r)) = first_refusal policy bytes ≡ Some r
IsGateAnswer policy bytes (Err Memory) = length bytes ≤ MAX_BYTES
IsGateAnswer policy bytes (Err Results) = PassesUntyped policy bytes
