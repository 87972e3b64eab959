-- What ties the clauses to the first that fails.
use Rattle.std.specs.Prelude.{◌≡◌, ℕ, ◌↔◌, Bool, List, None, Some}
use Rattle.word_ops.specs.Tests.{AllPass}
use Rattle.alpha_words.specs.declared.insn.Insn.{Insn}
use Rattle.policy_set.specs.Views.{PolicyView}
use Rattle.proof_container.specs.Contents.{Contents}
use Rattle.term_table.specs.Bytes.{IsBytes}
use Rattle.pcc_gate.specs.declared.refusal.Refusal.{Refusal}
use Rattle.pcc_gate.specs.Clauses.{gate_tests, IsFirstRefusal, IsFrontRefusal, IsLemmaRefusal}
use Rattle.pcc_gate.specs.Passing.{Passes}
use Rattle.pcc_gate.specs.Accepted.{IsAccepted}
use Rattle.pcc_gate.specs.First.{front_refusal, lemma_refusal, first_refusal}

-- bytes are accepted exactly where no clause is the first that fails
abbrev pub AcceptedFirst : Type 0
AcceptedFirst =
    (policy : PolicyView) (bytes : List ℕ) → IsBytes bytes
    → IsAccepted policy bytes ↔ (first_refusal policy bytes ≡ None)

-- the clauses before the proof hold exactly where none of them is the first that fails
pub record HasPassed (policy : PolicyView) (bytes : List ℕ) : Type 0 where
  pub contents : Contents
  pub code : List Insn
  pub marks : List Bool
  pub passes : Passes policy bytes contents code marks

-- the same of the clauses before the proof
abbrev pub PassedFirst : Type 0
PassedFirst =
    (policy : PolicyView) (bytes : List ℕ) → IsBytes bytes
    → HasPassed policy bytes ↔ (front_refusal policy bytes ≡ None)

-- what bytes hold is one
abbrev pub PassedOne : Type 0
PassedOne =
    (policy : PolicyView) (bytes : List ℕ) (c d : Contents) (code other : List Insn)
    (marks flags : List Bool) → IsBytes bytes → Passes policy bytes c code marks
    → Passes policy bytes d other flags → (c ≡ d) × (code ≡ other) × (marks ≡ flags)

-- they are accepted exactly where all clauses pass, as the list has them
abbrev pub AcceptedAll : Type 0
AcceptedAll =
    (policy : PolicyView) (bytes : List ℕ) → IsAccepted policy bytes ↔ AllPass (gate_tests policy bytes)

-- a refusal is the first exactly where the relation says so, by which no bytes have two
abbrev pub RefusedFirst : Type 0
RefusedFirst = (policy : PolicyView) (bytes : List ℕ) (r : Refusal) → IsBytes bytes →
    (first_refusal policy bytes ≡ Some r) ↔ IsFirstRefusal policy bytes r

-- so is one among the clauses before the proof
abbrev pub RefusedBefore : Type 0
RefusedBefore = (policy : PolicyView) (bytes : List ℕ) (r : Refusal) → IsBytes bytes →
    (front_refusal policy bytes ≡ Some r) ↔ IsFrontRefusal policy bytes r

-- a refusal is the first of these, and of 10 and 14 of the lemmas alone, exactly where the relation
-- says so
abbrev pub RefusedLemmas : Type 0
RefusedLemmas = (policy : PolicyView) (bytes : List ℕ) (r : Refusal) → IsBytes bytes →
    (lemma_refusal policy bytes ≡ Some r) ↔ IsLemmaRefusal policy bytes r
