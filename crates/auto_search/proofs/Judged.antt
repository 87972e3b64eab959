-- What an outcome keeps, by what the prover and the checker answer.
use Rattle.std.proofs.Common.{◌≡◌, ℕ, List, length, Ok, Err, refl, sym, ap, ◌∙◌, subst}
use Rattle.policy_set.specs.Views.{PolicyView}
use Rattle.proof_container.specs.Contents.{Contents}
use Rattle.proof_container.specs.Decoding.{decoded_container}
use Rattle.pcc_gate.specs.Accepted.{IsAccepted}
use Rattle.pcc_gate.specs.Answers.{IsAcceptedBy}
use Rattle.pcc_gate.specs.Views.{AcceptedView}
use Rattle.bounds_prover.specs.Proving.{with_proof, proved_container, IsProveAnswer}
use Rattle.bounds_prover.specs.ProvedLaws.{IsProvedOf}
use Rattle.bounds_prover.specs.declared.fault.ProveFlaw.{ProveFlaw}
use Rattle.bounds_prover.specs.declared.fault.ProveFault.{ProveFault}
use Rattle.bounds_prover.specs.declared.fault.ProveFault.TheVariants as prove_fault
use Rattle.auto_search.specs.Outcomes.{IsOf, HasNoProof}
use Rattle.auto_search.specs.Inside.Terms.{IsKeptOf, HasInvariants}

-- what the prover refuses it has no proof of
flaw-unproved : (policy : PolicyView) (bytes : List ℕ) (flaw : ProveFlaw)
    → proved_container policy bytes ≡ Err flaw → HasNoProof policy bytes
flaw-unproved policy bytes flaw e = λ out is.
    let wrong : Ok out ≡ Err flaw = sym is ∙ e in absurd cc

-- so it is where a call of the prover answers that
pub fault-unproved : (policy : PolicyView) (bytes : List ℕ) (fault : ProveFault) (flaw : ProveFlaw)
    → fault ≡ prove_fault.At flaw → IsProveAnswer policy bytes (Err fault) → HasNoProof policy bytes
fault-unproved policy bytes fault flaw is h =
    flaw-unproved policy bytes flaw
    (subst (λ (f : ProveFault). IsProveAnswer policy bytes (Err f)) is h)

-- what the checker accepts is accepted
pub accepted-by : (policy : PolicyView) (bytes : List ℕ) (a : AcceptedView)
    → IsAcceptedBy policy bytes a → IsAccepted policy bytes
accepted-by policy bytes a h = record {
  contents = h.contents;
  code = a.code;
  marks = a.marks;
  accepts = h.accepts;
}

-- what the prover makes of a container as it stands, with the number of its invariants
pub proved-is : (input out : List ℕ) (count : ℕ) → IsProvedOf input out → HasInvariants out count
    → IsOf input out count
proved-is input out count h k =
    let after : Contents = with_proof h.contents h.proof in
    let same : k.contents ≡ after = let both : Ok k.contents ≡ Ok after = sym k.has ∙ h.has in cc in
    record {
      before = h.contents;
      after = after;
      had = h.had;
      has = h.has;
      same = record { version = refl; head = refl; bound = refl; code = refl; lemmas = refl };
      count = ap (λ (c : Contents). length c.invs) (sym same) ∙ k.size;
    }

-- a container is itself but for invariants and proof
pub itself-kept : (bytes : List ℕ) (c : Contents) → decoded_container bytes ≡ Ok c → IsKeptOf bytes bytes
itself-kept bytes c e = (
  length c.invs,
  record {
    before = c;
    after = c;
    had = e;
    has = e;
    same = record { version = refl; head = refl; bound = refl; code = refl; lemmas = refl };
    count = refl;
  },
)
