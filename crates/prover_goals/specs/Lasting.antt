-- What is found of goals stays right as the table grows.
use Rattle.std.proofs.Common.{ℕ, Option, List, sym, ◌∙◌, arith}
use Rattle.term_table.specs.Table.{TableView, IsKnown, Extends}
use Rattle.prover_ids.specs.declared.hypotheses.Hypothesis.{Hypothesis}
use Rattle.prover_ids.specs.Hypotheses.{AreKnownHyps}
use Rattle.prover_ids.proofs.HypRows.{hyps-before}
use Rattle.prover_ids.proofs.Standing.{stands-more, if_known-more}
use Rattle.prover_class.specs.Goals.{Prover}
use Rattle.prover_goals.specs.Provers.{whole_proof, prover_of, IsProofBy}
use Rattle.prover_goals.specs.Answers.{IsFoundProof, IsAnswer}
use Rattle.prover_goals.specs.declared.answers.Means.{Means}
use Rattle.prover_goals.specs.declared.answers.Goal.{Goal}

-- what is a goal's proof in a table stays it, for the hypotheses and the goal that the later ids stand for
pub proof-now : (p : Prover) (t u v : TableView) (l : List Hypothesis) (outside goal : ℕ) (o : Option ℕ) → AreKnownHyps t l → IsKnown t goal → Extends t v → Extends u v → IsProofBy p t u l outside goal o → IsProofBy p v v l outside goal o
proof-now p t u v l outside goal o k g x y h = λ Γ A a q. stands-more u v (p outside Γ A) o (h Γ A (hyps-before t v l Γ k x a) (sym (x.same goal g) ∙ q)) y

-- what was found of a goal stays right as the table grows
pub found-more : (t u : TableView) (l : List Hypothesis) (outside : ℕ) (means : Means) (goal : ℕ) (o : Option ℕ) → AreKnownHyps t l → Extends t u → IsFoundProof t l outside means goal o → IsFoundProof u l outside means goal o
found-more t u l outside means goal o k x h = record {
  of = omega (arith, h.of, x.longer);
  known = if_known-more t u o h.known x;
  is = proof-now (whole_proof (prover_of means)) t t u l outside goal o k h.of x x h.is;
}

-- an answer to a question
pub answer-lasts : (t u : TableView) (l : List Hypothesis) (q : Goal) (o : Option ℕ) → AreKnownHyps t l → Extends t u → IsAnswer t l q o → IsAnswer u l q o
answer-lasts t u l q o k x h = found-more t u l q.outside q.means q.goal o k x h
