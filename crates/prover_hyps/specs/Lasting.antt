-- Kept alignments stay right as the table grows.
use Rattle.std.proofs.Common.{ℕ, Option, List, sym, ◌∙◌, arith}
use Rattle.term_table.specs.Table.{TableView, Extends}
use Rattle.prover_ids.specs.declared.hypotheses.Hypothesis.{Hypothesis}
use Rattle.prover_ids.specs.Hypotheses.{AreKnownHyps}
use Rattle.prover_ids.proofs.HypRows.{hyps-before}
use Rattle.prover_ids.proofs.Standing.{stands-more, if_known-more}
use Rattle.prover_class.specs.Goals.{alignment_proof}
use Rattle.prover_hyps.specs.Alignments.{IsFoundAlignment}

-- what was found of an expression
pub alignment-lasts : (t u : TableView) (l : List Hypothesis) (e : ℕ) (o : Option ℕ) → AreKnownHyps t l → Extends t u → IsFoundAlignment t l e o → IsFoundAlignment u l e o
alignment-lasts t u l e o k x h = record {
  of = omega (arith, h.of, x.longer);
  known = if_known-more t u o h.known x;
  is = λ Γ y g q. stands-more t u (alignment_proof Γ y) o (h.is Γ y (hyps-before t u l Γ k x g) (sym (x.same e h.of) ∙ q)) x;
}
