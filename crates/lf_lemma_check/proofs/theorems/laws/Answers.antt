use Rattle.lf_lemma_check.proofs.Failing.{first_is, all_formulas, all_proofs, all_citations, held, formula_passes, proof_passes}
use Rattle.lf_lemma_check.proofs.Backwards.{all_before, before_passes}
use Rattle.lf_lemma_check.proofs.Longer.{kept_over}
use Rattle.lf_lemma_check.proofs.theorems.laws.Goals as goal

pub returns : goal.returns
returns c = record {
  first = first_is;
  formulas = all_formulas;
  proofs = all_proofs;
  citations = all_citations;
  holds = λ sig t u ids free known grows none. held sig t u ids free known grows none;
  is_formula = formula_passes;
  is_proof = proof_passes;
  unproved = all_before;
  is_proof_before = before_passes;
  kept = kept_over;
}
