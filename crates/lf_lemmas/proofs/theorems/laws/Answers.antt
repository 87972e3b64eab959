use Rattle.lf_lemmas.proofs.WrittenOut.{written_out_law, written_formulas, written_none, nothing_left}
use Rattle.lf_lemmas.proofs.Prefixes.{small_fits, part_law, at_once_law}
use Rattle.lf_lemmas.proofs.WordLemmas.{words_admit}
use Rattle.lf_lemmas.proofs.theorems.laws.Goals as goal

pub returns : goal.returns
returns c = record {
  written_out = λ sig lemmas t G admits f w g. written_out_law sig admits lemmas t G f w g;
  same_formulas = written_formulas;
  none_left = written_none;
  nothing_left = nothing_left;
  words = words_admit;
  fit = small_fits;
  part = part_law;
  at_once = at_once_law;
}
