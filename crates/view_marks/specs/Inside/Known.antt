-- Known formulas, of which some are hypotheses already.
use Rattle.std.specs.Prelude.{◌≡◌, ℕ, List, [], drop}
use Rattle.term_table.specs.Table.{TableView}
use Rattle.formula_tree.specs.Formulas.{Form}
use Rattle.prover_ids.specs.Hypotheses.{AreHyps}
use Rattle.prover_ids.specs.declared.hypotheses.Hypothesis.{Hypothesis}
use Rattle.prover_class.specs.Hypotheses.{Hyps}
use Rattle.view_marks.specs.Hints.{known_hyps}

-- the ids stand for the hypotheses that the first k formulas were split into
pub record AreSplitTo (t : TableView) (ids : List Hypothesis) (k : ℕ) (Fs : List Form)
    : Type 0 where
  pub now : Hyps
  pub are : AreHyps t ids now
  pub rest : known_hyps now k (drop k Fs) ≡ known_hyps [] 0 Fs
