use Rattle.std.proofs.Common.{◌≡◌, List, map}
use Rattle.term_table.specs.Table.{tree_at, Extends}
use Rattle.formula_tree.specs.Formulas.{Form}
use Rattle.lf_terms.specs.Encoding.{form_encoding}
use Rattle.prover_ids.specs.Hypotheses.{AreKnownHyps}
use Rattle.view_marks.specs.Inside.Known.{AreSplitTo}
use Rattle.view_marks.proofs.hints.hypotheses_of.Given as goal

abbrev pub invariant-loop-i : goal.invariant-loop-i
invariant-loop-i l = record {
  extends : Extends l.fn.table l.table;
  hyps_known : AreKnownHyps l.table l.hyps;
  exact : (Fs : List Form) → map (tree_at l.fn.table) l.known ≡ map form_encoding Fs
      → AreSplitTo l.table l.hyps l.i Fs;
}
