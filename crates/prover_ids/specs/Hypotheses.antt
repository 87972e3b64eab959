-- Hypotheses as ids.
use Rattle.std.specs.Prelude.{◌≡◌, List, [], ◌∷◌}
use Rattle.term_table.specs.Tree.{Tree}
use Rattle.term_table.specs.Table.{TableView, IsKnown, tree_at}
use Rattle.formula_tree.specs.Formulas.{Form}
use Rattle.lf_terms.specs.Encoding.{form_encoding}
use Rattle.prover_ids.specs.declared.hypotheses.Hypothesis.{Hypothesis}

-- both ids of each are the table's
abbrev pub AreKnownHyps : TableView → List Hypothesis → Type 0
AreKnownHyps t [] = Unit {0}
AreKnownHyps t (h ∷ l) = IsKnown t h.form × IsKnown t h.proof × AreKnownHyps t l

-- the ids stand for the formulas and their proofs, one after another
abbrev pub AreHyps : TableView → List Hypothesis → List (Form × Tree) → Type 0
AreHyps t [] [] = Unit {0}
AreHyps t (h ∷ l) (x ∷ m) = (tree_at t h.form ≡ form_encoding x.0) × (tree_at t h.proof ≡ x.1) × AreHyps t l m
AreHyps t _ _ = ⊥
