-- Hypotheses as the table grows.
use Rattle.std.proofs.Common.{List, [], ◌∷◌, sym, ◌∙◌, arith}
use Rattle.term_table.specs.Tree.{Tree}
use Rattle.term_table.specs.Table.{TableView, Extends}
use Rattle.formula_tree.specs.Formulas.{Form}
use Rattle.prover_ids.specs.Hypotheses.{AreKnownHyps, AreHyps}
use Rattle.prover_ids.specs.declared.hypotheses.Hypothesis.{Hypothesis}

-- hypotheses' ids stay known
pub known_hyps-more : (t u : TableView) (l : List Hypothesis) → AreKnownHyps t l → Extends t u → AreKnownHyps u l
known_hyps-more t u [] k e = tt
known_hyps-more t u (h ∷ l) k e = (omega (arith, k.0, e.longer), omega (arith, k.1, e.longer), known_hyps-more t u l k.2 e)

-- what they stand for in the later table they stood for before
pub hyps-before : (t u : TableView) (l : List Hypothesis) (Γ : List (Form × Tree)) → AreKnownHyps t l → Extends t u → AreHyps u l Γ → AreHyps t l Γ
hyps-before t u [] [] k e h = tt
hyps-before t u (x ∷ l) (y ∷ Γ) k e h = (sym (e.same x.form k.0) ∙ h.0, sym (e.same x.proof k.1) ∙ h.1, hyps-before t u l Γ k.2 e h.2)
hyps-before t u [] (y ∷ Γ) k e h = absurd h
hyps-before t u (x ∷ l) [] k e h = absurd h

-- what they stand for they stand for later
pub hyps-after : (t u : TableView) (l : List Hypothesis) (Γ : List (Form × Tree)) → AreKnownHyps t l → Extends t u → AreHyps t l Γ → AreHyps u l Γ
hyps-after t u [] [] k e h = tt
hyps-after t u (x ∷ l) (y ∷ Γ) k e h = (e.same x.form k.0 ∙ h.0, e.same x.proof k.1 ∙ h.1, hyps-after t u l Γ k.2 e h.2)
hyps-after t u [] (y ∷ Γ) k e h = absurd h
hyps-after t u (x ∷ l) [] k e h = absurd h
