-- What it means that conjunctions were gone through.
use Rattle.std.specs.Prelude.{◌≡◌, true, is_some, Option, Some, None, List, [], ◌∷◌}
use Rattle.std.specs.BTreeSet.{BTreeSet, contains}
use Rattle.term_table.specs.Tree.{Tree}
use Rattle.term_table.specs.Table.{TableView, IsKnown, tree_at}
use Rattle.formula_tree.specs.Formulas.{Form, FFalse, FImp}
use Rattle.lf_terms.specs.Encoding.{form_encoding}
use Rattle.prover_ids.specs.Nodes.{IsRelation}
use Rattle.prover_ids.specs.declared.hypotheses.Hypothesis.{Hypothesis}
use Rattle.prover_ids.specs.Hypotheses.{AreHyps}
use Rattle.prover_class.specs.Hypotheses.{Hyps, find_hyp, split_hyps}
use Rattle.prover_hyps.specs.declared.collection.Key.{Key}
use Rattle.prover_hyps.specs.declared.splitting.Relation.{Relation}
use Rattle.prover_hyps.specs.contracts.collection.KeyOrd.TheImpl as key_block

-- the formulas of hypotheses
abbrev pub forms_of : Hyps → List Form
forms_of [] = []
forms_of (h ∷ l) = h.0 ∷ forms_of l

-- each formula is a hypothesis
abbrev pub AreFound : Hyps → List Form → Type 0
AreFound Γ [] = Unit {0}
AreFound Γ (A ∷ l) = (is_some (find_hyp Γ A) ≡ true) × AreFound Γ l

-- the members of each formula that was gone through are hypotheses
abbrev pub AreSeen : TableView → Hyps → BTreeSet Key → Type 0
AreSeen t Γ seen =
    (k : Key) → contains key_block.ghosts.cmp seen k ≡ true → IsKnown t k.form × ((A : Form) (h : Tree) → tree_at t k.form ≡ form_encoding A → AreFound Γ (forms_of (split_hyps A h)))

-- the ids stand for these hypotheses, and what was gone through is known
pub record AreSplit (t : TableView) (l : List Hypothesis) (s : BTreeSet Key) (Γ : Hyps) : Type 0 where
  pub hyps : AreHyps t l Γ
  pub seen : AreSeen t Γ s

-- where B is falsity and A a relation, which the ids stand for; else the implication has one member
abbrev pub IsNegated : TableView → Form → Form → Option Relation → Type 0
IsNegated t A B None = (h : Tree) → split_hyps (FImp A B) h ≡ (FImp A B, h) ∷ []
IsNegated t A B (Some r) = IsRelation t A r.rel r.a r.b × (B ≡ FFalse)
