-- Proofs of connectives and quantifiers, on ids.
use Rattle.std.specs.Prelude.{◌≡◌, ℕ, suc, Option, List, [], ◌∷◌}
use Rattle.std.specs.Option.{option_map}
use Rattle.term_table.specs.Tree.{Tree, Lam}
use Rattle.term_table.specs.Table.{TableView, tree_at, Stands}
use Rattle.formula_tree.specs.Formulas.{Form}
use Rattle.lf_terms.specs.Encoding.{form_encoding}
use Rattle.prover_ids.specs.declared.hypotheses.Hypothesis.{Hypothesis}
use Rattle.prover_ids.specs.Hypotheses.{AreHyps}
use Rattle.lf_terms.specs.ProofTerms.{AForm, AAll, rule_proof}
use Rattle.prover_class.specs.Hypotheses.{Hyps, raised_hyps}
use Rattle.prover_class.specs.Goals.{Prover, by_shape}
use Rattle.prover_goals.specs.Provers.{whole_proof}

-- by the goal's shape, its parts again by whole searches
abbrev pub shape_proof : Prover → Prover
shape_proof leaf = by_shape (whole_proof leaf) leaf

-- a connective of A and B by p, by the rule of that number
abbrev pub join_tree : ℕ → Form → Form → Tree → Tree
join_tree rule A B p = rule_proof rule (AForm A ∷ AForm B ∷ []) (p ∷ [])

-- a quantifier over B by p under its binder, by the rule of that number
abbrev pub over_tree : ℕ → Form → Tree → Tree
over_tree rule B p = rule_proof rule (AAll B ∷ []) (Lam p ∷ [])

-- the proof of a connective of whatever formulas the ids stand for, or none
abbrev pub IsJoinProof : Prover → TableView → TableView → List Hypothesis → ℕ → (Form → Form → Form) → ℕ → ℕ → Option ℕ → Type 0
IsJoinProof leaf t u hyps outside connective a b o =
    (Γ : Hyps) (A B : Form) → AreHyps t hyps Γ → tree_at t a ≡ form_encoding A → tree_at t b ≡ form_encoding B → Stands u (shape_proof leaf outside Γ (connective A B)) o

-- the proof of a quantifier over whatever formula the id stands for, or none
abbrev pub IsOverProof : Prover → TableView → TableView → List Hypothesis → ℕ → ℕ → ℕ → Option ℕ → Type 0
IsOverProof leaf t u hyps outside rule b o =
    (Γ : Hyps) (B : Form) → AreHyps t hyps Γ → tree_at t b ≡ form_encoding B → Stands u (option_map (over_tree rule B) (whole_proof leaf (suc outside) (raised_hyps Γ) B)) o
