-- What a search answers.
use Rattle.std.specs.Prelude.{◌≡◌, ℕ, Bool, true, false, if◌then◌else◌, Option, List}
use Rattle.term_table.specs.Table.{TableView, tree_at, Stands}
use Rattle.formula_tree.specs.Formulas.{Form}
use Rattle.lf_terms.specs.Encoding.{form_encoding}
use Rattle.prover_ids.specs.declared.hypotheses.Hypothesis.{Hypothesis}
use Rattle.prover_ids.specs.Hypotheses.{AreHyps}
use Rattle.prover_class.specs.Hypotheses.{Hyps}
use Rattle.prover_class.specs.Goals.{Prover, levels, goal_proof, by_words_alone}
use Rattle.prover_class.specs.Access.{by_all_means}
use Rattle.prover_goals.specs.declared.answers.Means.{Means}

-- a goal's proof in as many rounds as it has levels
abbrev pub whole_proof : Prover → Prover
whole_proof leaf out Γ A = goal_proof leaf (levels A) out Γ A

-- words alone
abbrev pub words_alone : Bool → Means
words_alone counted = record { access = false; counted = counted }

-- words, and access to memory by hypotheses
abbrev pub all_means : Bool → Means
all_means counted = record { access = true; counted = counted }

-- what proves goals without a connective by these means
abbrev pub prover_of : Means → Prover
prover_of m = if m.access then by_all_means m.counted else by_words_alone m.counted

-- in the later table the id, or none, stands for what the prover gives, or none, for whatever hypotheses and goal the ids of the earlier one stand for
abbrev pub IsProofBy : Prover → TableView → TableView → List Hypothesis → ℕ → ℕ → Option ℕ → Type 0
IsProofBy prover t u hyps outside goal o = (Γ : Hyps) (A : Form) → AreHyps t hyps Γ → tree_at t goal ≡ form_encoding A → Stands u (prover outside Γ A) o
