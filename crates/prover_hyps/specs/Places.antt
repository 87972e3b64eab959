-- The proof that a list of hypotheses has of a formula, by ids.
use Rattle.std.specs.Prelude.{ℕ, ◌==◌, if◌then◌else◌, Option, Some, None, List, [], ◌∷◌}
use Rattle.prover_ids.specs.declared.hypotheses.Hypothesis.{Hypothesis}

-- the proof of the first hypothesis with this id as its formula
abbrev pub first_hyp_proof : List Hypothesis → ℕ → Option ℕ
first_hyp_proof [] form = None
first_hyp_proof (h ∷ l) form = if h.form == form then Some h.proof else first_hyp_proof l form
