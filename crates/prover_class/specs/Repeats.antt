-- The search with its way of adding hypotheses as a parameter; all else is the search as it is.
use Rattle.std.specs.Prelude.{ℕ, zero, suc, Bool, Option, None, [], ◌++◌}
use Rattle.std.specs.Option.{option_map}
use Rattle.term_table.specs.Tree.{Tree, Var}
use Rattle.formula_tree.specs.Formulas.{Form, FImp, shift_form}
use Rattle.lf_terms.specs.ProofTerms.{ff_e, imp_i}
use Rattle.prover_class.specs.Hypotheses.{Hyps, find_hyp, raised_hyps, split_hyps}
use Rattle.prover_class.specs.Goals.{first_of, absurdity, levels, Prover, by_shape, by_words_alone}
use Rattle.prover_class.specs.Access.{by_access}
use Rattle.prover_class.specs.Parts.{outside_part}

-- a way of adding hypotheses to those that there are
abbrev pub Adding : Type 0
Adding = Hyps → Hyps → Hyps

-- all of them at the end, also those whose formula is a hypothesis already
abbrev pub with_repeats : Adding
with_repeats Γ l = Γ ++ l

-- by the goal's shape, where an implication adds its hypotheses this way
abbrev pub by_shape_adding : Adding → Prover → Prover → Prover
by_shape_adding add again leaf out Γ (FImp A B) =
    option_map (imp_i A B) (again (suc out) (add (raised_hyps Γ) (split_hyps (shift_form 1 0 A) (Var 0))) (shift_form 1 0 B))
by_shape_adding add again leaf out Γ A = by_shape again leaf out Γ A

-- the proof of a goal by this search; n bounds the connectives in one another
abbrev pub goal_proof_adding : Adding → Prover → ℕ → Prover
goal_proof_adding add leaf zero out Γ A = None
goal_proof_adding add leaf (suc n) out Γ A =
    first_of (find_hyp Γ A) (first_of (option_map (ff_e A) (absurdity Γ)) (by_shape_adding add (goal_proof_adding add leaf n) leaf out Γ A))

-- this search without access
abbrev pub without_access_adding : Adding → Bool → Prover
without_access_adding add counted out Γ A =
    goal_proof_adding add (by_words_alone counted) (levels A) out Γ A

-- all that proves goals without parts, where premises of access are proved by this search
abbrev pub by_all_means_adding : Adding → Bool → Prover
by_all_means_adding add counted out Γ A =
    first_of (by_words_alone counted out Γ A) (by_access (without_access_adding add counted) out Γ A)

-- the proof of a part by this search, from no hypotheses
abbrev pub part_proof_adding : Adding → Bool → Form → Option Tree
part_proof_adding add counted A =
    goal_proof_adding add (by_all_means_adding add counted) (levels A) (outside_part counted) [] A
