-- A condition and its proof: one part after another.
--
-- The class goes by whether steps are counted: then the rule for differences is among the rules, and
-- the outermost binder of each part is that of the steps that are left.
use Rattle.std.specs.Prelude.{ℕ, suc, Bool, true, false, Option, Some, None, List, [], ◌∷◌}
use Rattle.std.specs.Option.{option_map}
use Rattle.term_table.specs.Tree.{Tree}
use Rattle.term_table.specs.Subst.{bind}
use Rattle.formula_tree.specs.Formulas.{Form, FTrue, FAnd}
use Rattle.lf_terms.specs.ProofTerms.{tt_i, and_i}
use Rattle.prover_class.specs.Goals.{levels, goal_proof}
use Rattle.prover_class.specs.Access.{by_all_means}

-- the parts, one after another, ended by truth
abbrev pub conjoined : List Form → Form
conjoined [] = FTrue
conjoined (A ∷ l) = FAnd A (conjoined l)

-- How many binders are counted outside a part that aren't there: none if steps are counted, else one, for the binder
-- of the remaining steps. So r0 is the third outermost variable of every part.
abbrev pub outside_part : Bool → ℕ
outside_part true = 0
outside_part false = 1

-- the proof of a part from no hypotheses: the part is easy where there is one
abbrev pub part_proof : Bool → Form → Option Tree
part_proof counted A = goal_proof (by_all_means counted) (levels A) (outside_part counted) [] A

-- the proof of all parts
abbrev pub condition_proof : Bool → List Form → Option Tree
condition_proof counted [] = Some tt_i
condition_proof counted (A ∷ l) =
    bind (part_proof counted A)
    (λ p. option_map (and_i A (conjoined l) p) (condition_proof counted l))

-- the first part that isn't easy, counted from n
abbrev pub refused_at : ℕ → Option Tree → Option ℕ → Option ℕ
refused_at n (Some p) rest = rest
refused_at n None rest = Some n

-- the number of the first part without a proof, where the list begins at n
abbrev pub first_not_easy : Bool → ℕ → List Form → Option ℕ
first_not_easy counted n [] = None
first_not_easy counted n (A ∷ l) =
    refused_at n (part_proof counted A) (first_not_easy counted (suc n) l)
