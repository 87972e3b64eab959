-- The parts of the verification condition, and what is found of them.
use Rattle.std.specs.Prelude.{◌≡◌, ℕ, ◌≤◌, Bool, List, [], ◌∷◌, map, Option, Some}
use Rattle.alpha_words.specs.declared.insn.Insn.{Insn}
use Rattle.term_table.specs.Tree.{Tree}
use Rattle.term_table.specs.Table.{TableView, IsKnown, tree_at}
use Rattle.term_table.specs.Measures.{height_of}
use Rattle.lf_signature.specs.Constants.{declared}
use Rattle.lf_signature.specs.Terms.{pf}
use Rattle.lf_signature.specs.Typing.{Checks}
use Rattle.formula_tree.specs.Formulas.{Form}
use Rattle.lf_terms.specs.Encoding.{form_encoding}
use Rattle.policy_set.specs.Views.{PolicyView}
use Rattle.vcgen.specs.Conditions.{entry_part, inv_part}
use Rattle.vcgen.specs.Encoded.{annotated}
use Rattle.vcgen.specs.declared.condition.TheConstants.{MAX_HEIGHT}
use Rattle.pcc_gate.specs.First.{formulas}
use Rattle.prover_class.specs.Parts.{conjoined, condition_proof, first_not_easy}
use Rattle.prover_conditions.specs.declared.parts.ConditionProof.{ConditionProof}
use Rattle.prover_conditions.specs.declared.parts.ConditionProof.TheVariants.{Proved, NotEasy}
use Rattle.lf_signature.specs.declared.editions.WordSignature.{WordSignature}

-- the parts of the verification condition: the entry's, then each invariant's
unfoldable pub condition_parts : PolicyView → Option ℕ → List Insn → List (ℕ × Tree) → List Form
condition_parts policy bound code invs =
    let c = annotated policy bound code (formulas invs) in
    entry_part c ∷ map (inv_part c) c.invs

-- the proof's id is the table's
abbrev pub IsKnownAnswer : TableView → ConditionProof → Type 0
IsKnownAnswer t (Proved p) = IsKnown t p
IsKnownAnswer t (NotEasy k) = Unit {0}

-- the class's proof of the parts, or the number of the first that isn't easy, where their numbers
-- begin at n
abbrev pub IsPartsAnswer : TableView → Bool → ℕ → List Form → ConditionProof → Type 0
IsPartsAnswer t counted n l (Proved p) = condition_proof counted l ≡ Some (tree_at t p)
IsPartsAnswer t counted n l (NotEasy k) = first_not_easy counted n l ≡ Some k

-- over the signature the tree is a proof of the condition that has these parts, if it is no higher
-- than a container's terms may be
abbrev pub ProvesParts : WordSignature → List Form → Tree → Type 0
ProvesParts s l p =
    height_of p ≤ MAX_HEIGHT → Checks (declared s) [] p (pf (form_encoding (conjoined l)))

-- so is the proof that is found, if one is
abbrev pub IsProofOfParts : WordSignature → TableView → List Form → ConditionProof → Type 0
IsProofOfParts s t l (Proved p) = ProvesParts s l (tree_at t p)
IsProofOfParts s t l (NotEasy k) = Unit {0}
