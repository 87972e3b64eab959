-- The verification condition of a program's code, part by part, and the class's proof of it.
use Rattle.std.specs.Prelude.{◌≡◌, ℕ, ◌+◌, ◌*◌, ◌≤◌, Bool, false, List, ◌∷◌, length, map, Some, None}
use Rattle.alpha_cfg.specs.Deciding.{flags_of}
use Rattle.formula_tree.specs.Formulas.{Form}
use Rattle.term_table.specs.Tree.{Tree}
use Rattle.term_table.specs.Measures.{weight_of, height_of}
use Rattle.lf_signature.specs.declared.editions.WordSignature.TheVariants.{Sigma1}
use Rattle.lf_signature.specs.Constants.{places_of}
use Rattle.lf_terms.specs.Encoding.{form_encoding}
use Rattle.policy_set.specs.declared.kind.PolicyKind.TheVariants.{Filter}
use Rattle.policy_set.specs.Views.{built_in}
use Rattle.vcgen.specs.Conditions.{AnnotatedCode, entry_part, inv_part}
use Rattle.vcgen.specs.Encoded.{annotated}
use Rattle.prover_class.specs.Parts.{conjoined, condition_proof}
use Rattle.bpf_words.specs.declared.insn.Bpf.{Bpf}
use Rattle.bpf_code.specs.Blocks.{bpf_code}
use Rattle.bpf_condition.specs.Invariants.{bpf_invariants, annotated_words}

-- the code of a program with its invariants, under `filter`
abbrev pub annotated_bpf : List Bpf → AnnotatedCode
annotated_bpf program = annotated (built_in Filter) None (bpf_code program) (bpf_invariants program)

-- a flag for each word of the code, set where it has an invariant
abbrev pub bpf_flags : List Bpf → List Bool
bpf_flags program = flags_of (annotated_words program) (length (bpf_code program))

-- the parts of the condition: the start's, then each invariant's
abbrev pub bpf_parts : List Bpf → List Form
bpf_parts program = entry_part (annotated_bpf program) ∷ map (inv_part (annotated_bpf program)) (bpf_invariants program)

-- what the proof for n instructions weighs at most: 20,494 for forty
abbrev pub most_weight : ℕ → ℕ
most_weight n = 254 + 506 * n

-- how high it is at most: 432 for forty
abbrev pub most_height : ℕ → ℕ
most_height n = 112 + 8 * n

-- The class proves all parts, by a proof that is neither heavier nor higher than this; the condition's encoding isn't higher either.
pub record HasClassProof (program : List Bpf) : Type 0 where
  pub proof : Tree
  pub given : condition_proof false (bpf_parts program) ≡ Some proof
  pub weight : weight_of (places_of Sigma1) proof ≤ most_weight (length program)
  pub height : height_of proof ≤ most_height (length program)
  pub formula : height_of (form_encoding (conjoined (bpf_parts program))) ≤ most_height (length program)
