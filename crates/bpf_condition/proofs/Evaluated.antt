-- The class proves each of the parts that conditions of programs have, and all of them together, by proofs that are neither heavy nor high.
use Rattle.std.proofs.Common.{◌≡◌, ℕ, zero, suc, ◌+◌, ◌*◌, ◌<◌, ◌≤◌, Bool, true, false, List, [], ◌∷◌, length, slice_index_or, Option, Some, None, refl, ap, ◌∙◌, subst, arith}
use Rattle.std.specs.Prelude.{nat_le, ◌&&◌, Contains}
use Rattle.std.specs.Option.{option_map}
use Rattle.std.specs.List.{AllByRecursion}
use Rattle.std.proofs.lemmas.Bool.{and_parts, leb-true}
use Rattle.formula_tree.specs.Formulas.{Form}
use Rattle.term_table.specs.Tree.{Tree}
use Rattle.term_table.specs.Subst.{bind}
use Rattle.term_table.specs.Measures.{weight_of, height_of}
use Rattle.lf_signature.specs.declared.editions.WordSignature.TheVariants.{Sigma1}
use Rattle.lf_signature.specs.Constants.{places_of}
use Rattle.lf_terms.specs.Encoding.{form_encoding}
use Rattle.lf_terms.specs.ProofTerms.{tt_i, and_i}
use Rattle.lf_encode.specs.Contexts.{machine_names}
use Rattle.prover_class.specs.NormalForms.{normalized}
use Rattle.prover_class.specs.Parts.{part_proof, conjoined, condition_proof, first_not_easy, refused_at}
use Rattle.bpf_condition.specs.PartForms.{part_forms}

-- ---- light parts

-- whether a proof weighs at most 250 and is at most 100 high, and the part's encoding no higher
abbrev light_by : Form → Option Tree → Bool
light_by A None = false
light_by A (Some p) = nat_le (weight_of (places_of Sigma1) p) 250 && (nat_le (height_of p) 100 && nat_le (height_of (form_encoding A)) 100)

-- whether the class's proof of the part is so
unfoldable pub is_light : Form → Bool
is_light A = light_by A (part_proof false A)

-- the class proves the part, and its proof is so
abbrev pub IsLight : Form → Type 0
IsLight A = is_light A ≡ true

-- what that says
pub record LightProof (A : Form) : Type 0 where
  pub proof : Tree
  pub given : part_proof false A ≡ Some proof
  pub weight : weight_of (places_of Sigma1) proof ≤ 250
  pub height : height_of proof ≤ 100
  pub formula : height_of (form_encoding A) ≤ 100

light-by : (A : Form) (o : Option Tree) → part_proof false A ≡ o → light_by A o ≡ true → LightProof A
light-by A None e h = cc
light-by A (Some p) e h =
    let parts = and_parts (nat_le (weight_of (places_of Sigma1) p) 250) (nat_le (height_of p) 100 && nat_le (height_of (form_encoding A)) 100) h in
    let heights = and_parts (nat_le (height_of p) 100) (nat_le (height_of (form_encoding A)) 100) parts.1 in
    record {
      proof = p;
      given = e;
      weight = leb-true (weight_of (places_of Sigma1) p) 250 parts.0;
      height = leb-true (height_of p) 100 heights.0;
      formula = leb-true (height_of (form_encoding A)) 100 heights.1;
    }

pub light-proof : (A : Form) → IsLight A → LightProof A
unfolding is_light
light-proof A h = light-by A (part_proof false A) refl h

-- ---- the parts of the conditions of programs

part_forms-light : AllByRecursion IsLight part_forms
unfolding is_light normalized machine_names
part_forms-light =
    (refl, (refl, (refl, (refl, (refl, (refl, (refl, (refl, (refl, (refl, (refl, (refl, (refl, (refl, (refl, (refl, (refl, (refl, (refl, (refl, (refl, (refl, tt))))))))))))))))))))))

-- one of these
abbrev pub IsPartForm : Form → Type 0
IsPartForm A = Contains part_forms A

each-contained : (l : List Form) → AllByRecursion IsLight l → (A : Form) (k : ℕ) → k < length l → slice_index_or l k A ≡ A → IsLight A
each-contained [] h A k lt e = absurd (omega (arith, lt))
each-contained (B ∷ l) h A zero lt e = let same : B ≡ A = e in subst IsLight same h.0
each-contained (B ∷ l) h A (suc k) lt e = each-contained l h.1 A k (omega (arith, lt)) e

pub part-proof : (A : Form) → IsPartForm A → LightProof A
part-proof A h = light-proof A (each-contained part_forms part_forms-light A h.0 h.1 h.2)

-- ---- one proof of all parts

-- the class proves all of these, by a proof that is neither heavy nor high
pub record AreProved (parts : List Form) : Type 0 where
  pub proof : Tree
  pub given : condition_proof false parts ≡ Some proof
  pub weight : weight_of (places_of Sigma1) proof ≤ 1 + 253 * length parts
  pub height : height_of proof ≤ 108 + 4 * length parts
  pub formula : height_of (form_encoding (conjoined parts)) ≤ 102 + 2 * length parts

pub parts-proved : (parts : List Form) → AllByRecursion IsPartForm parts → AreProved parts
parts-proved [] h = record { proof = tt_i; given = refl; weight = omega arith; height = omega arith; formula = omega arith }
parts-proved (A ∷ l) h =
    let first : LightProof A = part-proof A h.0 in
    let rest : AreProved l = parts-proved l h.1 in
    let p : Tree = first.proof in
    let light = first.weight in
    let low = first.height in
    let formula = first.formula in
    let weight = rest.weight in
    let height = rest.height in
    let formulas = rest.formula in
    record {
      proof = and_i A (conjoined l) p rest.proof;
      given = ap (λ o. bind o (λ p. option_map (and_i A (conjoined l) p) (condition_proof false l))) first.given
          ∙ ap (λ o. option_map (and_i A (conjoined l) p) o) rest.given;
      weight = omega (arith, light, weight);
      height = omega (arith, formula, formulas, low, height);
      formula = omega (arith, formula, formulas);
    }

pub none-refused : (n : ℕ) (parts : List Form) → AllByRecursion IsPartForm parts → first_not_easy false n parts ≡ None
none-refused n [] h = refl
none-refused n (A ∷ l) h = ap (λ o. refused_at n o (first_not_easy false (suc n) l)) (part-proof A h.0).given ∙ none-refused (suc n) l h.1
