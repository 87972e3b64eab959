-- What `prove` makes of a program's container.
use Rattle.std.proofs.Common.{◌≡◌, ℕ, ◌≤◌, ◌^◌, ◌-◌, min, cond, le-ltb, List, ◌∷◌, length, map, Option, Some, None, Ok, refl, sym, ap, ◌∙◌, subst, arith, false}
use Rattle.std.proofs.lemmas.Option.{same_Some}
use Rattle.alpha_cfg.proofs.Readings.{decoded_code-ok}
use Rattle.policy_set.specs.declared.kind.PolicyKind.TheVariants.{Filter}
use Rattle.policy_set.specs.Views.{built_in}
use Rattle.term_table.specs.Tree.{Tree}
use Rattle.term_table.specs.Measures.{height_of, weight_of, capped}
use Rattle.lf_signature.specs.declared.editions.WordSignature.TheVariants.{Sigma1}
use Rattle.lf_signature.specs.Constants.{places_of}
use Rattle.proof_container.specs.Contents.{Contents, roots}
use Rattle.proof_container.specs.Encoding.{encoding_of}
use Rattle.proof_container.specs.Postorder.{entries}
use Rattle.proof_container.specs.declared.limits.TheConstants.{MAX_BYTES, MAX_ENTRIES}
use Rattle.proof_container.proofs.Whole.{container_again}
use Rattle.vcgen.specs.Conditions.{entry_part, inv_part}
use Rattle.vcgen.specs.Encoded.{annotated}
use Rattle.vcgen.specs.declared.condition.TheConstants.{MAX_HEIGHT}
use Rattle.prover_class.specs.Parts.{condition_proof}
use Rattle.pcc_gate.specs.First.{lemma_refusal}
use Rattle.pcc_gate.specs.Answers.{HasGoodLemmas}
use Rattle.pcc_gate.specs.Passing.{Passes}
use Rattle.pcc_gate.specs.declared.limits.TheConstants.{MAX_WEIGHT}
use Rattle.pcc_gate.proofs.Exactly.{good-none}
use Rattle.bounds_prover.specs.declared.fault.Measure.{Measure}
use Rattle.bounds_prover.specs.declared.fault.Measure.TheVariants.{Weight, Height, Entries, Bytes}
use Rattle.bounds_prover.specs.declared.fault.ProveFlaw.{ProveFlaw}
use Rattle.bounds_prover.specs.declared.fault.ProveFlaw.TheVariants.{TooBig}
use Rattle.prover_conditions.specs.Conditions.{condition_parts}
use Rattle.bounds_prover.specs.Proving.{with_proof, within, whole_weight, excess, encoded_unless, with_parts_proof, proved_contents, proved_code, proved_read, made_unless, proved_container}
use Rattle.bpf_words.specs.declared.insn.Bpf.{Bpf}
use Rattle.bpf_words.specs.Programs.{IsProgram}
use Rattle.bpf_code.specs.Blocks.{bpf_code}
use Rattle.bpf_code.proofs.Shapes.{code-is}
use Rattle.bpf_condition.specs.Invariants.{bpf_invariants}
use Rattle.bpf_condition.specs.Condition.{bpf_flags, bpf_parts, HasClassProof}
use Rattle.bpf_condition.proofs.Whole.{program-easy, program-proved}
use Rattle.bpf_condition.proofs.Bounded.{proof-few}
use Rattle.bpf_compile.specs.Contents.{AreCodeBytes, invariant_terms, bpf_contents}
use Rattle.bpf_compile.proofs.Known.{all-invariants, formulas-again, terms_of}
use Rattle.bpf_compile.proofs.Sizes.{held_terms, held-parts, held-few, terms-listed, bytes-few}
use Rattle.bpf_compile.proofs.Passing.{head-is, invs-long, code-long, plain-passes}
use Rattle.word_ops.specs.declared.Profile.TheVariants.{One}

-- ---- measures

-- a number within its limit lets the next be tried
goes-on : (m : Measure) (limit n shown : ℕ) (next : Option ProveFlaw) → n ≤ limit → within m limit n shown next ≡ next
goes-on m limit n shown next h = ap (λ b. cond b (Some (TooBig m shown)) next) (le-ltb limit n h)

nothing-past : (c : Contents) (p : Tree) → whole_weight c p ≤ MAX_WEIGHT → height_of p ≤ MAX_HEIGHT
    → length (entries (roots c)) ≤ MAX_ENTRIES → length (encoding_of c) ≤ MAX_BYTES → excess c p ≡ None
unfolding excess
nothing-past c p light low few short =
    goes-on Weight MAX_WEIGHT (whole_weight c p) (capped (whole_weight c p)) _ light
    ∙ goes-on Height MAX_HEIGHT (height_of p) (capped (height_of p)) _ low
    ∙ goes-on Entries MAX_ENTRIES (length (entries (roots c))) (length (entries (roots c))) _ few
    ∙ goes-on Bytes MAX_BYTES (length (encoding_of c)) (min (length (encoding_of c)) (2 ^ 64 - 1)) None short

-- ---- the proof

-- what is asked of the class's proof of a program's condition
pub record IsClassProof (program : List Bpf) (p : Tree) : Type 0 where
  pub light : weight_of (places_of Sigma1) p ≤ MAX_WEIGHT
  pub low : height_of p ≤ MAX_HEIGHT

pub class-proof : (program : List Bpf) (p : Tree) → IsProgram program → condition_proof false (bpf_parts program) ≡ Some p → IsClassProof program p
class-proof program p is given =
    let easy : HasClassProof program = program-proved program is in
    let same : easy.proof ≡ p = same_Some easy.proof p (sym easy.given ∙ given) in
    let weight = easy.weight in
    let height = easy.height in
    let few = is.few in
    subst (IsClassProof program) same (record { light = omega (arith, weight, few); low = omega (arith, height, few) })

-- ---- what is made

-- there are no lemmas
no-lemmas-good : (program : List Bpf) (code : List ℕ) → HasGoodLemmas (bpf_contents program code)
no-lemmas-good program code = record { weight = omega arith; proved = λ n l e. cc }

module _ (program : List Bpf) (code : List ℕ) (is : IsProgram program) (holds : AreCodeBytes program code) where
  parts-are : condition_parts (built_in Filter) None (bpf_code program) (invariant_terms program)
      ≡ bpf_parts program
  unfolding condition_parts
  parts-are =
      ap
      (λ invs. entry_part (annotated (built_in Filter) None (bpf_code program) invs) ∷ map
      (inv_part (annotated (built_in Filter) None (bpf_code program) invs)) invs)
      (formulas-again (bpf_invariants program) (all-invariants program))

  -- none of the clauses tried fails, so it is made of the contents
  contents-made : proved_container (built_in Filter) (encoding_of (bpf_contents program code))
      ≡ proved_contents (bpf_contents program code) (bpf_parts program)
  unfolding proved_container
  contents-made =
      let c : Contents = bpf_contents program code in
      let bytes : List ℕ = encoding_of c in
      let passes : Passes (built_in Filter) bytes c (bpf_code program) (bpf_flags program) =
      plain-passes program code is holds in
      let none : lemma_refusal (built_in Filter) bytes ≡ None =
      good-none (built_in Filter) bytes c (bpf_code program) (bpf_flags program) passes
      (no-lemmas-good program code) in
      (λ i. made_unless (none i)
      (proved_read (built_in Filter) (container_again bytes c passes.has.container i)))
      ∙ ap (proved_code (built_in Filter) c)
      (sym (decoded_code-ok One code (bpf_code program) holds.encode (code-is program is)))
      ∙ ap (proved_contents c) parts-are

  module _ (p : Tree) (given : condition_proof false (bpf_parts program) ≡ Some p) where
    pub entries-few : length (entries (roots (with_proof (bpf_contents program code) p))) ≤ 150000
    entries-few =
        let few = proof-few program p held_terms (terms_of (bpf_invariants program)) is given held-parts (terms-listed program) in
        let held = held-few in
        omega (arith, few, held)

    bytes-short : length (encoding_of (with_proof (bpf_contents program code) p)) ≤ MAX_BYTES
    bytes-short =
        let long = code-long program in
        let size = holds.encode.whole in
        let invs = invs-long program is in
        let few = is.few in
        bytes-few (with_proof (bpf_contents program code) p) head-is refl entries-few
        (omega (arith, invs, few)) (omega (arith, size, long, few))

    within-limits : excess (with_proof (bpf_contents program code) p) p ≡ None
    within-limits =
        let easy : IsClassProof program p = class-proof program p is given in
        let light = easy.light in
        let few = entries-few in
        nothing-past (with_proof (bpf_contents program code) p) p (omega (arith, light)) easy.low
        (omega (arith, few)) bytes-short

    proof-put : proved_contents (bpf_contents program code) (bpf_parts program)
        ≡ encoded_unless (excess (with_proof (bpf_contents program code) p) p) (with_proof (bpf_contents program code) p)
    unfolding proved_contents
    proof-put = let easy = program-easy program 0 is in λ i. with_parts_proof (bpf_contents program code) (easy i) (given i)

    pub container-made : proved_container (built_in Filter)
        (encoding_of (bpf_contents program code))
        ≡ Ok (encoding_of (with_proof (bpf_contents program code) p))
    container-made = contents-made ∙ proof-put ∙ ap (λ o. encoded_unless o (with_proof (bpf_contents program code) p)) within-limits
