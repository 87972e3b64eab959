-- What is made of a program's container is accepted, and gives the flags of the program's values.
use Rattle.std.proofs.Common.{◌≡◌, ℕ, suc, ◌≤◌, ◌^◌, zero, Bool, false, List, [], ◌∷◌, Some, None, Ok, refl, sym, ap, ◌∙◌, subst, arith}
use Rattle.std.specs.Prelude.{All}
use Rattle.alpha_words.specs.declared.insn.Insn.{Insn}
use Rattle.formula_tree.specs.Formulas.{Form}
use Rattle.formula_tree.specs.Scope.{IsOver}
use Rattle.formula_tree.specs.Sizes.{form_height}
use Rattle.lf_terms.specs.Encoding.{form_encoding}
use Rattle.policy_set.specs.declared.kind.PolicyKind.TheVariants.{Filter}
use Rattle.policy_set.specs.Views.{built_in}
use Rattle.term_table.specs.Tree.{Tree}
use Rattle.term_table.specs.Measures.{height_of}
use Rattle.lf_signature.specs.Constants.{declared}
use Rattle.lf_signature.specs.Terms.{pf}
use Rattle.lf_signature.specs.Typing.{Checks}
use Rattle.lf_signature.specs.Laws.Restricted.{checks_more}
use Rattle.lf_lemmas.specs.Lemmas.{with_lemmas}
use Rattle.lf_lemmas.specs.Laws.Lawful.{lemmas_keep}
use Rattle.packet_store.specs.Results.{packet_result}
use Rattle.proof_container.specs.Contents.{Contents}
use Rattle.proof_container.specs.Encoding.{encoding_of}
use Rattle.vcgen.specs.Conditions.{condition}
use Rattle.vcgen.specs.Encoded.{annotated, AreEncodings}
use Rattle.vcgen.specs.declared.condition.TheConstants.{MAX_HEIGHT}
use Rattle.vcgen.proofs.Scopes.{condition-closed}
use Rattle.prover_class.specs.Parts.{conjoined, condition_proof}
use Rattle.pcc_gate.specs.Accepted.{Accepts, IsAccepted}
use Rattle.pcc_gate.specs.First.{formulas, vc_of}
use Rattle.pcc_gate.specs.Refusals.{AreLow}
use Rattle.pcc_gate.specs.Passing.{Passes}
use Rattle.pcc_gate.proofs.Conditions.{vc_of-encodes}
use Rattle.pcc_gate.proofs.Exactly.{passed-one}
use Rattle.pcc_gate.proofs.ByClause.{from-proof}
use Rattle.pcc_gate.proofs.Safe.{formulas-over}
use Rattle.bounds_prover.specs.Proving.{proved_container, with_proof}
use Rattle.pcc_asm.specs.Words.{code_bytes}
use Rattle.pcc_asm.specs.Assembling.{plain_contents}
use Rattle.bpf_compile.proofs.Coded.{words-bytes, words-encode}
use Rattle.bpf_words.specs.declared.insn.Bpf.{Bpf}
use Rattle.bpf_words.specs.Programs.{IsProgram}
use Rattle.bpf_code.specs.Blocks.{bpf_code}
use Rattle.bpf_code.proofs.FilterStarts.{outcome}
use Rattle.bpf_code.proofs.Shapes.{code-is, code-first}
use Rattle.bpf_condition.specs.Invariants.{bpf_invariants}
use Rattle.bpf_condition.specs.Condition.{annotated_bpf, bpf_flags, bpf_parts, HasClassProof}
use Rattle.bpf_condition.proofs.Whole.{program-annotated, program-condition, program-proved}
use Rattle.bpf_compile.specs.Contents.{AreCodeBytes, invariant_terms, bpf_contents}
use Rattle.bpf_compile.specs.Compiled.{GivesFlags, IsCompiled}
use Rattle.prover_conditions.proofs.Heights.{form-low}
use Rattle.prover_conditions.proofs.WholeProof.{IsSoundClass, uncounted}
use Rattle.bounds_prover.proofs.SmallTerms.{checks-small, checks-entry}
use Rattle.bpf_compile.proofs.Known.{AreInvariants, inv_encodings, all-invariants, are-forms, formulas-again}
use Rattle.bpf_compile.proofs.Passing.{IsFit, contents-pass}
use Rattle.bpf_compile.proofs.Proved.{IsClassProof, class-proof, entries-few, container-made}
use Rattle.lf_signature.specs.declared.editions.WordSignature.TheVariants.{Sigma1}
use Rattle.formula_tree.specs.Operators.{Uses}
use Rattle.formula_tree.proofs.Used.{uses-more}
use Rattle.lf_signature.specs.Known.{HasOp}
use Rattle.lf_signature.specs.Laws.Within.{first-declared}
use Rattle.std.proofs.lemmas.List.Elements.{All-nil, All-cons}
use Rattle.policy_set.proofs.Closed.{pre-first, post-first}
use Rattle.vcgen.proofs.Used.{profile-operators, condition-uses}
use Rattle.word_ops.specs.Operators.{IsFirstOp}
use Rattle.word_ops.specs.declared.Profile.TheVariants.{One}

-- ---- the condition

encode-invariants : (invs : List (ℕ × Form)) → AreInvariants invs → AreEncodings None (inv_encodings invs) invs
encode-invariants [] h = tt
encode-invariants (q ∷ invs) h = (refl, h.0.over, encode-invariants invs h.1)

invariants-first : (invs : List (ℕ × Form)) → AreInvariants invs
    → All (λ (q : ℕ × Form). Uses IsFirstOp q.1) invs
invariants-first [] h = All-nil (λ (q : ℕ × Form). Uses IsFirstOp q.1)
invariants-first (q ∷ invs) h =
    All-cons (λ (q : ℕ × Form). Uses IsFirstOp q.1) q invs h.0.first (invariants-first invs h.1)

invariants-over : (program : List Bpf) → All (λ (q : ℕ × Form). IsOver 31 q.1 []) (bpf_invariants program)
invariants-over program =
    formulas-over None (inv_encodings (bpf_invariants program)) (bpf_invariants program) (encode-invariants (bpf_invariants program) (all-invariants program))

parts-closed : (program : List Bpf) → IsProgram program → IsOver 0 (conjoined (bpf_parts program)) []
parts-closed program is = subst (λ F. IsOver 0 F []) (sym (program-condition program))
    (condition-closed (annotated_bpf program) (program-annotated program is) (invariants-over program))

parts-used : (program : List Bpf) → IsProgram program
    → Uses (HasOp (declared Sigma1)) (conjoined (bpf_parts program))
parts-used program is =
    uses-more IsFirstOp (HasOp (declared Sigma1)) first-declared (conjoined (bpf_parts program))
    (subst (λ F. Uses IsFirstOp F) (sym (program-condition program))
    (condition-uses IsFirstOp refl refl refl (annotated_bpf program)
    (profile-operators One (bpf_code program) (code-first program is)) (pre-first Filter)
    (post-first Filter) (invariants-first (bpf_invariants program) (all-invariants program))))

parts-low : (program : List Bpf) → IsProgram program → form_height (conjoined (bpf_parts program)) ≤ 2 ^ 29
parts-low program is =
    let easy : HasClassProof program = program-proved program is in
    let low = form-low (conjoined (bpf_parts program)) in
    let height = easy.formula in
    let few = is.few in
    omega (arith, low, height, few)

-- ---- the proof

one-low : (p : Tree) → height_of p ≤ MAX_HEIGHT → AreLow (p ∷ [])
one-low p low zero d lt = low
one-low p low (suc k) d lt = absurd (omega (arith, lt))

module _ (sound : IsSoundClass) (program : List Bpf) (code : List ℕ) (is : IsProgram program) (holds : AreCodeBytes program code)
    (p : Tree) (given : condition_proof false (bpf_parts program) ≡ Some p) where
  proof-checks : Checks (declared Sigma1) [] p (pf (form_encoding (conjoined (bpf_parts program))))
  proof-checks =
      sound Sigma1 false (bpf_parts program) p (uncounted None refl Sigma1)
      (parts-closed program is) (parts-used program is) (parts-low program is) given

  proof-fits : IsFit program code (Some p)
  proof-fits =
      let easy : IsClassProof program p = class-proof program p is given in
      let low = easy.low in
      record {
        terms = (
          checks-entry Sigma1 1 proof-checks,
          checks-small Sigma1 proof-checks
              (omega (arith, low)),
          tt,
        );
        low = one-low p easy.low;
        few = entries-few program code is holds p given;
      }

  -- the bytes that are made
  abbrev made : List ℕ
  made = encoding_of (with_proof (bpf_contents program code) p)

  made-passes : Passes (built_in Filter) made (with_proof (bpf_contents program code) p)
      (bpf_code program) (bpf_flags program)
  made-passes = contents-pass program code is holds (Some p) proof-fits

  parts-are-condition : conjoined (bpf_parts program)
      ≡ condition
      (annotated (built_in Filter) None (bpf_code program) (formulas (invariant_terms program)))
  parts-are-condition = program-condition program
      ∙ ap (λ invs. condition (annotated (built_in Filter) None (bpf_code program) invs))
      (sym (formulas-again (bpf_invariants program) (all-invariants program)))

  -- over a signature with no lemmas it checks as well
  with-none : {F : Tree} → Checks (declared Sigma1) [] p F
      → Checks (with_lemmas (declared Sigma1) []) [] p F
  with-none h =
      checks_more (declared Sigma1) (with_lemmas (declared Sigma1) [])
      (lemmas_keep (declared Sigma1) (λ n. refl) [] (λ n F e. cc)) h

  made-accepts : Accepts (built_in Filter) made (with_proof (bpf_contents program code) p)
      (bpf_code program) (bpf_flags program)
  made-accepts =
      let easy : IsClassProof program p = class-proof program p is given in
      let light = easy.light in
      from-proof made-passes (record {
        proof = p;
        vc = vc_of (built_in Filter) None (bpf_code program) (invariant_terms program);
        given = refl;
        weight = omega (arith, light);
        lemmas = λ n l e. cc;
        condition =
            vc_of-encodes Sigma1 (built_in Filter) None (bpf_code program) (invariant_terms program)
            (are-forms (bpf_invariants program) (all-invariants program));
        proved =
            with-none
            (subst (λ F. Checks (declared Sigma1) [] p (pf (form_encoding F))) parts-are-condition
            proof-checks);
      })

  pub made-accepted : IsAccepted (built_in Filter) made
  made-accepted = record { contents = with_proof (bpf_contents program code) p; code = bpf_code program; marks = bpf_flags program; accepts = made-accepts }

  -- whatever code it is accepted with is the program's
  code-one : (contents : Contents) (insns : List Insn) (marks : List Bool)
      → Accepts (built_in Filter) made contents insns marks → bpf_code program ≡ insns
  code-one contents insns marks h =
      (passed-one (built_in Filter) made (with_proof (bpf_contents program code) p) contents
      (bpf_code program) insns (bpf_flags program) marks
      made-passes h.passes).1

  made-flags : (contents : Contents) (insns : List Insn) (marks : List Bool)
      → Accepts (built_in Filter) made contents insns marks → GivesFlags program insns
  made-flags contents insns marks h packet budget fits long enough =
      ap (λ l. packet_result (built_in Filter) l budget packet)
      (sym (code-one contents insns marks h))
      ∙ outcome program packet budget is fits long enough

  pub made-compiled : IsCompiled program made
  made-compiled = record { accepted = made-accepted; flags = made-flags }

-- of each program some bytes are made, and they are all this
pub container-compiles : IsSoundClass → (program : List Bpf) (code : List ℕ) → IsProgram program → AreCodeBytes program code
    → (out : List ℕ)
    × (proved_container (built_in Filter) (encoding_of (bpf_contents program code)) ≡ Ok out)
    × IsCompiled program out
container-compiles sound program code is holds =
    let easy : HasClassProof program = program-proved program is in (
      encoding_of (with_proof (bpf_contents program code) easy.proof),
      container-made program code is holds easy.proof easy.given,
      made-compiled sound program code is holds easy.proof easy.given,
    )

-- so they are with the bytes that the assembler writes
pub plain-compiles : IsSoundClass → (program : List Bpf) → IsProgram program
    → (out : List ℕ)
    × (proved_container (built_in Filter)
    (encoding_of (plain_contents 1 None (built_in Filter) (bpf_invariants program) (bpf_code program)))
    ≡ Ok out)
    × IsCompiled program out
plain-compiles sound program is =
    let words : List ℕ = code_bytes (bpf_code program) in
    container-compiles sound program words is (record { bytes = words-bytes (bpf_code program); encode = words-encode One (bpf_code program) (code-is program is) (code-first program is) })
