-- Each clause of the gate is decided by what is found of it, in their order.
use Rattle.std.proofs.Common.{◌≡◌, ℕ, ◌⊎◌, inl, inr, Bool, List, [], ◌∷◌, ◌++◌, map, length, Option, Some, None, Result, Ok, Err, refl, sym, ◌∙◌, ap, subst}
use Rattle.std.specs.Option.{option_map}
use Rattle.std.proofs.lemmas.Option.{same_Some, none-some}
use Rattle.word_ops.specs.declared.Profile.{Profile}
use Rattle.word_ops.specs.Tests.{TestFor}
use Rattle.alpha_words.specs.declared.insn.Insn.{Insn}
use Rattle.alpha_cfg.specs.declared.fault.CodeFlaw.{CodeFlaw}
use Rattle.alpha_cfg.specs.declared.fault.CodeFault.TheVariants as fault
use Rattle.alpha_cfg.specs.CodeBytes.{EncodesCode, IsFlaw}
use Rattle.alpha_cfg.specs.CodeDecoding.{decoded_code}
use Rattle.alpha_cfg.specs.Flow.{IsCode}
use Rattle.alpha_cfg.specs.Cuts.{AreFlags, IsCut, IsUncut, unfolded_of}
use Rattle.alpha_cfg.specs.Deciding.{uncut_of}
use Rattle.alpha_cfg.proofs.Readings.{decoded_code-ok, IsDecoded-IsCodeAnswer}
use Rattle.alpha_cfg.proofs.Deciding.{flags_only, uncut_some, uncut_none, cut_none, uncut_is}
use Rattle.policy_set.specs.Views.{PolicyView}
use Rattle.term_table.specs.Tree.{Tree}
use Rattle.term_table.specs.Bytes.{IsBytes}
use Rattle.term_table.specs.Measures.{capped}
use Rattle.lf_signature.specs.declared.editions.WordSignature.{WordSignature}
use Rattle.lf_signature.specs.Constants.{declared}
use Rattle.lf_lemmas.specs.Lemmas.{formulas_of, AreFormulas}
use Rattle.lf_lemmas.specs.Checking.{LemmasCheck}
use Rattle.proof_container.specs.Contents.{Contents, roots}
use Rattle.proof_container.specs.Decoding.{Fault, decoded_container}
use Rattle.proof_container.specs.declared.fault.Flaw.{Flaw}
use Rattle.proof_container.specs.declared.limits.TheConstants.{MAX_BYTES}
use Rattle.proof_container.specs.Encoding.{IsContents, EncodesContents}
use Rattle.proof_container.specs.FieldTests.{IsFirstFault}
use Rattle.proof_container.specs.Versions.{profile_of, signature_of}
use Rattle.proof_container.proofs.Whole.{container_takes, container_again, one_content}
use Rattle.proof_container.proofs.SharpTests.{fault-exactly}
use Rattle.vcgen.specs.declared.condition.TheConstants.{MAX_UNFOLDED}
use Rattle.vcgen.specs.Encoded.{AreForms}
use Rattle.pcc_gate.specs.declared.limits.TheConstants.{MAX_WEIGHT}
use Rattle.pcc_gate.specs.declared.refusal.Refusal.{Refusal}
use Rattle.pcc_gate.specs.declared.refusal.Refusal.TheVariants as refusal
use Rattle.pcc_gate.specs.ForPolicy.{IsFor, is_for}
use Rattle.pcc_gate.specs.Refusals.{AreLow, IsFirstHeight, IsFirstNoForm, IsFirstNoFormula, IsFirstUnproved}
use Rattle.pcc_gate.specs.Clauses.{clause, each, HasCode, ProvesCondition, of_contents, of_code, of_flags, of_proof, front_tests, proving_tests, lemma_tests, gate_tests}
use Rattle.pcc_gate.specs.First.{marks_of, vc_of, proves, refused_unless, height_found, form_found, formula_found, uncut_found, unproved_found, shape_found, from_code, from_contents, front_found, proof_found, after_front, lemmas_found}
use Rattle.pcc_gate.specs.Weights.{lemmas_weight, proof_weight}
use Rattle.pcc_gate.proofs.ForPolicy.{for-true, for-is}
use Rattle.pcc_gate.proofs.CodeBytes.{code_decided, code-one}
use Rattle.pcc_gate.proofs.Flags.{annotated_flags}
use Rattle.pcc_gate.proofs.Conditions.{vc_of-encodes, judged-true, proves-follows}
use Rattle.pcc_gate.proofs.Searches.{low_none, first_high, low_decided, forms_none, first_no_form, forms_decided, formulas_none, first_no_formula, formulas_decided, proved_none, first_no_proof, proofs_decided}
use Rattle.pcc_gate.proofs.Deciding.{Decides, AllDecide, limit-decides, unless-decides, clause-decides, each-decides}

-- ---- lists of tests without the first

abbrev pub after : {A : Type 1} → List A → List A
after [] = []
after (t ∷ ts) = ts

-- clauses 5 to 8, and others behind them
abbrev pub behind_read : PolicyView → List ℕ → List (TestFor Refusal) → List (TestFor Refusal)
behind_read policy bytes rest = after (after (after (after (front_tests policy bytes ++ rest))))

-- ---- bytes can be read, or not

-- they encode a container, or have a first fault
abbrev pub Readable : List ℕ → Type 0
Readable bytes = ((c : Contents) × EncodesContents bytes c) ⊎ ((f : ℕ × Flaw) × IsFirstFault bytes f.0 f.1)

pub readable-bytes : (bytes : List ℕ) → IsBytes bytes → Readable bytes
readable-bytes bytes fits = go (decoded_container bytes) refl
  where
    go : (r : Result Contents Fault) → decoded_container bytes ≡ r → Readable bytes
    go (Ok c) e = inl (c, container_takes bytes c fits e)
    go (Err f) e = inr (f, (fault-exactly bytes f.0 f.1).0 e)

-- ---- what bytes hold is one

same-code : (a b : List Insn) → ◌≡◌ {A = Result (List Insn) CodeFlaw} (Ok a) (Ok b) → a ≡ b
same-code a b e = cc

same-contents : (a b : Contents) → ◌≡◌ {A = Result Contents Fault} (Ok a) (Ok b) → a ≡ b
same-contents a b e = cc

pub has-one : (bytes : List ℕ) (c : Contents) (code : List Insn) → HasCode bytes c code
    → (p : Contents × List Insn) → HasCode bytes p.0 p.1 → ◌≡◌ {A = Contents × List Insn} (c, code) p
has-one bytes c code h p k =
    let e : c ≡ p.0 = one_content bytes c p.0 h.container k.container in
    let o : code ≡ p.1 =
    code-one (profile_of c.version) (profile_of p.0.version) c.code p.0.code code p.1
    (ap (λ (z : Contents). profile_of z.version) e) (ap (λ (z : Contents). z.code) e) h.encoded h.code k.encoded k.code in
    λ i. (e i, o i)

-- a test of the contents and their code is decided as that of these
pub of_code-decides : (bytes : List ℕ) (c : Contents) (code : List Insn) → HasCode bytes c code
    → (t : Contents → List Insn → TestFor Refusal) (found : Option Refusal) → Decides (t c code) found
    → Decides (of_code bytes t) found
of_code-decides bytes c code h t found d =
    each-decides (λ (p : Contents × List Insn). HasCode bytes p.0 p.1) (λ p. t p.0 p.1) (c, code) h
    (has-one bytes c code h) found d

-- ---- clauses of contents

-- of what passes nothing is found
pub low-unfound : (ts : List Tree) → AreLow ts → height_found ts ≡ None
low-unfound ts low = ap (option_map (λ h. refusal.Height (capped h))) (low_none ts low)

module _ (s : WordSignature) where
  pub form-unfound : (bound : Option ℕ) (ps : List (ℕ × Tree)) → AreForms s bound ps → form_found s bound ps ≡ None
  form-unfound bound ps h = ap (option_map refusal.InvNotForm) (forms_none s bound ps 0 h)

  pub formula-unfound : (ls : List (Tree × Tree)) → AreFormulas (declared s) (formulas_of ls) → formula_found s ls ≡ None
  formula-unfound ls h = ap (option_map refusal.LemmaNotForm) (formulas_none s ls h)

  form-decides : (bound : Option ℕ) (ps : List (ℕ × Tree)) →
      Decides (clause (AreForms s bound ps) (IsFirstNoForm s bound ps) refusal.InvNotForm) (form_found s bound ps)
  form-decides bound ps =
      clause-decides (AreForms s bound ps) (IsFirstNoForm s bound ps) refusal.InvNotForm (form_found s bound ps)
      (form-unfound bound ps)
      (λ k f. ap (option_map refusal.InvNotForm) (first_no_form s bound ps k f)) (forms_decided s bound ps)

  formula-decides : (ls : List (Tree × Tree)) →
      Decides (clause (AreFormulas (declared s) (formulas_of ls)) (IsFirstNoFormula s ls) refusal.LemmaNotForm)
      (formula_found s ls)
  formula-decides ls =
      clause-decides (AreFormulas (declared s) (formulas_of ls)) (IsFirstNoFormula s ls) refusal.LemmaNotForm
      (formula_found s ls)
      (formula-unfound ls)
      (λ k f. ap (option_map refusal.LemmaNotForm) (first_no_formula s ls k f)) (formulas_decided s ls)

  unproved-decides : (ls : List (Tree × Tree)) →
      Decides (clause (LemmasCheck (declared s) ls) (IsFirstUnproved s ls) refusal.LemmaNotProof) (unproved_found s ls)
  unproved-decides ls =
      clause-decides (LemmasCheck (declared s) ls) (IsFirstUnproved s ls) refusal.LemmaNotProof (unproved_found s ls)
      (λ h. ap (option_map refusal.LemmaNotProof) (proved_none s ls h))
      (λ k f. ap (option_map refusal.LemmaNotProof) (first_no_proof s ls k f)) (proofs_decided s ls)

height-decides : (ts : List Tree) → Decides (clause (AreLow ts) (IsFirstHeight ts) refusal.Height) (height_found ts)
height-decides ts =
    let told : ℕ → Refusal = λ h. refusal.Height (capped h) in
    clause-decides (AreLow ts) (IsFirstHeight ts) refusal.Height (height_found ts)
    (low-unfound ts)
    (λ h f. ap (option_map told) (first_high ts h f) ∙ ap (λ k. Some (refusal.Height k)) (sym f.is)) (low_decided ts)

uncut-decides : (code : List Insn) (flags : List Bool) → IsCode code
    → Decides (clause (IsCut code flags) (IsUncut code flags) refusal.Uncut) (uncut_found code flags)
uncut-decides code flags is =
    clause-decides (IsCut code flags) (IsUncut code flags) refusal.Uncut (uncut_found code flags)
    (λ h. ap (option_map refusal.Uncut) (cut_none code flags is h))
    (λ i u. ap (option_map refusal.Uncut) (uncut_is code flags i is u)) (go (uncut_of code flags) refl)
  where
    go : (o : Option ℕ) → uncut_of code flags ≡ o → IsCut code flags ⊎ ((i : ℕ) × IsUncut code flags i)
    go None e = inl (uncut_none code flags is e)
    go (Some i) e = inr (i, uncut_some code flags i is e)

-- ---- clauses of the bytes

module _ (policy : PolicyView) (bytes : List ℕ) where
  module _ (c : Contents) (code : List Insn) (h : HasCode bytes c code) where
    -- a test of the flags
    flags-decides : (t : List Insn → List Bool → TestFor Refusal) (found : Option Refusal)
        → Decides (t code (marks_of c code)) found → Decides (of_flags bytes t) found
    flags-decides t found d =
        of_code-decides bytes c code h
        (λ k insns. each (λ flags. AreFlags (map (λ p. p.0) k.invs) (length insns) flags) (t insns)) found
        (each-decides (λ flags. AreFlags (map (λ p. p.0) c.invs) (length code) flags) (t code) (marks_of c code)
        (annotated_flags (profile_of c.version) c code h.container.contents h.encoded)
        (λ flags is. sym (flags_only (map (λ p. p.0) c.invs) (length code) flags is)) found d)

    -- clauses 5, 6, 13, 7 and 8, and those behind them
    pub shape-decides : (more : List (Option Refusal)) (rest : List (TestFor Refusal))
        → (AreForms (signature_of c.version) c.bound c.invs → AllDecide rest more)
        → AllDecide (behind_read policy bytes rest)
        (shape_found (signature_of c.version) c code ++ more)
    shape-decides more rest k =
        let s : WordSignature = signature_of c.version in (
          of_code-decides bytes c code h _ _ (height-decides (roots c)),
          λ low. (
            of_code-decides bytes c code h _ _ (form-decides s c.bound c.invs),
            λ forms. (
              of_code-decides bytes c code h _ _ (formula-decides s c.lemmas),
              λ formulas. (
                flags-decides _ _ (uncut-decides code (marks_of c code) h.code),
                λ cut. (
                  flags-decides _ _ (limit-decides MAX_UNFOLDED (unfolded_of code (marks_of c code)) _),
                  λ short. k (forms (c, code) h),
                ),
              ),
            ),
          ),
        )

    -- a test of the proof
    proof-decides : (p : Tree) → c.proof ≡ Some p → (t : Contents → List Insn → Tree → TestFor Refusal)
        (found : Option Refusal) → Decides (t c code p) found → Decides (of_proof bytes t) found
    proof-decides p e t found d =
        of_code-decides bytes c code h (λ k insns. each (λ q. k.proof ≡ Some q) (t k insns)) found
        (each-decides (λ q. c.proof ≡ Some q) (t c code) p e (λ q is. same_Some p q (sym e ∙ is)) found d)

    -- clauses 9, 10, 14 and 11
    pub proving-decides : AreForms (signature_of c.version) c.bound c.invs
        → AllDecide (proving_tests policy bytes) (after_front policy c code)
    proving-decides forms = go c.proof refl
      where
        go : (o : Option Tree) → c.proof ≡ o
            → AllDecide (proving_tests policy bytes) (proof_found (signature_of c.version) c.lemmas (vc_of policy c.bound code c.invs) o)
        go None e = (
          of_code-decides bytes c code h _ _
              (record {
                none = λ p. absurd (none-some p.0 (sym e ∙ p.1));
                some = λ flaw f. ap Some (sym f.1);
                decided = inr (refusal.NoProof, (λ p. absurd (none-some p.0 (sym e ∙ p.1)), refl));
              }),
          λ given. absurd (none-some (given (c, code) h).0 (sym e ∙ (given (c, code) h).1)),
        )
        go (Some p) e = (
          of_code-decides bytes c code h _ _
              (record { none = λ given. refl; some = λ flaw f. absurd (f.0 (p, e)); decided = inl (p, e) }),
          λ given. (
            proof-decides p e _ _ (limit-decides MAX_WEIGHT (proof_weight (signature_of c.version) c.lemmas p) _),
            λ light. (
              of_code-decides bytes c code h _ _ (unproved-decides (signature_of c.version) c.lemmas),
              λ proved. (
                proof-decides p e _ _
                    (unless-decides (ProvesCondition policy c code p)
                    (proves (signature_of c.version) c.lemmas p (vc_of policy c.bound code c.invs)) refusal.NotProof
                    (λ k. judged-true (signature_of c.version) c.lemmas policy c.bound code c.invs p k.0 forms k.1 k.2)
                    (λ right. (
                      vc_of policy c.bound code c.invs,
                      vc_of-encodes (signature_of c.version) policy c.bound code c.invs forms,
                      proves-follows (signature_of c.version) c.lemmas p (vc_of policy c.bound code c.invs) right,
                    ))),
                λ all. tt,
              ),
            ),
          ),
        )

    -- clauses 10 and 14 of the lemmas alone
    pub lemmas-decide : AllDecide (lemma_tests policy bytes) (lemmas_found (signature_of c.version) c.lemmas)
    lemmas-decide = (
      of_code-decides bytes c code h _ _ (limit-decides MAX_WEIGHT (lemmas_weight (signature_of c.version) c.lemmas) _),
      λ light. (of_code-decides bytes c code h _ _ (unproved-decides (signature_of c.version) c.lemmas), λ proved. tt),
    )

  -- ---- from the contents on

  module _ (more : Contents → List Insn → List (Option Refusal)) (rest : List (TestFor Refusal))
      (later : (c : Contents) (code : List Insn) → HasCode bytes c code
      → AreForms (signature_of c.version) c.bound c.invs → AllDecide rest (more c code)) where
    abbrev flaw_of : Result (List Insn) CodeFlaw → Option Refusal
    flaw_of (Ok code) = None
    flaw_of (Err flaw) = Some (refusal.BadCode flaw)

    module _ (c : Contents) (has : EncodesContents bytes c) where
      abbrev HasIt : Type 0
      HasIt = (code : List Insn) × EncodesCode (profile_of c.version) c.code code × IsCode code

      bad-code-decides : (r : Result (List Insn) CodeFlaw) → decoded_code (profile_of c.version) c.code ≡ r
          → Decides (clause HasIt (IsFlaw (profile_of c.version) c.code) refusal.BadCode) (flaw_of r)
      bad-code-decides r e =
          let s : IsContents c = has.contents in
          let p : Profile = profile_of c.version in
          clause-decides HasIt (IsFlaw (profile_of c.version) c.code) refusal.BadCode (flaw_of r)
          (λ k. ap flaw_of (sym e ∙ sym (decoded_code-ok p c.code k.0 k.1 k.2)))
          (λ flaw w. ap flaw_of (sym e ∙ sym (IsDecoded-IsCodeAnswer p c.code (Err (fault.At flaw)) w)))
          (elim (code_decided p c.code s.whole s.some s.short) [
            | inl k ↦ inl (k.insns, k.encoded, k.code)
            | inr f ↦ inr (f.which, f.is)
          ])

      of-contents-decides : (t : Contents → TestFor Refusal) (found : Option Refusal) → Decides (t c) found
          → Decides (of_contents bytes t) found
      of-contents-decides t found d =
          each-decides (λ k. EncodesContents bytes k) t c has (λ k is. one_content bytes c k has is) found d

      code-decides : (r : Result (List Insn) CodeFlaw) → decoded_code (profile_of c.version) c.code ≡ r
          → AllDecide (after (after (after (front_tests policy bytes ++ rest)))) (from_code c r (more c))
      code-decides (Err flaw) e = (
        of-contents-decides _ _ (bad-code-decides (Err flaw) e),
        λ pass.
            let k : HasIt = pass c has in
            let both : ◌≡◌ {A = Result (List Insn) CodeFlaw} (Err flaw) (Ok k.0) =
            sym e ∙ sym (decoded_code-ok (profile_of c.version) c.code k.0 k.1 k.2) in
            absurd cc,
      )
      code-decides (Ok code) e = (
        of-contents-decides _ _ (bad-code-decides (Ok code) e),
        λ pass.
            let k : HasIt = pass c has in
            let same : k.0 ≡ code =
            same-code k.0 code (decoded_code-ok (profile_of c.version) c.code k.0 k.1 k.2 ∙ e) in
            let h : HasCode bytes c code = record {
              container = has;
              encoded = subst (EncodesCode (profile_of c.version) c.code) same k.1;
              code = subst IsCode same k.2;
            } in
            shape-decides c code h (more c code) rest (later c code h),
      )

      pub contents-decide : AllDecide (after (after (front_tests policy bytes ++ rest)))
          (refused_unless (is_for policy c.head) (refusal.OtherPolicy c.head)
          ∷ from_code c (decoded_code (profile_of c.version) c.code) (more c))
      contents-decide = (
        of-contents-decides _ _
            (unless-decides (IsFor policy c.head) (is_for policy c.head) (refusal.OtherPolicy c.head)
            (for-true policy c.head) (for-is policy c.head)),
        λ named. code-decides (decoded_code (profile_of c.version) c.code) refl,
      )

    abbrev fault_of : Result Contents Fault → Option Refusal
    fault_of (Ok c) = None
    fault_of (Err f) = Some (refusal.Malformed f.0 f.1)

    malformed-decides : Readable bytes → (r : Result Contents Fault) → decoded_container bytes ≡ r
        → Decides (clause ((c : Contents) × EncodesContents bytes c) (λ (f : ℕ × Flaw). IsFirstFault bytes f.0 f.1)
        (λ f. refusal.Malformed f.0 f.1)) (fault_of r)
    malformed-decides readable r e =
        clause-decides ((c : Contents) × EncodesContents bytes c) (λ (f : ℕ × Flaw). IsFirstFault bytes f.0 f.1)
        (λ f. refusal.Malformed f.0 f.1) (fault_of r)
        (λ k. ap fault_of (sym e ∙ container_again bytes k.0 k.1))
        (λ f w. ap fault_of (sym e ∙ (fault-exactly bytes f.0 f.1).1 w)) readable

    read-decides : Readable bytes → (r : Result Contents Fault) → decoded_container bytes ≡ r
        → AllDecide (after (front_tests policy bytes ++ rest)) (from_contents policy r more)
    read-decides readable (Err f) e = (
      malformed-decides readable (Err f) e,
      λ k.
          let both : ◌≡◌ {A = Result Contents Fault} (Err f) (Ok k.0) = sym e ∙ container_again bytes k.0 k.1 in
          absurd cc,
    )
    read-decides readable (Ok c) e = (
      malformed-decides readable (Ok c) e,
      λ k. contents-decide c
          (subst (EncodesContents bytes) (same-contents k.0 c (sym (container_again bytes k.0 k.1) ∙ e)) k.1),
    )

    pub front-decide : Readable bytes → AllDecide (front_tests policy bytes ++ rest) (front_found policy bytes more)
    front-decide readable =
        (limit-decides MAX_BYTES (length bytes) _, λ size. read-decides readable (decoded_container bytes) refl)

  -- ---- the three lists

  pub gate-decides : Readable bytes → AllDecide (gate_tests policy bytes) (front_found policy bytes (after_front policy))
  gate-decides readable =
      front-decide (after_front policy) (proving_tests policy bytes) (λ c code h forms. proving-decides c code h forms) readable

  pub front-decides : Readable bytes → AllDecide (front_tests policy bytes) (front_found policy bytes (λ c code. []))
  front-decides readable = front-decide (λ c code. []) [] (λ c code h forms. tt) readable

  pub lemma-decides : Readable bytes → AllDecide (front_tests policy bytes ++ lemma_tests policy bytes)
      (front_found policy bytes (λ c code. lemmas_found (signature_of c.version) c.lemmas))
  lemma-decides readable =
      front-decide (λ c code. lemmas_found (signature_of c.version) c.lemmas) (lemma_tests policy bytes)
      (λ c code h forms. lemmas-decide c code h) readable
