-- The clauses by which bytes are accepted under a policy, as tests in their order: what holds if one passes, what is wrong if it
-- fails, and the refusal that tells so. Necula, POPL 1997, section 2 (what a code consumer checks).
use Rattle.std.specs.Prelude.{◌≡◌, ℕ, ◌≤◌, Bool, List, [], ◌∷◌, ◌++◌, map, length, Some}
use Rattle.word_ops.specs.Tests.{TestFor, test, FirstFails}
use Rattle.alpha_words.specs.declared.insn.Insn.{Insn}
use Rattle.alpha_cfg.specs.Flow.{IsCode}
use Rattle.alpha_cfg.specs.CodeBytes.{EncodesCode, IsFlaw}
use Rattle.alpha_cfg.specs.Cuts.{AreFlags, IsCut, IsUncut, unfolded_of}
use Rattle.policy_set.specs.Views.{PolicyView}
use Rattle.term_table.specs.Tree.{Tree}
use Rattle.term_table.specs.Measures.{capped}
use Rattle.lf_signature.specs.Constants.{declared}
use Rattle.lf_signature.specs.Terms.{pf}
use Rattle.lf_signature.specs.Typing.{Checks}
use Rattle.lf_lemmas.specs.Lemmas.{formulas_of, with_lemmas, AreFormulas}
use Rattle.lf_lemmas.specs.Checking.{LemmasCheck}
use Rattle.proof_container.specs.Contents.{Contents, roots}
use Rattle.proof_container.specs.Encoding.{EncodesContents}
use Rattle.proof_container.specs.FieldTests.{IsFirstFault}
use Rattle.proof_container.specs.Versions.{profile_of, signature_of}
use Rattle.proof_container.specs.declared.fault.Flaw.{Flaw}
use Rattle.proof_container.specs.declared.limits.TheConstants.{MAX_BYTES}
use Rattle.vcgen.specs.declared.condition.TheConstants.{MAX_UNFOLDED}
use Rattle.vcgen.specs.Encoded.{AreForms, EncodesCondition}
use Rattle.pcc_gate.specs.declared.limits.TheConstants.{MAX_WEIGHT}
use Rattle.pcc_gate.specs.declared.refusal.Refusal.{Refusal}
use Rattle.pcc_gate.specs.declared.refusal.Refusal.TheVariants as refusal
use Rattle.pcc_gate.specs.ForPolicy.{IsFor}
use Rattle.pcc_gate.specs.Refusals.{AreLow, IsFirstHeight, IsFirstNoForm, IsFirstNoFormula, IsFirstUnproved}
use Rattle.pcc_gate.specs.Weights.{lemmas_weight, proof_weight}

-- ---- how a clause is written

-- the test that P holds; if it doesn't, Wrong says what is wrong, and the refusal tells that
abbrev pub clause : {A : Type 0} → Type 0 → (A → Type 0) → (A → Refusal) → TestFor Refusal
clause {A} P Wrong refused = record { passes = P; fails = λ found. (x : A) × Wrong x × (found ≡ refused x) }

-- the test of what a relation gives; that it gives something, the tests before it say
abbrev pub each : {A : Type 0} → (A → Type 0) → (A → TestFor Refusal) → TestFor Refusal
each {A} Is t = record {
  passes = (x : A) → Is x → (t x).passes;
  fails = λ found. (x : A) × Is x × (t x).fails found;
}

-- the bytes hold the contents, with this code in the profile of the version
pub record HasCode (bytes : List ℕ) (contents : Contents) (insns : List Insn) : Type 0 where
  pub container : EncodesContents bytes contents
  pub encoded : EncodesCode (profile_of contents.version) contents.code insns
  pub code : IsCode insns

-- the proof proves the verification condition, over the signature of the version with all lemmas
abbrev pub ProvesCondition : PolicyView → Contents → List Insn → Tree → Type 0
ProvesCondition policy c code proof =
    (vc : Tree) × EncodesCondition policy c.bound code c.invs vc
    × Checks (with_lemmas (declared (signature_of c.version)) (formulas_of c.lemmas)) [] proof (pf vc)

module _ (bytes : List ℕ) where
  -- a test of the contents of the bytes
  abbrev pub of_contents : (Contents → TestFor Refusal) → TestFor Refusal
  of_contents t = each (λ c. EncodesContents bytes c) t

  -- a test of the contents and their code
  abbrev pub of_code : (Contents → List Insn → TestFor Refusal) → TestFor Refusal
  of_code t = each (λ (p : Contents × List Insn). HasCode bytes p.0 p.1) (λ p. t p.0 p.1)

  -- a test of the code and the flags of its annotated indices
  abbrev pub of_flags : (List Insn → List Bool → TestFor Refusal) → TestFor Refusal
  of_flags t = of_code (λ c code. each (λ flags. AreFlags (map (λ p. p.0) c.invs) (length code) flags) (t code))

  -- a test of the contents, the code and the proof
  abbrev pub of_proof : (Contents → List Insn → Tree → TestFor Refusal) → TestFor Refusal
  of_proof t = of_code (λ c code. each (λ proof. c.proof ≡ Some proof) (t c code))

module _ (policy : PolicyView) (bytes : List ℕ) where
  -- ---- the clauses, in their order

  -- Clauses 1 to 4: the bytes aren't too many (1), and encode a container (2), which is for the policy (3); its code bytes
  -- encode code (4).
  abbrev pub read_tests : List (TestFor Refusal)
  read_tests =
      test (length bytes ≤ MAX_BYTES) (refusal.TooLong (length bytes))
      ∷ clause ((c : Contents) × EncodesContents bytes c) (λ (f : ℕ × Flaw). IsFirstFault bytes f.0 f.1)
      (λ f. refusal.Malformed f.0 f.1)
      ∷ of_contents bytes (λ c. test (IsFor policy c.head) (refusal.OtherPolicy c.head))
      ∷ of_contents bytes (λ c.
      clause ((code : List Insn) × EncodesCode (profile_of c.version) c.code code × IsCode code)
      (IsFlaw (profile_of c.version) c.code) refusal.BadCode)
      ∷ []

  -- Clauses 1 to 5, which type no term: no root is too high (5).
  abbrev pub untyped_tests : List (TestFor Refusal)
  untyped_tests =
      read_tests ++ of_code bytes (λ c code. clause (AreLow (roots c)) (IsFirstHeight (roots c)) refusal.Height) ∷ []

  -- Clauses 6, 13, 7 and 8: each invariant is a formula over m and r0 to r30, and the steps that are left if these are bounded,
  -- in the signature of the version (6); each lemma's formula is one over no variables (13); the annotated indices cut the code
  -- (7); the unfolded length isn't too great (8).
  abbrev pub shape_tests : List (TestFor Refusal)
  shape_tests =
      of_code bytes (λ c code.
      clause (AreForms (signature_of c.version) c.bound c.invs)
      (IsFirstNoForm (signature_of c.version) c.bound c.invs) refusal.InvNotForm)
      ∷ of_code bytes (λ c code.
      clause (AreFormulas (declared (signature_of c.version)) (formulas_of c.lemmas))
      (IsFirstNoFormula (signature_of c.version) c.lemmas) refusal.LemmaNotForm)
      ∷ of_flags bytes (λ code flags. clause (IsCut code flags) (IsUncut code flags) refusal.Uncut)
      ∷ of_flags bytes (λ code flags.
      test (unfolded_of code flags ≤ MAX_UNFOLDED) (refusal.UnfoldLimit (capped (unfolded_of code flags))))
      ∷ []

  -- the clauses before the proof
  abbrev pub front_tests : List (TestFor Refusal)
  front_tests = untyped_tests ++ shape_tests

  -- Clause 14: each lemma's proof proves its formula with the lemmas before it.
  abbrev pub lemmas_prove : TestFor Refusal
  lemmas_prove =
      of_code bytes (λ c code.
      clause (LemmasCheck (declared (signature_of c.version)) c.lemmas)
      (IsFirstUnproved (signature_of c.version) c.lemmas) refusal.LemmaNotProof)

  -- Clauses 9, 10, 14 and 11: there is a proof (9), which with those of the lemmas isn't too heavy (10); 14; and it proves the
  -- verification condition (11).
  abbrev pub proving_tests : List (TestFor Refusal)
  proving_tests =
      of_code bytes (λ c code. test ((proof : Tree) × (c.proof ≡ Some proof)) refusal.NoProof)
      ∷ of_proof bytes (λ c code proof.
      let weight = proof_weight (signature_of c.version) c.lemmas proof in
      test (weight ≤ MAX_WEIGHT) (refusal.ProofWeight (capped weight)))
      ∷ lemmas_prove
      ∷ of_proof bytes (λ c code proof. test (ProvesCondition policy c code proof) refusal.NotProof)
      ∷ []

  -- Clauses 10 and 14 of the lemmas alone.
  abbrev pub lemma_tests : List (TestFor Refusal)
  lemma_tests =
      of_code bytes (λ c code.
      let weight = lemmas_weight (signature_of c.version) c.lemmas in
      test (weight ≤ MAX_WEIGHT) (refusal.ProofWeight (capped weight)))
      ∷ lemmas_prove
      ∷ []

  -- all clauses
  abbrev pub gate_tests : List (TestFor Refusal)
  gate_tests = front_tests ++ proving_tests

  -- ---- the refusals

  -- The refusal is that of the first clause that fails, with the value that its line has.
  abbrev pub IsFirstRefusal : Refusal → Type 0
  IsFirstRefusal r = FirstFails gate_tests r

  -- The same of the clauses before the proof.
  abbrev pub IsFrontRefusal : Refusal → Type 0
  IsFrontRefusal r = FirstFails front_tests r

  -- The same of these, and, of the lemmas alone, 10 and 14.
  abbrev pub IsLemmaRefusal : Refusal → Type 0
  IsLemmaRefusal r = FirstFails (front_tests ++ lemma_tests) r
