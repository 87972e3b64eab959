-- What passes, clause by clause, of what the bytes hold; and back.
use Rattle.std.proofs.Common.{◌≡◌, ℕ, ◌≤◌, ◌++◌, [], Bool, List, map, length, Some, sym, ◌∙◌, subst}
use Rattle.std.proofs.lemmas.Option.{same_Some}
use Rattle.word_ops.specs.Tests.{TestFor, AllPass}
use Rattle.alpha_words.specs.declared.insn.Insn.{Insn}
use Rattle.alpha_cfg.specs.Flow.{IsCode}
use Rattle.alpha_cfg.specs.CodeBytes.{EncodesCode}
use Rattle.alpha_cfg.specs.Cuts.{AreFlags, IsCut, unfolded_of}
use Rattle.alpha_cfg.proofs.Deciding.{flags_only}
use Rattle.policy_set.specs.Views.{PolicyView}
use Rattle.term_table.specs.Tree.{Tree}
use Rattle.lf_signature.specs.Constants.{declared}
use Rattle.lf_signature.specs.Terms.{pf}
use Rattle.lf_signature.specs.Typing.{Checks}
use Rattle.lf_lemmas.specs.Lemmas.{formulas_of, with_lemmas, AreFormulas}
use Rattle.lf_lemmas.specs.Checking.{LemmasCheck}
use Rattle.proof_container.specs.Contents.{Contents, roots}
use Rattle.proof_container.specs.Encoding.{EncodesContents}
use Rattle.proof_container.specs.Versions.{profile_of, signature_of}
use Rattle.proof_container.specs.declared.limits.TheConstants.{MAX_BYTES}
use Rattle.proof_container.proofs.Whole.{one_content}
use Rattle.vcgen.specs.declared.condition.TheConstants.{MAX_UNFOLDED}
use Rattle.vcgen.specs.Encoded.{AreForms, EncodesCondition}
use Rattle.pcc_gate.specs.declared.limits.TheConstants.{MAX_WEIGHT}
use Rattle.pcc_gate.specs.declared.refusal.Refusal.{Refusal}
use Rattle.pcc_gate.specs.ForPolicy.{IsFor}
use Rattle.pcc_gate.specs.Refusals.{AreLow}
use Rattle.pcc_gate.specs.Clauses.{HasCode, ProvesCondition, read_tests, untyped_tests}
use Rattle.pcc_gate.specs.Passing.{Passes, PassesUntyped}
use Rattle.pcc_gate.specs.Accepted.{Accepts}
use Rattle.pcc_gate.specs.Weights.{proof_weight}
use Rattle.pcc_gate.proofs.Rows.{after, behind_read, has-one}

-- clauses 1 to 8 and 13, of what the bytes hold
pub record ByClause (policy : PolicyView) (bytes : List ℕ) (contents : Contents) (insns : List Insn)
    (flags : List Bool) : Type 0 where
  pub size : length bytes ≤ MAX_BYTES
  pub container : EncodesContents bytes contents
  pub named : IsFor policy contents.head
  pub encoded : EncodesCode (profile_of contents.version) contents.code insns
  pub code : IsCode insns
  pub heights : AreLow (roots contents)
  pub forms : AreForms (signature_of contents.version) contents.bound contents.invs
  pub lemma_forms : AreFormulas (declared (signature_of contents.version)) (formulas_of contents.lemmas)
  pub annotated : AreFlags (map (λ p. p.0) contents.invs) (length insns) flags
  pub cut : IsCut insns flags
  pub unfolded : unfolded_of insns flags ≤ MAX_UNFOLDED

-- clauses 9, 10, 14 and 11
pub record ProofByClause (policy : PolicyView) (contents : Contents) (insns : List Insn) : Type 0 where
  pub proof : Tree
  pub vc : Tree
  pub given : contents.proof ≡ Some proof
  pub weight : proof_weight (signature_of contents.version) contents.lemmas proof ≤ MAX_WEIGHT
  pub lemmas : LemmasCheck (declared (signature_of contents.version)) contents.lemmas
  pub condition : EncodesCondition policy contents.bound insns contents.invs vc
  pub proved :
      Checks (with_lemmas (declared (signature_of contents.version)) (formulas_of contents.lemmas)) [] proof (pf vc)

-- ---- what the bytes hold is one

module _ {bytes : List ℕ} {c : Contents} {code : List Insn} (h : HasCode bytes c code) where
  -- what is so of these contents and code is so of all that the bytes hold
  of-held : (P : Contents → List Insn → Type 0) → P c code → (q : Contents × List Insn) → HasCode bytes q.0 q.1
      → P q.0 q.1
  of-held P p q k = subst (λ (z : Contents × List Insn). P z.0 z.1) (has-one bytes c code h q k) p

  -- and of the flags
  of-marked : (flags : List Bool) → AreFlags (map (λ p. p.0) c.invs) (length code) flags
      → (P : List Insn → List Bool → Type 0) → P code flags → (q : Contents × List Insn) → HasCode bytes q.0 q.1
      → (other : List Bool) → AreFlags (map (λ p. p.0) q.0.invs) (length q.1) other → P q.1 other
  of-marked flags are P p =
      of-held (λ k insns. (other : List Bool) → AreFlags (map (λ p. p.0) k.invs) (length insns) other → P insns other)
      (λ other is.
      subst (P code)
      (flags_only (map (λ p. p.0) c.invs) (length code) flags are
      ∙ sym (flags_only (map (λ p. p.0) c.invs) (length code) other is)) p)

  -- and of the proof
  of-given : (proof : Tree) → c.proof ≡ Some proof → (P : Contents → List Insn → Tree → Type 0) → P c code proof
      → (q : Contents × List Insn) → HasCode bytes q.0 q.1 → (t : Tree) → q.0.proof ≡ Some t → P q.0 q.1 t
  of-given proof given P p =
      of-held (λ k insns. (t : Tree) → k.proof ≡ Some t → P k insns t)
      (λ t e. subst (P c code) (same_Some proof t (sym given ∙ e)) p)

  -- ---- the first clauses

  module _ (policy : PolicyView) (size : length bytes ≤ MAX_BYTES) (named : IsFor policy c.head) where
    pub read-all : (rest : List (TestFor Refusal)) → AllPass rest → AllPass (read_tests policy bytes ++ rest)
    read-all rest all = (
      size,
      (
        (c, h.container),
        (
          (λ d is. subst (λ (k : Contents). IsFor policy k.head) (one_content bytes c d h.container is) named),
          (
            (λ d is.
                subst
                (λ (k : Contents). (i : List Insn) × EncodesCode (profile_of k.version) k.code i × IsCode i)
                (one_content bytes c d h.container is) (code, h.encoded, h.code)),
            all,
          ),
        ),
      ),
    )

    pub untyped-all : AreLow (roots c) → PassesUntyped policy bytes
    untyped-all low =
        read-all (after (after (after (after (untyped_tests policy bytes))))) (of-held (λ k insns. AreLow (roots k)) low, tt)

module _ {policy : PolicyView} {bytes : List ℕ} {c : Contents} {code : List Insn} {flags : List Bool} where
  -- ---- before the proof

  pub by-clause : Passes policy bytes c code flags → ByClause policy bytes c code flags
  by-clause p =
      let all = p.all in
      let h = p.has in
      let typed = all.1.1.1.1.1 in
      record {
        size = all.0;
        container = h.container;
        named = all.1.1.0 c h.container;
        encoded = h.encoded;
        code = h.code;
        heights = all.1.1.1.1.0 (c, code) h;
        forms = typed.0 (c, code) h;
        lemma_forms = typed.1.0 (c, code) h;
        annotated = p.annotated;
        cut = typed.1.1.0 (c, code) h flags p.annotated;
        unfolded = typed.1.1.1.0 (c, code) h flags p.annotated;
      }

  pub from-clauses : ByClause policy bytes c code flags → Passes policy bytes c code flags
  from-clauses p =
      let h : HasCode bytes c code = record { container = p.container; encoded = p.encoded; code = p.code } in
      record {
        all = read-all h policy p.size p.named (behind_read policy bytes []) (
          of-held h (λ k insns. AreLow (roots k)) p.heights,
          (
            of-held h (λ k insns. AreForms (signature_of k.version) k.bound k.invs) p.forms,
            (
              of-held h (λ k insns. AreFormulas (declared (signature_of k.version)) (formulas_of k.lemmas)) p.lemma_forms,
              (
                of-marked h flags p.annotated (λ i f. IsCut i f) p.cut,
                (of-marked h flags p.annotated (λ i f. unfolded_of i f ≤ MAX_UNFOLDED) p.unfolded, tt),
              ),
            ),
          ),
        );
        has = h;
        annotated = p.annotated;
      }

  -- what passes them passes those that type no term
  pub untyped : Passes policy bytes c code flags → PassesUntyped policy bytes
  untyped p = let k = by-clause p in untyped-all p.has policy k.size k.named k.heights

  -- ---- of the proof

  pub proof-by-clause : Accepts policy bytes c code flags → ProofByClause policy c code
  proof-by-clause a =
      let h = a.passes.has in
      let given = a.all.0 (c, code) h in
      let proved = a.all.1.1.1.0 (c, code) h given.0 given.1 in
      record {
        proof = given.0;
        vc = proved.0;
        given = given.1;
        weight = a.all.1.0 (c, code) h given.0 given.1;
        lemmas = a.all.1.1.0 (c, code) h;
        condition = proved.1;
        proved = proved.2;
      }

  pub from-proof : Passes policy bytes c code flags → ProofByClause policy c code → Accepts policy bytes c code flags
  from-proof passes p =
      let h : HasCode bytes c code = passes.has in
      record {
        passes = passes;
        all = (
          of-held h (λ k insns. (t : Tree) × (k.proof ≡ Some t)) (p.proof, p.given),
          (
            of-given h p.proof p.given
                (λ k insns t. proof_weight (signature_of k.version) k.lemmas t ≤ MAX_WEIGHT) p.weight,
            (
              of-held h (λ k insns. LemmasCheck (declared (signature_of k.version)) k.lemmas) p.lemmas,
              (of-given h p.proof p.given (ProvesCondition policy) (p.vc, p.condition, p.proved), tt),
            ),
          ),
        );
      }
