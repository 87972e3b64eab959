-- The first clause that fails, as the function finds it, is that of the list; and what passes is what none refuses.
use Rattle.std.proofs.Common.{◌≡◌, ℕ, ◌≤◌, ◌++◌, ◌↔◌, inl, Bool, List, [], ◌∷◌, map, length, Option, Some, None, sym, ◌∙◌, ap}
use Rattle.std.specs.Option.{option_map}
use Rattle.std.proofs.lemmas.Bool.{cond-true}
use Rattle.word_ops.specs.Tests.{AllPass}
use Rattle.word_ops.proofs.Tests.{AllPass-append}
use Rattle.alpha_words.specs.declared.insn.Insn.{Insn}
use Rattle.alpha_cfg.specs.CodeDecoding.{decoded_code}
use Rattle.alpha_cfg.specs.Cuts.{AreFlags}
use Rattle.alpha_cfg.proofs.Readings.{decoded_code-ok}
use Rattle.alpha_cfg.proofs.Deciding.{flags_only}
use Rattle.policy_set.specs.Views.{PolicyView}
use Rattle.term_table.specs.Bytes.{IsBytes}
use Rattle.lf_signature.specs.declared.editions.WordSignature.{WordSignature}
use Rattle.proof_container.specs.Contents.{Contents, roots}
use Rattle.proof_container.specs.Decoding.{decoded_container}
use Rattle.proof_container.specs.Encoding.{EncodesContents}
use Rattle.proof_container.specs.Versions.{profile_of, signature_of}
use Rattle.proof_container.specs.declared.limits.TheConstants.{MAX_BYTES}
use Rattle.proof_container.proofs.Whole.{container_again}
use Rattle.pcc_gate.specs.declared.limits.TheConstants.{MAX_WEIGHT}
use Rattle.pcc_gate.specs.declared.refusal.Refusal.{Refusal}
use Rattle.pcc_gate.specs.declared.refusal.Refusal.TheVariants as refusal
use Rattle.pcc_gate.specs.ForPolicy.{IsFor, is_for}
use Rattle.pcc_gate.specs.Clauses.{HasCode, front_tests, proving_tests, lemma_tests, gate_tests, IsFirstRefusal, IsFrontRefusal, IsLemmaRefusal}
use Rattle.pcc_gate.specs.Passing.{Passes}
use Rattle.pcc_gate.specs.Accepted.{IsAccepted}
use Rattle.pcc_gate.specs.First.{marks_of, first_some, weight_found, unproved_found, height_found, form_found, formula_found, cut_found, typed_found, shape_found, from_code, from_contents, front_found, lemmas_found, after_front, front_refusal, lemma_refusal, first_refusal}
use Rattle.pcc_gate.specs.Weights.{lemmas_weight}
use Rattle.pcc_gate.specs.Laws.{HasPassed}
use Rattle.pcc_gate.specs.Answers.{HasGoodLemmas}
use Rattle.pcc_gate.specs.Inside.Stages.{IsRead}
use Rattle.pcc_gate.proofs.ForPolicy.{for-true}
use Rattle.pcc_gate.proofs.Flags.{annotated_flags}
use Rattle.pcc_gate.proofs.Searches.{within, proved_none}
use Rattle.pcc_gate.proofs.Deciding.{none-exactly, some-exactly, all-none, AllPass-front, AllPass-rest, first_some-rest, first_some-next}
use Rattle.pcc_gate.proofs.Rows.{low-unfound, form-unfound, formula-unfound, behind_read, Readable, readable-bytes, has-one, shape-decides, gate-decides, front-decides, lemma-decides}
use Rattle.pcc_gate.proofs.ByClause.{by-clause, read-all}

module _ (policy : PolicyView) (bytes : List ℕ) where
  -- ---- where clauses pass, the next ones are asked

  -- nothing is found of contents and code that pass
  pub shape-none : (c : Contents) (code : List Insn) (marks : List Bool) → Passes policy bytes c code marks
      → first_some (shape_found (signature_of c.version) c code) ≡ None
  shape-none c code marks p =
      all-none (behind_read policy bytes []) (shape_found (signature_of c.version) c code ++ [])
      (shape-decides policy bytes c code p.has [] [] (λ forms. tt)) p.all.1.1.1.1

  pub typed-none : (c : Contents) (code : List Insn) (marks : List Bool) → Passes policy bytes c code marks
      → first_some (typed_found (signature_of c.version) c code) ≡ None
  typed-none c code marks p =
      sym (first_some-next (height_found (roots c)) (typed_found (signature_of c.version) c code)
      (low-unfound (roots c) (by-clause p).heights))
      ∙ shape-none c code marks p

  pub cut-none : (c : Contents) (code : List Insn) (marks : List Bool) → Passes policy bytes c code marks
      → first_some (cut_found c code) ≡ None
  cut-none c code marks p =
      let s : WordSignature = signature_of c.version in
      sym (first_some-next (form_found s c.bound c.invs) (formula_found s c.lemmas ∷ cut_found c code)
      (form-unfound s c.bound c.invs (by-clause p).forms)
      ∙ first_some-next (formula_found s c.lemmas) (cut_found c code) (formula-unfound s c.lemmas (by-clause p).lemma_forms))
      ∙ typed-none c code marks p

  module _ (more : Contents → List Insn → List (Option Refusal)) (c : Contents) where
    -- clauses 1 to 3 pass
    pub after-read : IsRead policy bytes c → first_some (front_found policy bytes more)
        ≡ first_some (from_code c (decoded_code (profile_of c.version) c.code) (more c))
    after-read r =
        first_some-next _ (from_contents policy (decoded_container bytes) more)
        (within MAX_BYTES (length bytes) (Some (refusal.TooLong (length bytes))) None r.size)
        ∙ ap (λ z. first_some (from_contents policy z more)) (container_again bytes c r.encoded)
        ∙ first_some-next _ (from_code c (decoded_code (profile_of c.version) c.code) (more c))
        (cond-true (is_for policy c.head) None (Some (refusal.OtherPolicy c.head)) (for-true policy c.head r.named))

    -- and 4 to 8
    pub after-all : (code : List Insn) (marks : List Bool) → Passes policy bytes c code marks
        → first_some (front_found policy bytes more) ≡ first_some (more c code)
    after-all code marks p =
        let k = by-clause p in
        let s : WordSignature = signature_of c.version in
        after-read (record { size = k.size; encoded = k.container; named = k.named })
        ∙ ap (λ z. first_some (from_code c z (more c))) (sym (decoded_code-ok (profile_of c.version) c.code code k.encoded k.code))
        ∙ first_some-rest (shape_found s c code) (more c code) (shape-none c code marks p)

  -- ---- the clauses before the proof

  -- bytes pass them where nothing is found of their contents and code
  pub passes-by : (c : Contents) (code : List Insn) (marks : List Bool) → length bytes ≤ MAX_BYTES → IsFor policy c.head
      → HasCode bytes c code → AreFlags (map (λ p. p.0) c.invs) (length code) marks
      → first_some (shape_found (signature_of c.version) c code) ≡ None → Passes policy bytes c code marks
  passes-by c code marks size named h annotated none = record {
    all = read-all h policy size named (behind_read policy bytes [])
        ((none-exactly (behind_read policy bytes []) (shape_found (signature_of c.version) c code ++ [])
        (shape-decides policy bytes c code h [] [] (λ forms. tt))).1 none);
    has = h;
    annotated = annotated;
  }

  -- what passes them holds a container and code
  pub passed-all : AllPass (front_tests policy bytes) → HasPassed policy bytes
  passed-all all =
      let c : Contents = all.1.0.0 in
      let held : EncodesContents bytes c = all.1.0.1 in
      let k = all.1.1.1.0 c held in
      record {
        contents = c;
        code = k.0;
        marks = marks_of c k.0;
        passes = record {
          all = all;
          has = record { container = held; encoded = k.1; code = k.2 };
          annotated = annotated_flags (profile_of c.version) c k.0 held.contents k.1;
        };
      }

  readable-passed : HasPassed policy bytes → Readable bytes
  readable-passed h = inl (h.contents, h.passes.has.container)

  pub passed-none : HasPassed policy bytes → front_refusal policy bytes ≡ None
  unfolding front_refusal
  passed-none h = (none-exactly (front_tests policy bytes) (front_found policy bytes (λ c code. []))
      (front-decides policy bytes (readable-passed h))).0 h.passes.all

  pub none-passed : IsBytes bytes → front_refusal policy bytes ≡ None → HasPassed policy bytes
  unfolding front_refusal
  none-passed fits e = passed-all ((none-exactly (front_tests policy bytes) (front_found policy bytes (λ c code. []))
      (front-decides policy bytes (readable-bytes bytes fits))).1 e)

  pub before-is : (r : Refusal) → IsBytes bytes → (front_refusal policy bytes ≡ Some r) ↔ IsFrontRefusal policy bytes r
  unfolding front_refusal
  before-is r fits = some-exactly (front_tests policy bytes) (front_found policy bytes (λ c code. []))
      (front-decides policy bytes (readable-bytes bytes fits)) r

  -- ---- all clauses

  pub accepted-all : IsAccepted policy bytes ↔ AllPass (gate_tests policy bytes)
  accepted-all = (to, from)
    where
      to : IsAccepted policy bytes → AllPass (gate_tests policy bytes)
      to h = AllPass-append (front_tests policy bytes) (proving_tests policy bytes) h.accepts.passes.all h.accepts.all

      from : AllPass (gate_tests policy bytes) → IsAccepted policy bytes
      from all =
          let h = passed-all (AllPass-front (front_tests policy bytes) (proving_tests policy bytes) all) in
          record {
            contents = h.contents;
            code = h.code;
            marks = h.marks;
            accepts = record {
              passes = h.passes;
              all = AllPass-rest (front_tests policy bytes) (proving_tests policy bytes) all;
            };
          }

  pub accepted-none : IsAccepted policy bytes → first_refusal policy bytes ≡ None
  unfolding first_refusal
  accepted-none h =
      (none-exactly (gate_tests policy bytes) (front_found policy bytes (after_front policy))
      (gate-decides policy bytes (inl (h.contents, h.accepts.passes.has.container)))).0 (accepted-all.0 h)

  pub none-accepted : IsBytes bytes → first_refusal policy bytes ≡ None → IsAccepted policy bytes
  unfolding first_refusal
  none-accepted fits e =
      accepted-all.1 ((none-exactly (gate_tests policy bytes) (front_found policy bytes (after_front policy))
      (gate-decides policy bytes (readable-bytes bytes fits))).1 e)

  pub refusal-is : (r : Refusal) → IsBytes bytes → (first_refusal policy bytes ≡ Some r) ↔ IsFirstRefusal policy bytes r
  unfolding first_refusal
  refusal-is r fits = some-exactly (gate_tests policy bytes) (front_found policy bytes (after_front policy))
      (gate-decides policy bytes (readable-bytes bytes fits)) r

  -- ---- those before the proof, and 10 and 14 of the lemmas alone

  pub lemma-is : (r : Refusal) → IsBytes bytes → (lemma_refusal policy bytes ≡ Some r) ↔ IsLemmaRefusal policy bytes r
  unfolding lemma_refusal
  lemma-is r fits = some-exactly (front_tests policy bytes ++ lemma_tests policy bytes)
      (front_found policy bytes (λ c code. lemmas_found (signature_of c.version) c.lemmas))
      (lemma-decides policy bytes (readable-bytes bytes fits)) r

  -- the lemmas aren't refused
  pub good-found : (c : Contents) → HasGoodLemmas c → first_some (lemmas_found (signature_of c.version) c.lemmas) ≡ None
  good-found c g =
      let s : WordSignature = signature_of c.version in
      first_some-next (weight_found (lemmas_weight s c.lemmas)) (unproved_found s c.lemmas ∷ [])
      (within MAX_WEIGHT (lemmas_weight s c.lemmas) _ None g.weight)
      ∙ first_some-next (unproved_found s c.lemmas) [] (ap (option_map refusal.LemmaNotProof) (proved_none s c.lemmas g.proved))

  pub good-none : (c : Contents) (code : List Insn) (marks : List Bool) → Passes policy bytes c code marks
      → HasGoodLemmas c → lemma_refusal policy bytes ≡ None
  unfolding lemma_refusal
  good-none c code marks p g =
      after-all (λ k insns. lemmas_found (signature_of k.version) k.lemmas) c code marks p ∙ good-found c g

  -- what passes these clauses
  pub record IsPassedWithLemmas : Type 0 where
    pub contents : Contents
    pub code : List Insn
    pub marks : List Bool
    pub passes : Passes policy bytes contents code marks
    pub good : HasGoodLemmas contents

  pub none-good : IsBytes bytes → lemma_refusal policy bytes ≡ None → IsPassedWithLemmas
  unfolding lemma_refusal
  none-good fits e =
      let all = (none-exactly (front_tests policy bytes ++ lemma_tests policy bytes)
      (front_found policy bytes (λ c code. lemmas_found (signature_of c.version) c.lemmas))
      (lemma-decides policy bytes (readable-bytes bytes fits))).1 e in
      let h = passed-all (AllPass-front (front_tests policy bytes) (lemma_tests policy bytes) all) in
      let of = AllPass-rest (front_tests policy bytes) (lemma_tests policy bytes) all in
      record {
        contents = h.contents;
        code = h.code;
        marks = h.marks;
        passes = h.passes;
        good = record {
          weight = of.0 (h.contents, h.code) h.passes.has;
          proved = of.1.0 (h.contents, h.code) h.passes.has;
        };
      }

  -- what bytes hold is one
  pub passed-one : (c d : Contents) (code other : List Insn) (marks flags : List Bool)
      → Passes policy bytes c code marks → Passes policy bytes d other flags
      → (c ≡ d) × (code ≡ other) × (marks ≡ flags)
  passed-one c d code other marks flags p q =
      let same = has-one bytes c code p.has (d, other) q.has in
      let mine : marks ≡ marks_of c code = flags_only (map (λ p. p.0) c.invs) (length code) marks p.annotated in
      let theirs : flags ≡ marks_of d other = flags_only (map (λ p. p.0) d.invs) (length other) flags q.annotated in
      let here : marks_of c code ≡ marks_of d other = ap (λ (z : Contents × List Insn). marks_of z.0 z.1) same in
      (ap (λ z. z.0) same, ap (λ z. z.1) same, mine ∙ here ∙ sym theirs)
