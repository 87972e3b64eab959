-- What passes the stages passes the clauses.
use Rattle.std.proofs.Common.{◌≡◌, ◌≤◌, ℕ, ◌++◌, ◌∷◌, Bool, true, List, [], map, length, Option, Some, None, option_map, Result, Ok, Err, IfOk, refl, sym, ◌∙◌, ap, subst}
use Rattle.alpha_words.specs.declared.insn.Insn.{Insn}
use Rattle.alpha_cfg.specs.CodeDecoding.{decoded_code}
use Rattle.alpha_cfg.specs.Cuts.{CutView, AreFlags}
use Rattle.std.proofs.lemmas.List.Elements.{All-head, All-tail}
use Rattle.std.proofs.lemmas.Option.{none-some}
use Rattle.std.specs.List.{AllByRecursion}
use Rattle.term_table.specs.Table.{TableView, IsKnown, Extends, tree_at, id_trees}
use Rattle.vcgen.specs.Encoded.{AreForms, AreEncodings}
use Rattle.pcc_gate.proofs.Kept.{known-more, trees-same}
use Rattle.pcc_gate.proofs.Safe.{AreSound, bound-fits, accepted-safe, accepted-returns, accepted-valid}
use Rattle.vcgen.specs.Answers.{AreLowInvs}
use Rattle.term_table.specs.Tree.{Tree}
use Rattle.term_table.specs.Measures.{height_of}
use Rattle.lf_signature.specs.Constants.{declared, Longest}
use Rattle.lf_lemmas.specs.Lemmas.{formulas_of, with_lemmas, AreFormulas}
use Rattle.lf_lemmas.specs.Tables.{lemmas_in, LemmasKnown}
use Rattle.lf_lemmas.specs.Laws.Lawful.{lemmas_stay}
use Rattle.lf_signature.specs.Terms.{pf}
use Rattle.lf_signature.specs.Laws.Decided.{checks_follows}
use Rattle.vcgen.specs.declared.condition.TheConstants.{MAX_HEIGHT}
use Rattle.pcc_gate.specs.declared.limits.TheConstants.{MAX_WEIGHT}
use Rattle.pcc_gate.specs.Accepted.{Accepts, IsAccepted}
use Rattle.pcc_gate.specs.WrittenOut.{IsWrittenOutAnswer}
use Rattle.pcc_gate.specs.Weights.{lemmas_weight, proof_weight}
use Rattle.pcc_gate.specs.Inside.Acceptance.{IsProofFound, IsProofAnswer, IsProved}
use Rattle.pcc_gate.proofs.Conditions.{vc_of-encodes}
use Rattle.pcc_gate.proofs.Exactly.{accepted-none, good-none, passes-by, after-read, after-all}
use Rattle.pcc_gate.proofs.WrittenOut.{accepted-written, written-accepted}
use Rattle.policy_set.specs.Views.{PolicyView, IsPolicy}
use Rattle.proof_container.specs.Contents.{Contents}
use Rattle.proof_container.specs.Views.{contents_of}
use Rattle.proof_container.specs.declared.container.Container.{Container}
use Rattle.pcc_gate.specs.declared.fault.GateFault.{GateFault}
use Rattle.pcc_gate.specs.declared.passing.Passed.{Passed}
use Rattle.pcc_gate.specs.declared.refusal.Refusal.{Refusal}
use Rattle.pcc_gate.specs.declared.refusal.Refusal.TheVariants as refusal
use Rattle.pcc_gate.specs.First.{vc_of, lemma_unproved, proves, first_some, refused_unless, weight_found, unproved_found, shape_found, from_code, front_found, proof_found, after_front, lemmas_found, front_refusal, lemma_refusal, first_refusal}
use Rattle.pcc_gate.specs.declared.fault.GateFault.TheVariants as fault
use Rattle.hereditary_subst.specs.declared.exhausted.Exhausted.{Exhausted}
use Rattle.hereditary_subst.specs.declared.exhausted.Exhausted.TheVariants as exhausted
use Rattle.pcc_gate.specs.Shortages.{gate_shortage_of}
use Rattle.pcc_gate.specs.Answers.{IsHeld, IsFrontAnswer, HasGoodLemmas, IsLemmaFrontAnswer, IsGateAnswer}
use Rattle.pcc_gate.specs.Refusals.{AreLow}
use Rattle.pcc_gate.specs.Clauses.{HasCode}
use Rattle.pcc_gate.specs.Passing.{Passes, PassesUntyped}
use Rattle.pcc_gate.specs.Inside.Stages.{IsRefusalOf, Refuses, RefusesBytes, IsRead}
use Rattle.pcc_gate.specs.Inside.Passed.{IsRest, IsRestAnswer, IsUntyped, CountsUntyped, IsPassedAnswer}
use Rattle.pcc_gate.proofs.Searches.{within, none_proved}
use Rattle.pcc_gate.proofs.Deciding.{first_some-next, first_some-front}
use Rattle.pcc_gate.proofs.ByClause.{ByClause, by-clause, untyped, untyped-all, from-proof}
use Rattle.pcc_gate.proofs.Refusing.{refusal-here, refusal-next}
use Rattle.lf_signature.specs.declared.editions.WordSignature.{WordSignature}
use Rattle.vcgen.proofs.Encodings.{forms-wider}
use Rattle.proof_container.specs.Versions.{profile_of, signature_of}
use Rattle.pcc_gate.specs.Safe.{ReturnsInBound}
use Rattle.pcc_gate.specs.Views.{AcceptedView}

module _ (policy : PolicyView) (bytes : List ℕ) where
  has-rest : (c : Contents) → IsRead policy bytes c → (p : Passed) → IsRest c p → HasCode bytes c p.cut.code
  has-rest c r p k = record { container = r.encoded; encoded = k.encoded; code = k.is }

  rest-passes : (c : Contents) → IsRead policy bytes c → (p : Passed) → IsRest c p → Passes policy bytes c p.cut.code p.cut.marks
  rest-passes c r p k =
      passes-by policy bytes c p.cut.code p.cut.marks r.size r.named (has-rest c r p k) k.shaped.made.flags k.shaped.none

  -- what passes clauses 4 and 5 passes 1 to 5
  rest-untyped : (c : Contents) → IsRead policy bytes c → IsUntyped c → PassesUntyped policy bytes
  rest-untyped c r u =
      let h : HasCode bytes c u.insns = record { container = r.encoded; encoded = u.encoded; code = u.code } in
      untyped-all h policy r.size r.named u.heights

  pub rest-passed : (c : Contents) → IsRead policy bytes c → (a : Result Passed GateFault)
      → IsRestAnswer c a → CountsUntyped c a → IsPassedAnswer policy bytes a
  rest-passed c r (Ok p) k t = (subst (λ x. Passes policy bytes x p.cut.code p.cut.marks) (sym k.contents) (rest-passes c r p k), k.held)
  rest-passed c r (Err (fault.Refused x)) k t = λ more. after-read policy bytes more c r ∙ k (more c)
  rest-passed c r (Err fault.Memory) k t = r.size
  rest-passed c r (Err fault.Results) k t = rest-untyped c r (t refl)

-- clause 4 passes
pub code-refuses : (c : Contents) (code : List Insn)
    → decoded_code (profile_of c.version) c.code ≡ Ok code → (e : GateFault)
    → IsRefusalOf (first_some (shape_found (signature_of c.version) c code)) e
    → Refuses (from_code c (decoded_code (profile_of c.version) c.code)) e
code-refuses c code h (fault.Refused r) k =
    λ more. ap (λ z. first_some (from_code c z more)) h
    ∙ first_some-front (shape_found (signature_of c.version) c code) (more code) r k
code-refuses c code h fault.Memory k = tt
code-refuses c code h fault.Results k = tt

-- what ran out says nothing
pub shortage-refuses : (found : Option Refusal) (what : Exhausted) → IsRefusalOf found (gate_shortage_of what)
shortage-refuses found exhausted.Memory = tt
shortage-refuses found exhausted.Results = tt

-- what ran out is `Results` only where it was there
pub shortage-results : (what : Exhausted) → gate_shortage_of what ≡ fault.Results → what ≡ exhausted.Results
shortage-results exhausted.Memory e = absurd (cc)
shortage-results exhausted.Results e = refl

-- the container that passed
pub front-held : (policy : PolicyView) (bytes : List ℕ) (a : Result Passed GateFault)
    → IsPassedAnswer policy bytes a → IfOk a (λ p. IsHeld p.container)
front-held policy bytes (Ok p) k = k.1
front-held policy bytes (Err e) k = tt

-- the front's refusal
pub front-answer : (policy : PolicyView) (bytes : List ℕ) (a : Result Passed GateFault)
    → IsPassedAnswer policy bytes a → IsFrontAnswer policy bytes a
unfolding front_refusal
front-answer policy bytes (Ok p) k =
    (k.0, after-all policy bytes (λ c code. []) (contents_of p.container) p.cut.code p.cut.marks k.0)
front-answer policy bytes (Err (fault.Refused r)) k = k (λ c code. [])
front-answer policy bytes (Err fault.Memory) k = k
front-answer policy bytes (Err fault.Results) k = k

module _ (policy : PolicyView) (bytes : List ℕ) (c : Contents) (code : List Insn)
    (marks : List Bool) (p : Passes policy bytes c code marks) where
  k : ByClause policy bytes c code marks
  k = by-clause p

  -- what passes the clauses before the proof goes on
  front-next : (more : Contents → List Insn → List (Option Refusal))
      → first_some (front_found policy bytes more) ≡ first_some (more c code)
  front-next more = after-all policy bytes more c code marks p

  abbrev sig : WordSignature
  sig = signature_of c.version

  abbrev vc : Tree
  vc = vc_of policy c.bound code c.invs

  -- what is found of the proof is found of the bytes
  proof-refused : (e : GateFault) → IsRefusalOf (first_some (proof_found sig c.lemmas vc c.proof)) e
      → IsGateAnswer policy bytes (Err e)
  unfolding first_refusal
  proof-refused (fault.Refused r) h = front-next (after_front policy) ∙ h
  proof-refused fault.Memory h = p.all.0
  proof-refused fault.Results h = untyped p

  pub gate-refused : (e : GateFault) → Refuses (λ vc. proof_found sig c.lemmas vc c.proof) e
      → IsGateAnswer policy bytes (Err e)
  gate-refused (fault.Refused r) h = proof-refused (fault.Refused r) (h vc)
  gate-refused fault.Memory h = proof-refused fault.Memory tt
  gate-refused fault.Results h = proof-refused fault.Results tt

  module _ (proof : Tree) (given : c.proof ≡ Some proof)
      (weight : proof_weight sig c.lemmas proof ≤ MAX_WEIGHT) where
    abbrev judged : Option Refusal
    judged = refused_unless (proves sig c.lemmas proof vc) refusal.NotProof

    -- what comes behind clause 10
    light : first_some (proof_found sig c.lemmas vc c.proof) ≡ first_some (unproved_found sig c.lemmas ∷ judged ∷ [])
    light =
        ap (λ o. first_some (proof_found sig c.lemmas vc o)) given
        ∙ first_some-next (weight_found (proof_weight sig c.lemmas proof)) (unproved_found sig c.lemmas ∷ judged ∷ [])
        (within MAX_WEIGHT (proof_weight sig c.lemmas proof) _ None weight)

    pub gate-unproved : (e : GateFault) → IsRefusalOf (unproved_found sig c.lemmas) e → IsGateAnswer policy bytes (Err e)
    gate-unproved e h =
        proof-refused e
        (subst (λ o. IsRefusalOf o e) (sym light) (refusal-here (unproved_found sig c.lemmas) (judged ∷ []) e h))

    module _ (lemmas : lemma_unproved sig c.lemmas ≡ None) where
      -- what comes behind clause 14
      last : first_some (proof_found sig c.lemmas vc c.proof) ≡ first_some (judged ∷ [])
      last =
          light
          ∙ first_some-next (unproved_found sig c.lemmas) (judged ∷ []) (ap (option_map refusal.LemmaNotProof) lemmas)

      pub gate-judged : (e : GateFault) →
          IsProofAnswer sig c.lemmas policy c.bound code c.invs proof (Err e) →
          IsGateAnswer policy bytes (Err e)
      gate-judged (fault.Refused r) h =
          proof-refused (fault.Refused r)
          (last ∙ ap (λ b. first_some (refused_unless b refusal.NotProof ∷ [])) h.0 ∙ ap Some (sym h.1))
      gate-judged fault.Memory h = p.all.0
      gate-judged fault.Results h = untyped p

      pub gate-none : proves sig c.lemmas proof vc ≡ true → first_refusal policy bytes ≡ None
      unfolding first_refusal
      gate-none h =
          front-next (after_front policy) ∙ last
          ∙ ap (λ b. first_some (refused_unless b refusal.NotProof ∷ [])) h

      pub gate-accepts : proves sig c.lemmas proof vc ≡ true → Accepts policy bytes c code marks
      gate-accepts h =
          from-proof p
          (record {
            proof = proof;
            vc = vc;
            given = given;
            weight = weight;
            lemmas = none_proved sig c.lemmas lemmas;
            condition = vc_of-encodes sig policy c.bound code c.invs k.forms;
            proved =
                checks_follows (with_lemmas (declared sig) (formulas_of c.lemmas)) proof [] (pf vc) h;
          })

  -- the lemmas alone
  lemmas-refused : (e : GateFault) → IsRefusalOf (first_some (lemmas_found sig c.lemmas)) e
      → IsLemmaFrontAnswer policy bytes (Err e)
  unfolding lemma_refusal
  lemmas-refused (fault.Refused r) h = front-next (λ k insns. lemmas_found (signature_of k.version) k.lemmas) ∙ h
  lemmas-refused fault.Memory h = p.all.0
  lemmas-refused fault.Results h = untyped p

  pub lemmas-heavy : (e : GateFault) → IsRefusalOf (weight_found (lemmas_weight sig c.lemmas)) e
      → IsLemmaFrontAnswer policy bytes (Err e)
  lemmas-heavy e h =
      lemmas-refused e
      (refusal-here (weight_found (lemmas_weight sig c.lemmas)) (unproved_found sig c.lemmas ∷ []) e h)

  module _ (weight : lemmas_weight sig c.lemmas ≤ MAX_WEIGHT) where
    lemmas-light : weight_found (lemmas_weight sig c.lemmas) ≡ None
    lemmas-light = within MAX_WEIGHT (lemmas_weight sig c.lemmas) _ None weight

    pub lemmas-unproved : (e : GateFault) → IsRefusalOf (unproved_found sig c.lemmas) e →
        IsLemmaFrontAnswer policy bytes (Err e)
    lemmas-unproved e h =
        lemmas-refused e
        (refusal-next (weight_found (lemmas_weight sig c.lemmas)) (unproved_found sig c.lemmas ∷ []) lemmas-light e
        (refusal-here (unproved_found sig c.lemmas) [] e h))

    pub lemmas-good : lemma_unproved sig c.lemmas ≡ None →
        Passes policy bytes c code marks × HasGoodLemmas c × (lemma_refusal policy bytes ≡ None)
    lemmas-good h =
        let good : HasGoodLemmas c = record { weight = weight; proved = none_proved sig c.lemmas h } in
        (p, good, good-none policy bytes c code marks p good)

-- ---- a container, its signature and its lemmas under names of their own

module _ (k : Container) (s : WordSignature) (is : s ≡ signature_of k.version) (ls : List (ℕ × ℕ))
    (are : ls ≡ k.lemmas.items) where
  named : (P : WordSignature → List (ℕ × ℕ) → Type 0) → P s ls →
      P (signature_of k.version) k.lemmas.items
  named P h = subst (λ z. P z k.lemmas.items) is (subst (λ l. P s l) are h)

  module _ (policy : PolicyView) (bytes : List ℕ) (code : List Insn) (marks : List Bool)
      (p : Passes policy bytes (contents_of k) code marks) where
    -- its formulas are ones over the signature
    pub judge-formulas : AreFormulas (declared s) (formulas_of (lemmas_in k.table ls))
    judge-formulas =
        subst (λ z. AreFormulas (declared z) (formulas_of (lemmas_in k.table ls))) (sym is)
        (subst
        (λ l. AreFormulas (declared (signature_of k.version)) (formulas_of (lemmas_in k.table l)))
        (sym are) (by-clause p).lemma_forms)

    pub judge-unfound : (e : GateFault) → IsProofFound s k.table ls k.proof (Err e) →
        IsGateAnswer policy bytes (Err e)
    judge-unfound e h =
        gate-refused policy bytes (contents_of k) code marks p e
        (named (λ z l. IsProofFound z k.table l k.proof (Err e)) h)

    -- the lemmas alone
    pub alone-heavy : (e : GateFault) → IsRefusalOf (weight_found (lemmas_weight s (lemmas_in k.table ls))) e →
        IsLemmaFrontAnswer policy bytes (Err e)
    alone-heavy e h =
        lemmas-heavy policy bytes (contents_of k) code marks p e
        (named (λ z l. IsRefusalOf (weight_found (lemmas_weight z (lemmas_in k.table l))) e) h)

    module _ (light : lemmas_weight s (lemmas_in k.table ls) ≤ MAX_WEIGHT) where
      alone : lemmas_weight (signature_of k.version) (lemmas_in k.table k.lemmas.items) ≤ MAX_WEIGHT
      alone = named (λ z l. lemmas_weight z (lemmas_in k.table l) ≤ MAX_WEIGHT) light

      pub alone-unproved : (e : GateFault) → IsRefusalOf (unproved_found s (lemmas_in k.table ls)) e →
          IsLemmaFrontAnswer policy bytes (Err e)
      alone-unproved e h =
          lemmas-unproved policy bytes (contents_of k) code marks p alone e
          (named (λ z l. IsRefusalOf (unproved_found z (lemmas_in k.table l)) e) h)

      pub alone-good : lemma_unproved s (lemmas_in k.table ls) ≡ None →
          Passes policy bytes (contents_of k) code marks × HasGoodLemmas (contents_of k)
          × (lemma_refusal policy bytes ≡ None)
      alone-good h =
          lemmas-good policy bytes (contents_of k) code marks p alone
          (named (λ z l. lemma_unproved z (lemmas_in k.table l) ≡ None) h)

    module _ (id : ℕ) (found : IsProofFound s k.table ls k.proof (Ok id)) where
      abbrev tree : Tree
      tree = tree_at k.table id

      given : (contents_of k).proof ≡ Some tree
      given = ap (option_map (tree_at k.table)) found.0

      low : proof_weight (signature_of k.version) (lemmas_in k.table k.lemmas.items) tree
          ≤ MAX_WEIGHT
      low = named (λ z l. proof_weight z (lemmas_in k.table l) tree ≤ MAX_WEIGHT) found.2

      pub judge-unproved : (e : GateFault) → IsRefusalOf (unproved_found s (lemmas_in k.table ls)) e →
          IsGateAnswer policy bytes (Err e)
      judge-unproved e h =
          gate-unproved policy bytes (contents_of k) code marks p tree given low e
          (named (λ z l. IsRefusalOf (unproved_found z (lemmas_in k.table l)) e) h)

      module _ (lemmas : lemma_unproved s (lemmas_in k.table ls) ≡ None) where
        none : lemma_unproved (signature_of k.version) (lemmas_in k.table k.lemmas.items) ≡ None
        none = named (λ z l. lemma_unproved z (lemmas_in k.table l) ≡ None) lemmas

        abbrev told : Tree
        told = vc_of policy k.bound code (id_trees k.table k.invs.items)

        pub judge-refused : (e : GateFault) →
            IsProofAnswer s (lemmas_in k.table ls) policy k.bound code
            (id_trees k.table k.invs.items) tree (Err e) → IsGateAnswer policy bytes (Err e)
        judge-refused e h =
            gate-judged policy bytes (contents_of k) code marks p tree given low none e
            (named
            (λ z l. IsProofAnswer z (lemmas_in k.table l) policy k.bound code
            (id_trees k.table k.invs.items) tree (Err e))
            h)

        pub judge-none : proves s (lemmas_in k.table ls) tree told ≡ true →
            first_refusal policy bytes ≡ None
        judge-none h =
            gate-none policy bytes (contents_of k) code marks p tree given low none
            (named (λ z l. proves z (lemmas_in k.table l) tree told ≡ true) h)

        pub judge-accepts : proves s (lemmas_in k.table ls) tree told ≡ true →
            Accepts policy bytes (contents_of k) code marks
        judge-accepts h =
            gate-accepts policy bytes (contents_of k) code marks p tree given low none
            (named (λ z l. proves z (lemmas_in k.table l) tree told ≡ true) h)

-- what is said of the trees of a later table is said of the earlier one's
pub answer-earlier : (s : WordSignature) (policy : PolicyView) (bound : Option ℕ) (code : List Insn)
    (t u : TableView) (ls ps : List (ℕ × ℕ)) (id : ℕ) (r : Result Unit GateFault) → Extends t u →
    LemmasKnown t ls → AllByRecursion (λ (inv : ℕ × ℕ). IsKnown t inv.1) ps → IsKnown t id →
    IsProofAnswer s (lemmas_in u ls) policy bound code (id_trees u ps) (tree_at u id) r →
    IsProofAnswer s (lemmas_in t ls) policy bound code (id_trees t ps) (tree_at t id) r
answer-earlier s policy bound code t u ls ps id r x known invs one h =
    let said : List (Tree × Tree) → List (ℕ × Tree) → Tree → Type 0 =
    λ l i p. IsProofAnswer s l policy bound code i p r in
    subst (λ l. said l (id_trees t ps) (tree_at t id)) (lemmas_stay ls t u known x)
    (subst (λ i. said (lemmas_in u ls) i (tree_at t id)) (sym (trees-same t u ps x invs))
    (subst (λ p. said (lemmas_in u ls) (id_trees u ps) p) (x.same id one) h))

-- what is refused by clauses 1 to 8 is refused by the gate
pub front-refused : (policy : PolicyView) (bytes : List ℕ) (e : GateFault)
    → RefusesBytes policy bytes e → IsGateAnswer policy bytes (Err e)
unfolding first_refusal
front-refused policy bytes (fault.Refused r) h = h (after_front policy)
front-refused policy bytes fault.Memory h = h
front-refused policy bytes fault.Results h = h

-- and also where the lemmas alone are asked of besides
pub lemma-front-refused : (policy : PolicyView) (bytes : List ℕ) (e : GateFault) →
    RefusesBytes policy bytes e → IsLemmaFrontAnswer policy bytes (Err e)
unfolding lemma_refusal
lemma-front-refused policy bytes (fault.Refused r) h = h (λ k insns. lemmas_found (signature_of k.version) k.lemmas)
lemma-front-refused policy bytes fault.Memory h = h
lemma-front-refused policy bytes fault.Results h = h

-- the invariants' terms are low
pub low-invs : (t : TableView) (ps : List (ℕ × ℕ)) (more : List Tree) → AllByRecursion (λ (inv : ℕ × ℕ). IsKnown t inv.1) ps → AreLow (map (λ p. p.1) (id_trees t ps) ++ more) → AreLowInvs t ps
low-invs t [] more k l = tt
low-invs t (p ∷ ps) more k l =
    let rest : List Tree = map (λ (z : ℕ × Tree). z.1) (id_trees t ps) ++ more in
    (k.0, All-head (λ x. height_of x ≤ MAX_HEIGHT) (tree_at t p.1) rest l, low-invs t ps more k.1 (All-tail (λ x. height_of x ≤ MAX_HEIGHT) (tree_at t p.1) rest l))

-- accepted code is safe, and its condition true, also over a later table
pub proved-by : AreSound → (policy : PolicyView) → IsPolicy policy
    → (bytes : List ℕ) (c : Contents) (cut : CutView) (t u : TableView) (ps : List (ℕ × ℕ))
    → Extends t u → AllByRecursion (λ (inv : ℕ × ℕ). IsKnown t inv.1) ps → c.invs ≡ id_trees t ps
    → Accepts policy bytes c cut.code cut.marks → IsProved policy c.bound cut u ps
proved-by sound policy kept bytes c cut t u ps grown known is a =
    let same : c.invs ≡ id_trees u ps = is ∙ trees-same t u ps grown known in
    record {
      policy_is = kept;
      fits = bound-fits c.version c.bound a.passes.has.container.contents.bound;
      code = a.passes.has.code;
      flags = subst (λ (l : List (ℕ × Tree)). AreFlags (map (λ p. p.0) l) (length cut.code) cut.marks) same a.passes.annotated;
      cuts = (by-clause a.passes).cut;
      known = known-more t u ps grown known;
      forms = subst (λ l. AreForms Longest c.bound l) same
          (forms-wider (signature_of c.version) c.bound c.invs (by-clause a.passes).forms);
      safe = accepted-safe sound policy bytes c cut.code cut.marks kept a;
      returns = accepted-returns sound policy bytes c cut.code cut.marks kept a;
      valid =
          λ fs enc. accepted-valid sound policy bytes c cut.code cut.marks kept a fs
          (subst (λ l. AreEncodings c.bound l fs) (sym same) enc);
    }

-- where steps are bounded, what the gate accepted returns within the bound
pub gate-returns : AreSound → (policy : PolicyView) → IsPolicy policy → (bytes : List ℕ)
    (r : Result AcceptedView GateFault) → IsGateAnswer policy bytes r
    → IfOk r (λ a. ReturnsInBound policy a.bound a.code)
gate-returns sound policy kept bytes (Err e) h = tt
gate-returns sound policy kept bytes (Ok a) h =
    subst (λ b. ReturnsInBound policy b a.code) (sym h.bound_is)
    (accepted-returns sound policy bytes h.contents a.code a.marks kept h.accepts)

-- what the gate accepts is accepted with every lemma written out, and what it refuses isn't
pub gate-written : (policy : PolicyView) (bytes : List ℕ) (r : Result AcceptedView GateFault) →
    IsGateAnswer policy bytes r → IsWrittenOutAnswer policy bytes r
gate-written policy bytes (Ok a) h = record {
  contents = h.contents;
  code = a.code;
  marks = a.marks;
  accepts = accepted-written policy bytes h.contents a.code a.marks h.accepts;
}
gate-written policy bytes (Err (fault.Refused r)) h = λ w.
    let a : IsAccepted policy bytes = record {
      contents = w.contents;
      code = w.code;
      marks = w.marks;
      accepts = written-accepted policy bytes w.contents w.code w.marks w.accepts;
    } in
    none-some r (sym (accepted-none policy bytes a) ∙ h)
gate-written policy bytes (Err fault.Memory) h = tt
gate-written policy bytes (Err fault.Results) h = tt
