-- The container that is made: what it holds, and that it is accepted.
use Rattle.std.proofs.Common.{◌≡◌, ℕ, ◌<◌, ◌≤◌, Bool, true, false, is_some, List, [], ◌∷◌, ◌++◌, map, length, Option, Some, None, Result, Ok, Err, Vec, refl, sym, ◌∙◌, ap, subst, arith}
use Rattle.std.specs.Global.{Global}
use Rattle.std.proofs.lemmas.List.Elements.{All-nil, All-cons, All-head, All-tail}
use Rattle.alpha_words.specs.declared.insn.Insn.{Insn}
use Rattle.alpha_cfg.proofs.Readings.{decoded_code-ok, AreOfProfile-EncodesCode}
use Rattle.formula_tree.specs.Formulas.{Form}
use Rattle.alpha_cfg.specs.Flow.{AreOfProfile}
use Rattle.policy_set.specs.Views.{PolicyView, IsPolicy, PolicyUses}
use Rattle.term_table.specs.Tree.{Tree}
use Rattle.term_table.specs.Table.{IsSmall}
use Rattle.term_table.specs.Measures.{height_of}
use Rattle.lf_signature.specs.Constants.{operators_of, size_of, declared, Longest}
use Rattle.lf_signature.specs.Terms.{pf}
use Rattle.lf_signature.specs.Typing.{Checks}
use Rattle.lf_signature.specs.Laws.Restricted.{checks_more}
use Rattle.lf_lemmas.specs.Lemmas.{formulas_of, with_lemmas}
use Rattle.lf_lemmas.specs.Laws.Lawful.{lemmas_keep}
use Rattle.lf_terms.specs.Encoding.{form_encoding}
use Rattle.proof_container.specs.Contents.{Contents, one_or_none, lemma_roots, roots}
use Rattle.proof_container.specs.Postorder.{entries}
use Rattle.term_table.specs.Bytes.{IsBytes}
use Rattle.proof_container.specs.Encoding.{IsEntryTerm, AreTerms, IsContents, encoding_of}
use Rattle.proof_container.specs.declared.limits.TheConstants.{MAX_ENTRIES}
use Rattle.proof_container.specs.Decoding.{decoded_container}
use Rattle.proof_container.proofs.Whole.{container_again}
use Rattle.vcgen.specs.Encoded.{AreForms}
use Rattle.vcgen.specs.declared.condition.TheConstants.{MAX_HEIGHT}
use Rattle.pcc_gate.specs.Refusals.{AreLow}
use Rattle.pcc_gate.specs.Passing.{Passes, PassesUntyped}
use Rattle.pcc_gate.specs.Accepted.{Accepts, IsAccepted}
use Rattle.pcc_gate.specs.First.{vc_of, height_found, typed_found, lemma_refusal}
use Rattle.pcc_gate.specs.Answers.{HasGoodLemmas}
use Rattle.pcc_gate.specs.declared.refusal.Refusal.{Refusal}
use Rattle.pcc_gate.proofs.Conditions.{vc_of-encodes}
use Rattle.pcc_gate.proofs.Exactly.{none-good, passes-by, typed-none}
use Rattle.pcc_gate.proofs.Rows.{low-unfound}
use Rattle.pcc_gate.proofs.Refusing.{none-next}
use Rattle.pcc_gate.proofs.ByClause.{by-clause, untyped, from-proof}
use Rattle.pcc_gate.proofs.Safe.{bound-fits}
use Rattle.prover_class.specs.Parts.{conjoined, condition_proof, first_not_easy}
use Rattle.bounds_prover.specs.declared.fault.ProveFault.{ProveFault}
use Rattle.bounds_prover.specs.declared.fault.ProveFault.TheVariants.{At, Memory, Results}
use Rattle.bounds_prover.specs.declared.fault.ProveFlaw.{ProveFlaw}
use Rattle.bounds_prover.specs.declared.fault.ProveFlaw.TheVariants.{Refused, NotEasy}
use Rattle.prover_conditions.specs.Conditions.{condition_parts}
use Rattle.formula_tree.proofs.Used.{uses-more}
use Rattle.prover_conditions.proofs.WholeProof.{IsSoundClass, condition-parts, parts-used, proof-checks}
use Rattle.bounds_prover.specs.Proving.{with_proof, excess, encoded_unless, with_parts_proof, proved_contents, proved_code, proved_read, made_unless, proved_container, IsMadeAnswer}
use Rattle.bounds_prover.specs.ProvedLaws.{IsProvedOf}
use Rattle.bounds_prover.proofs.Measures.{IsSmallEnough, small-enough}
use Rattle.bounds_prover.proofs.SmallTerms.{checks-small, checks-entry}
use Rattle.lf_signature.specs.declared.editions.WordSignature.{WordSignature}
use Rattle.lf_signature.specs.Laws.Signatures.{numbered-version, later-operators, edition-operators, edition-rule}
use Rattle.lf_signature.specs.Known.{HasOp}
use Rattle.lf_signature.specs.declared.numbers.TheConstants.{SUB_LO}
use Rattle.formula_tree.specs.Operators.{Uses}
use Rattle.alpha_cfg.specs.CodeBytes.{EncodesCode}
use Rattle.word_ops.specs.declared.Op.{Op}
use Rattle.word_ops.specs.declared.Profile.TheVariants.{Two}
use Rattle.word_ops.specs.Operators.{has_op}
use Rattle.policy_set.proofs.Closed.{policy-operators, kind-first}
use Rattle.vcgen.proofs.Encodings.{forms-wider}
use Rattle.proof_container.specs.declared.container.Head.{Head}
use Rattle.proof_container.specs.declared.container.Head.TheVariants.{Number, Digest}
use Rattle.proof_container.specs.Versions.{is_numbered, profile_of, signature_of, IsHead, IsBoundOf}
use Rattle.vcgen.specs.Safety.{IsBound}
use Rattle.pcc_gate.specs.ForPolicy.{IsFor}

-- ---- contents with another proof

-- others behind the same terms
terms_behind : (v : ℕ) (ts more other : List Tree) → AreTerms v (ts ++ more)
    → (AreTerms v more → AreTerms v other) → AreTerms v (ts ++ other)
terms_behind v [] more other h f = f h
terms_behind v (t ∷ ts) more other h f = (h.0, h.1, terms_behind v ts more other h.2 f)

abbrev IsLow : Tree → Type 0
IsLow t = height_of t ≤ MAX_HEIGHT

low_behind : (ts more other : List Tree) → AreLow (ts ++ more) → (AreLow more → AreLow other)
    → AreLow (ts ++ other)
low_behind [] more other h f = f h
low_behind (t ∷ ts) more other h f =
    All-cons IsLow t (ts ++ other) (All-head IsLow t (ts ++ more) h)
    (low_behind ts more other (All-tail IsLow t (ts ++ more) h) f)

-- the roots with another proof
module _ (c : Contents) (p : Tree) where
  abbrev invs : List Tree
  invs = map (λ p. p.1) c.invs

  abbrev old : List Tree
  old = one_or_none c.proof

  terms_with : AreTerms c.version (roots c) → IsEntryTerm c.version p → IsSmall p
      → AreTerms c.version (roots (with_proof c p))
  terms_with h t s =
      let lemmas : List Tree = lemma_roots c.lemmas in
      terms_behind c.version invs (lemmas ++ old) (lemmas ++ p ∷ []) h
      (λ g. terms_behind c.version lemmas old (p ∷ []) g (λ _. (t, s, tt)))

  low_with : AreLow (roots c) → height_of p ≤ MAX_HEIGHT → AreLow (roots (with_proof c p))
  low_with h l =
      let lemmas : List Tree = lemma_roots c.lemmas in
      low_behind invs (lemmas ++ old) (lemmas ++ p ∷ []) h
      (λ g. low_behind lemmas old (p ∷ []) g (λ _. All-cons IsLow p [] l (All-nil IsLow)))

-- the same invariants and lemmas, in a table that grew
pub same_roots : (c : Contents) (l : List (ℕ × Tree)) (m : List (Tree × Tree)) (p : Tree)
    → l ≡ c.invs → m ≡ c.lemmas
    → record c { invs = l; lemmas = m; proof = Some p } ≡ with_proof c p
same_roots c l m p e f = λ i. record c { invs = e i; lemmas = f i; proof = Some p }

-- ---- the proof of a condition that passed

module _ (sound : IsSoundClass) (policy : PolicyView) (kept : IsPolicy policy) (bytes : List ℕ)
    (c : Contents) (code : List Insn) (marks : List Bool)
    (passes : Passes policy bytes c code marks) where
  abbrev sig : WordSignature
  sig = signature_of c.version

  abbrev Parts : List Form
  Parts = condition_parts policy c.bound code c.invs

  wide : AreForms Longest c.bound c.invs
  wide = forms-wider sig c.bound c.invs (by-clause passes).forms

  fits : IsBound c.bound
  fits = bound-fits c.version c.bound passes.has.container.contents.bound

  -- the signature has the rule for counted steps where these are bounded
  has-rule : (v : ℕ) (bound : Option ℕ) → IsBoundOf v bound → is_some bound ≡ true
      → SUB_LO < size_of (signature_of v)
  has-rule v None h counted = let wrong : false ≡ true = counted in cc
  has-rule v (Some n) h counted = edition-rule v h.0

  -- where a digest names the policy the signature has the second profile's operators, of which policies are
  policy-used : (v : ℕ) → is_numbered v ≡ false → PolicyUses (λ o. has_op (operators_of (signature_of v)) o ≡ true) policy
  policy-used v later =
      let Had : Op → Type 0 = λ o. has_op (operators_of (signature_of v)) o ≡ true in
      let more = uses-more (λ o. has_op Two o ≡ true) Had (later-operators v later) in
      (more policy.pre (policy-operators policy.pre kept.asked), more policy.post (policy-operators policy.post kept.promised))

  -- a policy that a number names is built in, so its operators are the first profile's
  policy-of : (v : ℕ) (h : Head) → IsHead v h → IsFor policy h
      → PolicyUses (λ o. has_op (operators_of (signature_of v)) o ≡ true) policy
  policy-of v (Number n) is named =
      subst (λ w. PolicyUses (λ o. has_op (operators_of (signature_of w)) o ≡ true) policy)
      (sym (numbered-version v is.0)) (kind-first policy named.0 kept named.1)
  policy-of v (Digest d) is named = policy-used v is.0

  -- so the signature has the operators of the condition
  operators-used : (v : ℕ) (h : Head) → IsHead v h → AreForms (signature_of v) c.bound c.invs
      → EncodesCode (profile_of v) c.code code → IsFor policy h
      → Uses (HasOp (declared (signature_of v))) (conjoined Parts)
  operators-used v h is forms encoded named =
      parts-used sound policy c.bound code c.invs marks wide passes.has.code passes.annotated (by-clause passes).cut
      kept fits (signature_of v) forms
      (subst (λ p. AreOfProfile p code) (sym (edition-operators v))
      (AreOfProfile-EncodesCode (profile_of v) c.code code encoded)) (policy-of v h is named)

  module _ (p : Tree)
      (given : condition_proof (is_some c.bound) Parts ≡ Some p)
      (low : height_of p ≤ MAX_HEIGHT) where
    checks : Checks (declared sig) [] p
        (pf (form_encoding (conjoined Parts)))
    checks =
        proof-checks sound policy c.bound code c.invs marks wide passes.has.code passes.annotated
        (by-clause passes).cut kept fits sig (has-rule c.version c.bound passes.has.container.contents.bound)
        (operators-used c.version c.head passes.has.container.contents.head (by-clause passes).forms passes.has.encoded
        (by-clause passes).named) p given low

    pub made-contents : length (entries (roots (with_proof c p))) ≤ MAX_ENTRIES → IsContents (with_proof c p)
    made-contents few =
        let h = passes.has.container.contents in
        let small : IsSmall p = checks-small sig checks (omega (arith, low)) in
        record {
          version = h.version;
          head = h.head;
          bound = h.bound;
          bytes = h.bytes;
          whole = h.whole;
          some = h.some;
          short = h.short;
          terms = terms_with c p h.terms (checks-entry sig c.version checks) small;
          entries = few;
          invs = h.invs;
          rising = h.rising;
          lemmas = h.lemmas;
        }

  -- it is one with the lemmas too, of which it cites none
  with-lemmas : {p F : Tree} → Checks (declared sig) [] p F
      → Checks (with_lemmas (declared sig) (formulas_of c.lemmas)) [] p F
  with-lemmas h =
      let forms : List Tree = formulas_of c.lemmas in
      checks_more (declared sig) (with_lemmas (declared sig) forms)
      (lemmas_keep (declared sig) (λ n. refl) forms (by-clause passes).lemma_forms) h

  made-accepts : HasGoodLemmas c → (p : Tree) → condition_proof (is_some c.bound) Parts ≡ Some p
      → IsSmallEnough (with_proof c p) p
      → Accepts policy (encoding_of (with_proof c p)) (with_proof c p) code marks
  made-accepts good p given s =
      let proved = checks p given s.height in
      let d : Contents = with_proof c p in
      let kept : Passes policy (encoding_of d) d code marks =
      passes-by policy (encoding_of d) d code marks s.bytes (by-clause passes).named
      (record {
        container = record { contents = made-contents p given s.height s.entries; encoded = refl };
        encoded = passes.has.encoded;
        code = passes.has.code;
      }) passes.annotated
      (none-next (height_found (roots d)) (typed_found sig d code)
      (low-unfound (roots d) (low_with c p (by-clause passes).heights s.height))
      (typed-none policy bytes c code marks passes)) in
      from-proof kept (record {
        proof = p;
        vc = vc_of policy c.bound code c.invs;
        given = refl;
        weight = s.weight;
        lemmas = good.proved;
        condition = vc_of-encodes sig policy c.bound code c.invs (by-clause passes).forms;
        proved =
            with-lemmas
            (subst (λ F. Checks (declared sig) [] p (pf (form_encoding F)))
            (sym (condition-parts policy c.bound code c.invs)) proved);
      })

-- ---- what is made of parts

module _ (c : Contents) (parts : List Form) where
  pub not_easy-made : (k : ℕ) → first_not_easy (is_some c.bound) 0 parts ≡ Some k → proved_contents c parts ≡ Err (NotEasy k)
  unfolding proved_contents
  not_easy-made k e = ap (λ o. with_parts_proof c o (condition_proof (is_some c.bound) parts)) e

  pub proof-made : (p : Tree) → first_not_easy (is_some c.bound) 0 parts ≡ None → condition_proof (is_some c.bound) parts ≡ Some p → proved_contents c parts ≡ encoded_unless (excess (with_proof c p) p) (with_proof c p)
  unfolding proved_contents
  proof-made p e f = λ i. with_parts_proof c (e i) (f i)

  -- the proof in contents that are made
  record IsMade (out : List ℕ) : Type 0 where
    proof : Tree
    given : condition_proof (is_some c.bound) parts ≡ Some proof
    small : excess (with_proof c proof) proof ≡ None
    out_is : out ≡ encoding_of (with_proof c proof)

  encoded-none : (o : Option ProveFlaw) (d : Contents) (out : List ℕ) → encoded_unless o d ≡ Ok out → (o ≡ None) × (out ≡ encoding_of d)
  encoded-none None d out e = (refl, cc)
  encoded-none (Some fault) d out e = absurd cc

  made-is : (out : List ℕ) → proved_contents c parts ≡ Ok out → IsMade out
  unfolding proved_contents
  made-is out e = go (first_not_easy (is_some c.bound) 0 parts) (condition_proof (is_some c.bound) parts) refl e
    where
      go : (k : Option ℕ) (o : Option Tree) → condition_proof (is_some c.bound) parts ≡ o → with_parts_proof c k o ≡ Ok out → IsMade out
      go (Some k) o q e = absurd cc
      go None None q e = absurd cc
      go None (Some p) q e =
          let n = encoded-none (excess (with_proof c p) p) (with_proof c p) out e in
          record { proof = p; given = q; small = n.0; out_is = n.1 }

-- what is written never waits for results
pub made-written : (Begun : Type 0) (m : Result (List ℕ) ProveFlaw) (r : Result (Vec ℕ Global) ProveFault)
    → IsMadeAnswer ⊥ m r → IsMadeAnswer Begun m r
made-written Begun m (Ok out) h = h
made-written Begun m (Err (At flaw)) h = h
made-written Begun m (Err Memory) h = h
made-written Begun m (Err Results) h = absurd h

-- ---- what is made of bytes

-- where clauses 1 to 8 and 13 hold, 1 to 5 do
pub passes-untyped : {policy : PolicyView} {bytes : List ℕ} {c : Contents} {code : List Insn}
    {marks : List Bool} → Passes policy bytes c code marks → PassesUntyped policy bytes
passes-untyped p = untyped p

-- where none of the clauses tried fails, it is made of their contents
pub contents-made : (policy : PolicyView) (bytes : List ℕ) (c : Contents) (code : List Insn)
    (marks : List Bool) → Passes policy bytes c code marks → lemma_refusal policy bytes ≡ None →
    proved_container policy bytes ≡ proved_contents c (condition_parts policy c.bound code c.invs)
unfolding proved_container
contents-made policy bytes c code marks passes none =
    (λ i. made_unless (none i) (proved_read policy (container_again bytes c passes.has.container i)))
    ∙ ap (proved_code policy c)
    (sym (decoded_code-ok (profile_of c.version) c.code code passes.has.encoded passes.has.code))

-- else it is refused
pub refused-made : (policy : PolicyView) (bytes : List ℕ) (r : Refusal) → lemma_refusal policy bytes
    ≡ Some r → proved_container policy bytes ≡ Err (Refused r)
unfolding proved_container
refused-made policy bytes r e = ap (λ o. made_unless o (proved_read policy (decoded_container bytes))) e

-- where something is made, none fails
none-refused : (policy : PolicyView) (bytes out : List ℕ) → proved_container policy bytes ≡ Ok out
    → lemma_refusal policy bytes ≡ None
unfolding proved_container
none-refused policy bytes out e = go (lemma_refusal policy bytes) e
  where
    go : (o : Option Refusal) → made_unless o (proved_read policy (decoded_container bytes)) ≡ Ok out → o ≡ None
    go None e = refl
    go (Some r) e = absurd cc

pub made-accepted : IsSoundClass → (policy : PolicyView) (bytes out : List ℕ) → IsPolicy policy
    → IsBytes bytes → proved_container policy bytes ≡ Ok out → IsAccepted policy out
made-accepted sound policy bytes out kept fits e =
    let none = none-refused policy bytes out e in
    let h = none-good policy bytes fits none in
    let parts = condition_parts policy h.contents.bound h.code h.contents.invs in
    let m = made-is h.contents parts out (sym (contents-made policy bytes h.contents h.code h.marks h.passes none) ∙ e) in
    let c = with_proof h.contents m.proof in
    record {
      contents = c;
      code = h.code;
      marks = h.marks;
      accepts = subst (λ b. Accepts policy b c h.code h.marks) (sym m.out_is)
          (made-accepts sound policy kept bytes h.contents h.code h.marks h.passes h.good m.proof
          m.given
          (small-enough c m.proof m.small));
    }

-- and it is the container with another proof
pub made-same : IsSoundClass → (policy : PolicyView) (bytes out : List ℕ) → IsPolicy policy
    → IsBytes bytes → proved_container policy bytes ≡ Ok out → IsProvedOf bytes out
made-same sound policy bytes out kept fits e =
    let none = none-refused policy bytes out e in
    let h = none-good policy bytes fits none in
    let parts = condition_parts policy h.contents.bound h.code h.contents.invs in
    let m = made-is h.contents parts out (sym (contents-made policy bytes h.contents h.code h.marks h.passes none) ∙ e) in
    let c = with_proof h.contents m.proof in
    let s = small-enough c m.proof m.small in
    record {
      contents = h.contents;
      proof = m.proof;
      had = container_again bytes h.contents h.passes.has.container;
      has = container_again out c (record {
        contents = made-contents sound policy kept bytes h.contents h.code h.marks h.passes m.proof
            m.given s.height s.entries;
        encoded = m.out_is;
      });
    }
