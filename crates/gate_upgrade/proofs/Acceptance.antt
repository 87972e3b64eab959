-- What an accepted container is upgraded to is accepted.
use Rattle.std.proofs.Common.{◌≡◌, ℕ, ◌+◌, ◌≤◌, Bool, List, [], ◌∷◌, Option, Some, None, IfSome, refl, sym, ap, ◌∙◌, subst, arith}
use Rattle.word_ops.specs.declared.Profile.TheVariants.{One, Two}
use Rattle.alpha_words.specs.declared.insn.Insn.{Insn}
use Rattle.alpha_cfg.specs.CodeBytes.{EncodesCode}
use Rattle.term_table.specs.Tree.{Tree, Const, Num, Lit, Calc, Fact, Deny, Lemma}
use Rattle.term_table.specs.Measures.{weight_of}
use Rattle.lf_signature.specs.declared.editions.WordSignature.{WordSignature}
use Rattle.lf_signature.specs.declared.editions.WordSignature.TheVariants.{Sigma1, Sigma2}
use Rattle.lf_signature.specs.Constants.{places_of, size_of, op_count_of, declared}
use Rattle.lf_signature.specs.Terms.{form, pf}
use Rattle.lf_signature.specs.Typing.{Checks}
use Rattle.lf_lemmas.specs.Lemmas.{formulas_of, with_lemmas, AreFormulas}
use Rattle.lf_lemmas.specs.Checking.{LemmasCheck}
use Rattle.lf_encode.specs.Contexts.{machine_context, sort_types}
use Rattle.policy_set.specs.declared.kind.PolicyKind.{PolicyKind}
use Rattle.policy_set.specs.Policies.{pre_of, post_of}
use Rattle.policy_set.specs.Names.{kind_number, kind_numbered, IsNumberOf}
use Rattle.policy_set.specs.Views.{PolicyView, built_in, IsPolicy}
use Rattle.policy_set.specs.Digest.{digest_of}
use Rattle.proof_container.specs.declared.container.Head.TheVariants.{Number, Digest}
use Rattle.proof_container.specs.Versions.{profile_of, signature_of}
use Rattle.proof_container.specs.Contents.{Contents, roots}
use Rattle.proof_container.specs.Encoding.{EncodesContents}
use Rattle.vcgen.specs.Encoded.{AreForms, EncodesCondition}
use Rattle.pcc_gate.specs.Accepted.{Accepts}
use Rattle.pcc_gate.specs.ForPolicy.{IsFor}
use Rattle.pcc_gate.specs.Refusals.{AreLow}
use Rattle.pcc_gate.specs.Passing.{Passes}
use Rattle.pcc_gate.specs.First.{height_found, form_found, formula_found, cut_found, typed_found}
use Rattle.pcc_gate.proofs.Rows.{low-unfound, form-unfound, formula-unfound}
use Rattle.pcc_gate.proofs.Exactly.{passes-by, cut-none}
use Rattle.pcc_gate.proofs.Refusing.{none-next}
use Rattle.pcc_gate.proofs.ByClause.{by-clause, proof-by-clause, from-proof}
use Rattle.pcc_gate.specs.Weights.{lemmas_weight, proof_weight}
use Rattle.pcc_gate.specs.declared.limits.TheConstants.{MAX_WEIGHT}
use Rattle.gate_upgrade.specs.declared.limits.TheConstants.{OLD_VERSION}
use Rattle.gate_upgrade.specs.Laws.{UpgradedAccepted}
use Rattle.gate_upgrade.specs.Upgrading.{with_digest}
use Rattle.gate_upgrade.specs.Upgrades.{IsUpgrade}
use Rattle.policy_set.proofs.EachKind.{numbered-kind}
use Rattle.gate_upgrade.proofs.Renamed.{first-version, first-unbounded, first-lemmas, renamed-roots}

-- the bytes of code in the first profile are those of the same code in the second
abbrev pub CodeLater : Type 0
CodeLater =
    (bytes : List ℕ) (code : List Insn) → EncodesCode One bytes code → EncodesCode Two bytes code

-- what checks over a signature checks over a longer one
abbrev pub ChecksLonger : Type 0
ChecksLonger =
    (s u : WordSignature) (ctx : List Tree) (m a : Tree) → size_of s ≤ size_of u
    → op_count_of s ≤ op_count_of u → Checks (declared s) ctx m a → Checks (declared u) ctx m a

-- and weighs the same by the parameters of both
abbrev pub WeighsAlike : Type 0
WeighsAlike =
    (s u : WordSignature) (ctx : List Tree) (m a : Tree) → size_of s ≤ size_of u
    → Checks (declared s) ctx m a → weight_of (places_of u) m ≡ weight_of (places_of s) m

-- bytes are the encoding of one content, by the laws of containers
abbrev pub OneContent : Type 0
OneContent =
    (bytes : List ℕ) (c d : Contents) → EncodesContents bytes c → EncodesContents bytes d → c ≡ d

-- ---- the policy

-- a policy of a kind that keeps what each does has the digest of the built-in one
same-digest : (policy : PolicyView) (kind : PolicyKind) → IsPolicy policy
    → policy.kind ≡ Some kind → digest_of (built_in kind) ≡ digest_of policy
same-digest policy kind kept is =
    let both : (policy.pre ≡ pre_of kind) × (policy.post ≡ post_of kind) =
    subst
    (λ (o : Option PolicyKind). IfSome o
    (λ k. (policy.pre ≡ pre_of k) × (policy.post ≡ post_of k)))
    is kept.of_kind in
    sym (
    ap (λ F. digest_of (record { kind = Some kind; pre = F; post = policy.post })) both.0
    ∙ ap (λ F. digest_of (record { kind = Some kind; pre = pre_of kind; post = F })) both.1
    )

-- the kind of the number that names a policy is the policy's
same-kind : (policy : PolicyView) (kind : PolicyKind) → IsNumberOf policy (kind_number kind)
    → policy.kind ≡ Some kind
same-kind policy kind h =
    h.1 ∙ sym (numbered-kind h.0) ∙ ap kind_numbered (sym h.2) ∙ numbered-kind kind

-- the digest is for each policy for which the number is
digest-for : (policy : PolicyView) (kind : PolicyKind) → IsPolicy policy
    → IsFor policy (Number (kind_number kind)) → IsFor policy (Digest (digest_of (built_in kind)))
digest-for policy kind kept h = same-digest policy kind kept (same-kind policy kind h)

-- ---- the terms

forms-longer : ChecksLonger → (invs : List (ℕ × Tree)) → AreForms Sigma1 None invs
    → AreForms Sigma2 None invs
forms-longer longer [] h = tt
forms-longer longer (p ∷ ps) h = (
  longer Sigma1 Sigma2 (sort_types machine_context) p.1 form (omega arith) (omega arith) h.0,
  forms-longer longer ps h.1,
)

-- ---- no lemmas

-- a signature with no lemmas added gives each constant what it gave
none-added : (s : WordSignature) → with_lemmas (declared s) [] ≡ declared s
none-added s = λ i c. each c i
  where
    each : (c : Const) → with_lemmas (declared s) [] c ≡ declared s c
    each (Num n) = refl
    each (Lit w) = refl
    each (Calc o a b) = refl
    each (Fact p a b) = refl
    each (Deny p a b) = refl
    each (Lemma n) = refl

no-formulas : (s : WordSignature) → AreFormulas (declared s) (formulas_of [])
no-formulas s n F e = cc

none-check : (s : WordSignature) → LemmasCheck (declared s) []
none-check s n l e = cc

-- ---- the clauses

module _
    (later : CodeLater)
    (longer : ChecksLonger)
    (weighs : WeighsAlike)
    (policy : PolicyView)
    (bytes out : List ℕ)
    (kept : IsPolicy policy)
    (u : IsUpgrade bytes out)
    (code : List Insn)
    (marks : List Bool) where
  abbrev renamed : Contents
  renamed = with_digest (built_in u.kind) u.contents

  first : u.contents.version ≡ OLD_VERSION
  first = first-version u.contents (kind_number u.kind) u.old.contents u.number

  unbounded : u.contents.bound ≡ None
  unbounded = first-unbounded u.contents (kind_number u.kind) u.old.contents u.number

  none : u.contents.lemmas ≡ []
  none = first-lemmas u.contents (kind_number u.kind) u.old.contents u.number

  forms-upgraded : AreForms (signature_of u.contents.version) u.contents.bound u.contents.invs
      → AreForms Sigma2 None u.contents.invs
  forms-upgraded forms =
      forms-longer longer u.contents.invs
      (subst (λ (b : Option ℕ). AreForms Sigma1 b u.contents.invs) unbounded
      (subst (λ (v : ℕ). AreForms (signature_of v) u.contents.bound u.contents.invs) first forms))

  passes-upgraded : Passes policy bytes u.contents code marks
      → Passes policy out renamed code marks
  passes-upgraded passes =
      let p = by-clause passes in
      let named : IsFor policy (Number (kind_number u.kind)) =
      subst (IsFor policy) u.number p.named in
      passes-by policy out renamed code marks u.short (digest-for policy u.kind kept named)
      (record {
        container = u.new;
        encoded =
            later u.contents.code code
            (subst (λ (v : ℕ). EncodesCode (profile_of v) u.contents.code code) first p.encoded);
        code = p.code;
      }) p.annotated
      (none-next (height_found (roots renamed)) (typed_found Sigma2 renamed code)
      (low-unfound (roots renamed)
      (subst (λ (ts : List Tree). AreLow ts) (renamed-roots (built_in u.kind) u.contents none) p.heights))
      (none-next (form_found Sigma2 None u.contents.invs) (formula_found Sigma2 [] ∷ cut_found renamed code)
      (form-unfound Sigma2 None u.contents.invs (forms-upgraded p.forms))
      (none-next (formula_found Sigma2 []) (cut_found renamed code) (formula-unfound Sigma2 [] (no-formulas Sigma2))
      (cut-none policy bytes u.contents code marks passes))))

  -- with no lemmas a proof checks over the first signature alone
  proved-first : (proof vc : Tree)
      → Checks (with_lemmas (declared (signature_of u.contents.version))
      (formulas_of u.contents.lemmas)) [] proof (pf vc) → Checks (declared Sigma1) [] proof (pf vc)
  proved-first proof vc h =
      subst (λ (sig : Const → Option Tree). Checks sig [] proof (pf vc)) (none-added Sigma1)
      (subst
      (λ (l : List (Tree × Tree)).
      Checks (with_lemmas (declared Sigma1) (formulas_of l)) [] proof (pf vc))
      none
      (subst
      (λ (v : ℕ). Checks (with_lemmas (declared (signature_of v)) (formulas_of u.contents.lemmas))
      [] proof (pf vc))
      first h))

  -- and its weight is all that weighs
  light-first : (proof : Tree)
      → proof_weight (signature_of u.contents.version) u.contents.lemmas proof ≤ MAX_WEIGHT
      → proof_weight Sigma1 [] proof ≤ MAX_WEIGHT
  light-first proof h =
      subst (λ (l : List (Tree × Tree)). proof_weight Sigma1 l proof ≤ MAX_WEIGHT) none
      (subst (λ (v : ℕ). proof_weight (signature_of v) u.contents.lemmas proof ≤ MAX_WEIGHT)
      first h)

  accepts-upgraded : Accepts policy bytes u.contents code marks
      → Accepts policy out renamed code marks
  accepts-upgraded accepted =
      let a = proof-by-clause accepted in
      let proved : Checks (declared Sigma1) [] a.proof (pf a.vc) =
      proved-first a.proof a.vc a.proved in
      let later : Checks (declared Sigma2) [] a.proof (pf a.vc) =
      longer Sigma1 Sigma2 [] a.proof (pf a.vc) (omega arith) (omega arith) proved in
      let light : proof_weight Sigma1 [] a.proof ≤ MAX_WEIGHT = light-first a.proof a.weight in
      let same : weight_of (places_of Sigma2) a.proof ≡ weight_of (places_of Sigma1) a.proof =
      weighs Sigma1 Sigma2 [] a.proof (pf a.vc) (omega arith) proved in
      from-proof (passes-upgraded accepted.passes) (record {
        proof = a.proof;
        vc = a.vc;
        given = a.given;
        weight = subst (λ n. lemmas_weight Sigma1 [] + n ≤ MAX_WEIGHT) (sym same) light;
        lemmas = none-check Sigma2;
        condition =
            subst (λ (b : Option ℕ). EncodesCondition policy b code u.contents.invs a.vc)
            unbounded a.condition;
        proved =
            subst (λ (sig : Const → Option Tree). Checks sig [] a.proof (pf a.vc))
            (sym (none-added Sigma2)) later;
      })

pub upgraded-accepted : CodeLater → ChecksLonger → WeighsAlike → OneContent → UpgradedAccepted
upgraded-accepted later longer weighs one policy bytes out kept u it =
    let same : it.contents ≡ u.contents =
    one bytes it.contents u.contents it.accepts.passes.has.container u.old in
    let accepts : Accepts policy bytes u.contents it.code it.marks =
    subst (λ (c : Contents). Accepts policy bytes c it.code it.marks) same it.accepts in
    record {
      contents = with_digest (built_in u.kind) u.contents;
      code = it.code;
      marks = it.marks;
      accepts =
          accepts-upgraded later longer weighs policy bytes out kept u it.code it.marks accepts;
    }
