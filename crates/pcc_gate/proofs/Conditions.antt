-- The term of the condition, and whether a proof proves it.
use Rattle.std.proofs.Common.{◌≡◌, ℕ, true, false, List, [], ◌∷◌, length, Option, Some, None, refl, sym, ◌∙◌, ap, subst, All}
use Rattle.alpha_words.specs.declared.insn.Insn.{Insn}
use Rattle.policy_set.specs.Views.{PolicyView}
use Rattle.term_table.specs.Tree.{Tree, Const}
use Rattle.lf_signature.specs.Constants.{declared, operators_of}
use Rattle.lf_signature.specs.Terms.{pf}
use Rattle.lf_lemmas.specs.Lemmas.{formulas_of, with_lemmas}
use Rattle.lf_signature.specs.Typing.{Checks}
use Rattle.lf_signature.specs.Laws.Decided.{checks_is, checks_follows}
use Rattle.formula_tree.specs.Formulas.{Form}
use Rattle.lf_encode.specs.declared.contexts.Sort as sort
use Rattle.lf_encode.specs.Contexts.{bound_sorts, EncodesForm}
use Rattle.lf_encode.specs.Naming.{unnamed_form}
use Rattle.lf_encode.specs.Reading.{form_of}
use Rattle.lf_encode.proofs.Named.{form_encoded}
use Rattle.lf_encode.proofs.Decoded.{form_of-encoding}
use Rattle.lf_encode.proofs.MachineContext.{bound_sorts-machine, bound_sorts-left}
use Rattle.vcgen.specs.Encoded.{context_of, AreForms, AreEncodings, EncodesCondition}
use Rattle.vcgen.proofs.Encodings.{encoding-unique}
use Rattle.pcc_gate.specs.First.{formula_of, formulas, vc_of, proves}
use Rattle.pcc_gate.proofs.Searches.{not-true}
use Rattle.lf_signature.specs.declared.editions.WordSignature.{WordSignature}
use Rattle.std.proofs.lemmas.List.Elements.{All-nil, All-cons}
use Rattle.lf_signature.specs.Known.{HasOp}
use Rattle.lf_signature.specs.Laws.Within.{declared_known, declared-has}
use Rattle.formula_tree.specs.Operators.{Uses}
use Rattle.formula_tree.proofs.Used.{uses-more}
use Rattle.word_ops.specs.Operators.{has_op}

-- ---- the condition's term

-- none of the context's variables is bound
none-bound : (bound : Option ℕ) → bound_sorts (context_of bound) ≡ []
none-bound None = bound_sorts-machine
none-bound (Some most) = bound_sorts-left

formula_of-encoding : (bound : Option ℕ) (t : Tree) (F : Form) → EncodesForm (context_of bound) F t
    → formula_of t ≡ F
formula_of-encoding bound t F e =
    ap (λ B. unnamed_form (length B) (form_of t)) (sym (none-bound bound))
    ∙ form_of-encoding (context_of bound) t F e

-- each invariant encodes its formula
pub formulas-encoded : (s : WordSignature) (bound : Option ℕ) (ps : List (ℕ × Tree))
    → AreForms s bound ps → AreEncodings bound ps (formulas ps)
formulas-encoded s bound [] h = tt
formulas-encoded s bound (p ∷ ps) h =
    let ctx : List sort.Sort = context_of bound in
    let f = form_encoded (declared s) (declared_known s) ctx p.1 h.0 in (
      refl,
      subst (λ F. EncodesForm ctx F p.1) (sym (formula_of-encoding bound p.1 f.0 f.1)) f.1,
      formulas-encoded s bound ps h.1,
    )

pub vc_of-encodes : (s : WordSignature) (policy : PolicyView) (bound : Option ℕ) (code : List Insn)
    (ps : List (ℕ × Tree)) → AreForms s bound ps
    → EncodesCondition policy bound code ps (vc_of policy bound code ps)
vc_of-encodes s policy bound code ps h =
    record { formulas = formulas ps; encoded = formulas-encoded s bound ps h; is = refl }

-- the operators of those over a signature are its profile's
pub formulas-used : (s : WordSignature) (bound : Option ℕ) (ps : List (ℕ × Tree)) → AreForms s bound ps
    → All (λ q. Uses (λ o. has_op (operators_of s) o ≡ true) q.1) (formulas ps)
formulas-used s bound [] h = All-nil (λ (q : ℕ × Form). Uses (λ o. has_op (operators_of s) o ≡ true) q.1)
formulas-used s bound (p ∷ ps) h =
    let f = form_encoded (declared s) (declared_known s) (context_of bound) p.1 h.0 in
    let used = subst (λ F. Uses (HasOp (declared s)) F)
    (sym (formula_of-encoding bound p.1 f.0 f.1)) f.2 in
    All-cons (λ (q : ℕ × Form). Uses (λ o. has_op (operators_of s) o ≡ true) q.1) (p.0, formula_of p.1) (formulas ps)
    (uses-more (HasOp (declared s)) (λ o. has_op (operators_of s) o ≡ true) (declared-has s) (formula_of p.1) used)
    (formulas-used s bound ps h.1)

-- ---- whether it is proved

-- a condition's term is that of the first refusal
pub condition-one : (s : WordSignature) (policy : PolicyView) (bound : Option ℕ) (code : List Insn)
    (ps : List (ℕ × Tree)) (vc : Tree) → AreForms s bound ps
    → EncodesCondition policy bound code ps vc → vc ≡ vc_of policy bound code ps
condition-one s policy bound code ps vc h e =
    encoding-unique policy bound code ps vc (vc_of policy bound code ps) e
    (vc_of-encodes s policy bound code ps h)

-- the signature with all lemmas
abbrev pub extended : WordSignature → List (Tree × Tree) → Const → Option Tree
extended s lemmas = with_lemmas (declared s) (formulas_of lemmas)

-- whether it proves it, by an answer to words
pub proves-true : (s : WordSignature) (lemmas : List (Tree × Tree)) (proof vc : Tree)
    → Checks (extended s lemmas) [] proof (pf vc) → proves s lemmas proof vc ≡ true
proves-true s lemmas proof vc h = checks_is (extended s lemmas) h

pub proves-follows : (s : WordSignature) (lemmas : List (Tree × Tree)) (proof vc : Tree)
    → proves s lemmas proof vc ≡ true → Checks (extended s lemmas) [] proof (pf vc)
proves-follows s lemmas proof vc e = checks_follows (extended s lemmas) proof [] (pf vc) e

pub proves-false : (s : WordSignature) (lemmas : List (Tree × Tree)) (proof vc : Tree)
    → (Checks (extended s lemmas) [] proof (pf vc) → ⊥) → proves s lemmas proof vc ≡ false
proves-false s lemmas proof vc h =
    not-true (proves s lemmas proof vc) (λ e. h (proves-follows s lemmas proof vc e))

module _ (s : WordSignature) (lemmas : List (Tree × Tree)) (policy : PolicyView) (bound : Option ℕ)
    (code : List Insn) (ps : List (ℕ × Tree)) (proof vc : Tree) (h : AreForms s bound ps)
    (e : EncodesCondition policy bound code ps vc) where
  pub judged-true : Checks (extended s lemmas) [] proof (pf vc)
      → proves s lemmas proof (vc_of policy bound code ps) ≡ true
  judged-true k =
      subst (λ x. proves s lemmas proof x ≡ true) (condition-one s policy bound code ps vc h e)
      (proves-true s lemmas proof vc k)

  pub judged-false : (Checks (extended s lemmas) [] proof (pf vc) → ⊥)
      → proves s lemmas proof (vc_of policy bound code ps) ≡ false
  judged-false k =
      subst (λ x. proves s lemmas proof x ≡ false) (condition-one s policy bound code ps vc h e)
      (proves-false s lemmas proof vc k)
