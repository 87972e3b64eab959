-- The code of accepted bytes is safe, and returns within its bound.
use Rattle.std.proofs.Common.{◌≡◌, ℕ, Bool, List, [], ◌∷◌, All, Option, Some, None, is_some, refl, subst, arith}
use Rattle.std.proofs.lemmas.List.Elements.{All-nil, All-cons}
use Rattle.alpha_words.specs.declared.insn.Insn.{Insn}
use Rattle.formula_tree.specs.Formulas.{Form}
use Rattle.formula_tree.specs.Truth.{IsValid}
use Rattle.formula_tree.specs.Scope.{IsWithin, IsOver}
use Rattle.policy_set.specs.Views.{PolicyView, IsPolicy}
use Rattle.term_table.specs.Tree.{Tree, Const}
use Rattle.lf_signature.specs.Constants.{declared}
use Rattle.lf_signature.specs.Terms.{pf}
use Rattle.lf_lemmas.specs.Lemmas.{proofs_of}
use Rattle.lf_lemmas.specs.WrittenOut.{inlined, written_out}
use Rattle.lf_signature.specs.Typing.{Checks}
use Rattle.lf_signature.specs.Order.{IsSignature}
use Rattle.lf_signature.specs.Laws.WellFormed.{declared_formed}
use Rattle.lf_signature.specs.Laws.Within.{declared-longest}
use Rattle.lf_encode.specs.Encoding.{form_encoding}
use Rattle.lf_truth.specs.Validity.{IsSoundSignature, AreGivenTypes, listed}
use Rattle.proof_container.specs.Contents.{Contents}
use Rattle.proof_container.specs.Versions.{IsBoundOf, signature_of}
use Rattle.vcgen.specs.Conditions.{condition}
use Rattle.vcgen.specs.Safety.{IsBound, IsAnnotated, IsSafe}
use Rattle.vcgen.specs.Encoded.{annotated, AreEncodings, EncodesCondition}
use Rattle.vcgen.proofs.WalkTrees.{encodes-within}
use Rattle.vcgen.proofs.Scopes.{condition-closed}
use Rattle.vcgen.proofs.Encodings.{encoded-annotates, encoding-unique, policy-safe, policy-returns}
use Rattle.pcc_gate.specs.Accepted.{Accepts}
use Rattle.pcc_gate.specs.Safe.{ReturnsInBound}
use Rattle.pcc_gate.specs.WrittenOut.{AcceptsWrittenOut}
use Rattle.pcc_gate.proofs.ByClause.{by-clause, proof-by-clause}
use Rattle.pcc_gate.proofs.WrittenOut.{accepted-written}
use Rattle.lf_signature.specs.declared.editions.WordSignature.{WordSignature}

-- the formulas of invariants are over m and r0 to r30, and the steps that are left where they are
-- counted
pub formulas-over : (bound : Option ℕ) (ps : List (ℕ × Tree)) (qs : List (ℕ × Form))
    → AreEncodings bound ps qs → All (λ (q : ℕ × Form). IsWithin (is_some bound) 31 q.1 []) qs
formulas-over bound [] [] f = All-nil (λ (q : ℕ × Form). IsWithin (is_some bound) 31 q.1 [])
formulas-over bound [] (q ∷ qs) f = absurd f
formulas-over bound (p ∷ ps) [] f = absurd f
formulas-over bound (p ∷ ps) (q ∷ qs) f =
    All-cons (λ (q : ℕ × Form). IsWithin (is_some bound) 31 q.1 []) q qs
    (encodes-within bound q.1 p.1 f.1) (formulas-over bound ps qs f.2)

-- the bound of a container is a word
pub bound-fits : (version : ℕ) (bound : Option ℕ) → IsBoundOf version bound → IsBound bound
bound-fits version None h = tt
bound-fits version (Some most) h = omega (arith, h.2)

-- each signature of word arithmetic is sound
abbrev pub AreSound : Type 0
AreSound = (s : WordSignature) → IsSoundSignature (declared s)

-- so it is, where each lawful signature of given types is
pub all-sound : ((sig : Const → Option Tree) → IsSignature sig → AreGivenTypes sig
    → IsSoundSignature sig)
    → AreSound
all-sound sound s =
    sound (declared s) (declared_formed s) (λ k a e. listed (declared-longest s k a e))

module _ (sound : AreSound) (policy : PolicyView) (bytes : List ℕ) (contents : Contents)
    (code : List Insn) (marks : List Bool) (kept : IsPolicy policy)
    (a : Accepts policy bytes contents code marks) where
  fits : IsBound contents.bound
  fits = bound-fits contents.version contents.bound a.passes.has.container.contents.bound

  -- The condition of any formulas that the invariants encode is true in every structure: the proof
  -- with every lemma written out proves it.
  pub accepted-valid : (fs : List (ℕ × Form)) → AreEncodings contents.bound contents.invs fs
      → IsValid (condition (annotated policy contents.bound code fs))
  accepted-valid fs enc =
      let p = by-clause a.passes in
      let most = contents.bound in
      let f : Form = condition (annotated policy most code fs) in
      let out : AcceptsWrittenOut policy bytes contents code marks =
      accepted-written policy bytes contents code marks a in
      let mine : EncodesCondition policy most code contents.invs (form_encoding f) =
      record { formulas = fs; encoded = enc; is = refl } in
      let same : out.vc ≡ form_encoding f =
      encoding-unique policy most code contents.invs out.vc (form_encoding f) out.condition mine in
      let is : IsAnnotated (annotated policy most code fs) =
      encoded-annotates policy most code contents.invs fs marks kept fits enc p.code p.annotated
      p.cut in
      let over : IsOver 0 f [] =
      condition-closed (annotated policy most code fs) is
      (formulas-over most contents.invs fs enc) in
      let s : WordSignature = signature_of contents.version in
      let proof : Tree = inlined (proofs_of (written_out contents.lemmas)) out.proof in
      sound s f proof over (subst (λ t. Checks (declared s) [] proof (pf t)) same out.written.last)

  pub accepted-safe : IsSafe code policy.pre policy.post
  accepted-safe =
      let p = by-clause a.passes in
      let e = (proof-by-clause a).condition in
      policy-safe policy contents.bound code contents.invs e.formulas marks kept fits e.encoded
      p.code p.annotated p.cut (accepted-valid e.formulas e.encoded)

  -- where the container has a bound, it returns within that
  pub accepted-returns : ReturnsInBound policy contents.bound code
  accepted-returns most is =
      let p = by-clause a.passes in
      let e = (proof-by-clause a).condition in
      let fs : List (ℕ × Form) = e.formulas in
      let encoded : AreEncodings (Some most) contents.invs fs =
      subst (λ b. AreEncodings b contents.invs fs) is e.encoded in
      let valid : IsValid (condition (annotated policy (Some most) code fs)) =
      subst (λ b. IsValid (condition (annotated policy b code fs))) is
      (accepted-valid fs e.encoded) in
      policy-returns policy most code contents.invs fs marks kept (subst IsBound is fits) encoded
      p.code p.annotated p.cut valid
