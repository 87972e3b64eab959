-- The formulas of invariants that are terms, and the encoding of their condition.
use Rattle.std.proofs.Common.{◌≡◌, ℕ, ◌<◌, ◌^◌, Bool, Option, is_some, List, [], ◌∷◌, map, length, Some, refl, sym, ◌∙◌, ap, subst, eqb, inl, inr}
use Rattle.std.proofs.lemmas.Bool.{cases_Bool}
use Rattle.std.proofs.lemmas.Option.{same_Some}
use Rattle.alpha_words.specs.declared.insn.Insn.{Insn}
use Rattle.alpha_cfg.specs.Flow.{IsCode}
use Rattle.alpha_cfg.specs.Cuts.{IsCut, AreFlags}
use Rattle.term_table.specs.Tree.{Tree}
use Rattle.formula_tree.specs.Formulas.{Form}
use Rattle.formula_tree.specs.Truth.{IsValid}
use Rattle.lf_encode.specs.Encoding.{form_encoding}
use Rattle.lf_encode.proofs.Named.{form_encoded, form_same}
use Rattle.policy_set.specs.Views.{PolicyView, IsPolicy}
use Rattle.vcgen.specs.Variables.{HasVarsBelow}
use Rattle.vcgen.specs.Conditions.{invariant_at, condition}
use Rattle.vcgen.specs.Safety.{IsBound, IsAnnotated, IsSafe, ReturnsWithin}
use Rattle.vcgen.specs.Encoded.{context_of, annotated, AreForms, AreEncodings, EncodesCondition}
use Rattle.vcgen.proofs.WalkTrees.{encodes-within}
use Rattle.vcgen.proofs.BoundValues.{vars-form}
use Rattle.vcgen.proofs.Steps.{condition-safe, condition-returns}
use Rattle.lf_signature.specs.Constants.{declared, Longest}
use Rattle.lf_signature.specs.declared.editions.WordSignature.{WordSignature}
use Rattle.lf_signature.specs.Laws.Restricted.{checks_more}
use Rattle.lf_signature.specs.Laws.Within.{declared_known, declared-longest}

-- what is a form over a signature is one over the longest
pub forms-wider : (s : WordSignature) (bound : Option ℕ) (ps : List (ℕ × Tree))
    → AreForms s bound ps → AreForms Longest bound ps
forms-wider s bound [] h = tt
forms-wider s bound (p ∷ ps) h =
    (checks_more (declared s) (declared Longest) (declared-longest s) h.0, forms-wider s bound ps h.1)

-- invariants that are forms have formulas
formulas-of : (bound : Option ℕ) (ps : List (ℕ × Tree)) → AreForms Longest bound ps
    → (qs : List (ℕ × Form)) × AreEncodings bound ps qs
formulas-of bound [] h = ([], tt)
formulas-of bound (p ∷ ps) h =
    let ctx = context_of bound in
    let f = form_encoded (declared Longest) (declared_known Longest) ctx p.1 h.0 in
    let r = formulas-of bound ps h.1 in
    ((p.0, f.0) ∷ r.0, (refl, f.1, r.1))

-- and no others
formulas-same : (bound : Option ℕ) (ps : List (ℕ × Tree)) (qs rs : List (ℕ × Form)) → AreEncodings bound ps qs → AreEncodings bound ps rs → qs ≡ rs
formulas-same bound [] [] [] f g = refl
formulas-same bound [] (q ∷ qs) rs f g = absurd f
formulas-same bound [] [] (r ∷ rs) f g = absurd g
formulas-same bound (p ∷ ps) [] rs f g = absurd f
formulas-same bound (p ∷ ps) (q ∷ qs) [] f g = absurd g
formulas-same bound (p ∷ ps) (q ∷ qs) (r ∷ rs) f g =
    let i : q.0 ≡ r.0 = f.0 ∙ sym g.0 in
    let e : q.1 ≡ r.1 = form_same (context_of bound) p.1 q.1 r.1 f.1 g.1 in
    let t : qs ≡ rs = formulas-same bound ps qs rs f.2 g.2 in
    λ k. (i k, e k) ∷ t k

indices-same : (bound : Option ℕ) (ps : List (ℕ × Tree)) (qs : List (ℕ × Form)) → AreEncodings bound ps qs → map (λ p. p.0) ps ≡ map (λ p. p.0) qs
indices-same bound [] [] f = refl
indices-same bound [] (q ∷ qs) f = absurd f
indices-same bound (p ∷ ps) [] f = absurd f
indices-same bound (p ∷ ps) (q ∷ qs) f = let i = sym f.0 in let t = indices-same bound ps qs f.2 in λ k. i k ∷ t k

vars-inv : (bound : Option ℕ) (ps : List (ℕ × Tree)) (qs : List (ℕ × Form)) → AreEncodings bound ps qs → (i : ℕ) (F : Form) → invariant_at qs i ≡ Some F → HasVarsBelow 0 F
vars-inv bound [] [] f i F q = cc
vars-inv bound [] (q ∷ qs) f i F e = absurd f
vars-inv bound (p ∷ ps) [] f i F e = absurd f
vars-inv bound (p ∷ ps) (q ∷ qs) f i F e =
    elim (cases_Bool (eqb q.0 i)) [
      | inl here ↦ subst (λ G. HasVarsBelow 0 G) (same_Some q.1 F (rw here at e)) (vars-form (is_some bound) 31 q.1 []
          (encodes-within bound q.1 p.1 f.1))
      | inr other ↦ vars-inv bound ps qs f.2 i F (rw other at e)
    ]

pub encoding-exists : (policy : PolicyView) (bound : Option ℕ) (code : List Insn)
    (invs : List (ℕ × Tree)) → AreForms Longest bound invs
    → (vc : Tree) × EncodesCondition policy bound code invs vc
encoding-exists policy bound code invs h =
    let f = formulas-of bound invs h in (
      form_encoding (condition (annotated policy bound code f.0)),
      record { formulas = f.0; encoded = f.1; is = refl },
    )

pub encoding-unique : (policy : PolicyView) (bound : Option ℕ) (code : List Insn)
    (invs : List (ℕ × Tree)) (s t : Tree) → EncodesCondition policy bound code invs s
    → EncodesCondition policy bound code invs t → s ≡ t
encoding-unique policy bound code invs s t f g =
    let same = formulas-same bound invs f.formulas g.formulas f.encoded g.encoded in
    sym f.is ∙ ap (λ qs. form_encoding (condition (annotated policy bound code qs))) same ∙ g.is

pub encoded-annotates : (policy : PolicyView) (bound : Option ℕ) (code : List Insn)
    (invs : List (ℕ × Tree)) (formulas : List (ℕ × Form)) (marks : List Bool)
    → IsPolicy policy → IsBound bound → AreEncodings bound invs formulas → IsCode code
    → AreFlags (map (λ p. p.0) invs) (length code) marks → IsCut code marks
    → IsAnnotated (annotated policy bound code formulas)
encoded-annotates policy bound code invs formulas marks kept word f is flags cut = record {
  code = is;
  invs = vars-inv bound invs formulas f;
  pre = kept.asked.over;
  post = kept.promised.over;
  bound = word;
  marks = marks;
  flags = subst (λ l. AreFlags l (length code) marks) (indices-same bound invs formulas f) flags;
  cut = cut;
}

pub policy-safe : (policy : PolicyView) (bound : Option ℕ) (code : List Insn)
    (invs : List (ℕ × Tree)) (formulas : List (ℕ × Form)) (marks : List Bool)
    → IsPolicy policy → IsBound bound → AreEncodings bound invs formulas → IsCode code
    → AreFlags (map (λ p. p.0) invs) (length code) marks → IsCut code marks
    → IsValid (condition (annotated policy bound code formulas))
    → IsSafe code policy.pre policy.post
policy-safe policy bound code invs formulas marks kept word f is flags cut valid =
    condition-safe (annotated policy bound code formulas)
    (encoded-annotates policy bound code invs formulas marks kept word f is flags cut) valid

pub policy-returns : (policy : PolicyView) (bound : ℕ) (code : List Insn)
    (invs : List (ℕ × Tree)) (formulas : List (ℕ × Form)) (marks : List Bool)
    → IsPolicy policy → bound < 2 ^ 64 → AreEncodings (Some bound) invs formulas → IsCode code
    → AreFlags (map (λ p. p.0) invs) (length code) marks → IsCut code marks
    → IsValid (condition (annotated policy (Some bound) code formulas))
    → ReturnsWithin bound code policy.pre
policy-returns policy bound code invs formulas marks kept word f is flags cut valid =
    let annotates =
    encoded-annotates policy (Some bound) code invs formulas marks kept word f is flags cut in
    condition-returns (annotated policy (Some bound) code formulas) annotates valid bound refl
