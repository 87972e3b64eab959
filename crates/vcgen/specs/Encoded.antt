-- The encoding of the verification condition of a policy's code.
use Rattle.std.specs.Prelude.{◌≡◌, ℕ, List, [], ◌∷◌, Option, Some, None}
use Rattle.alpha_words.specs.declared.insn.Insn.{Insn}
use Rattle.policy_set.specs.Views.{PolicyView}
use Rattle.term_table.specs.Tree.{Tree}
use Rattle.lf_signature.specs.Constants.{declared}
use Rattle.lf_signature.specs.Terms.{form}
use Rattle.lf_signature.specs.Typing.{Checks}
use Rattle.formula_tree.specs.Formulas.{Form}
use Rattle.lf_encode.specs.Encoding.{form_encoding}
use Rattle.lf_encode.specs.declared.contexts.Sort as sort
use Rattle.lf_encode.specs.Contexts.{machine_context, left_context, sort_types, EncodesForm}
use Rattle.vcgen.specs.Conditions.{AnnotatedCode, condition}
use Rattle.lf_signature.specs.declared.editions.WordSignature.{WordSignature}

-- what invariants are over: m and r0 to r30, and the steps that are left where these are counted
abbrev pub context_of : Option ℕ → List sort.Sort
context_of None = machine_context
context_of (Some bound) = left_context

-- code with invariants, under a policy, and the most steps that it may make, where these are bounded
abbrev pub annotated : PolicyView → Option ℕ → List Insn → List (ℕ × Form) → AnnotatedCode
annotated policy bound code invs = record {
  code = code;
  invs = invs;
  pre = policy.pre;
  post = policy.post;
  bound = bound;
}

-- each invariant has type form over the signature, in the context of code with that bound
abbrev pub AreForms : WordSignature → Option ℕ → List (ℕ × Tree) → Type 0
AreForms s bound [] = Unit {0}
AreForms s bound (p ∷ ps) =
    Checks (declared s) (sort_types (context_of bound)) p.1 form × AreForms s bound ps

-- the terms encode the formulas over that context, index by index
abbrev pub AreEncodings : Option ℕ → List (ℕ × Tree) → List (ℕ × Form) → Type 0
AreEncodings bound [] [] = Unit {0}
AreEncodings bound [] (q ∷ qs) = ⊥
AreEncodings bound (p ∷ ps) [] = ⊥
AreEncodings bound (p ∷ ps) (q ∷ qs) =
    (q.0 ≡ p.0) × EncodesForm (context_of bound) q.1 p.1 × AreEncodings bound ps qs

-- The term is the encoding of the verification condition of the code under the policy and the
-- bound, the formulas of its invariants being those that the terms encode.
pub record EncodesCondition (policy : PolicyView) (bound : Option ℕ) (code : List Insn)
    (invs : List (ℕ × Tree)) (vc : Tree) : Type 0 where
  pub formulas : List (ℕ × Form)
  pub encoded : AreEncodings bound invs formulas
  pub is : form_encoding (condition (annotated policy bound code formulas)) ≡ vc
