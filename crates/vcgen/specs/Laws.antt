-- What verification conditions are for.
use Rattle.std.specs.Prelude.{◌≡◌, ℕ, ◌<◌, ◌^◌, Bool, List, [], length, map, Option, Some, None, All, is_some}
use Rattle.alpha_words.specs.declared.insn.Insn.{Insn}
use Rattle.alpha_cfg.specs.Flow.{IsCode}
use Rattle.alpha_cfg.specs.Cuts.{IsCut, AreFlags}
use Rattle.alpha_cfg.specs.Machine.{State, IsState, step_of, run_of}
use Rattle.formula_tree.specs.Formulas.{Form}
use Rattle.formula_tree.specs.Scope.{IsWithin, IsOver}
use Rattle.formula_tree.specs.Truth.{IsValid}
use Rattle.policy_set.specs.Views.{PolicyView, IsPolicy}
use Rattle.policy_set.specs.Satisfies.{Satisfies}
use Rattle.term_table.specs.Tree.{Tree}
use Rattle.lf_signature.specs.declared.editions.WordSignature.{WordSignature}
use Rattle.lf_signature.specs.Constants.{Longest}
use Rattle.vcgen.specs.Conditions.{AnnotatedCode, invariant_at, wp, body, condition}
use Rattle.vcgen.specs.Safety.{IsBound, IsAnnotated, IsSafe, ReturnsWithin, Holds, IsGoodStep, IsGoodRun, all_steps}
use Rattle.vcgen.specs.Encoded.{annotated, AreForms, AreEncodings, EncodesCondition}

-- At an annotated index its invariant has to hold, at any other what has to hold before its instruction.
pub record WpIs (c : AnnotatedCode) (i : ℕ) : Type 0 where
  pub annotated : (F : Form) → invariant_at c.invs i ≡ Some F → wp c i ≡ F
  pub other : invariant_at c.invs i ≡ None → wp c i ≡ body c i

-- the same at each index of annotated code
abbrev pub WpUnfolds : Type 0
WpUnfolds = (c : AnnotatedCode) → IsAnnotated c → (i : ℕ) → i < length c.code → WpIs c i

-- Code whose condition is true in every structure is safe.
abbrev pub ConditionSafe : Type 0
ConditionSafe = (c : AnnotatedCode) → IsAnnotated c → IsValid (condition c) → IsSafe c.code c.pre c.post

-- Where its steps are counted, it returns within the bound.
abbrev pub ConditionReturns : Type 0
ConditionReturns = (c : AnnotatedCode) → IsAnnotated c → IsValid (condition c) → (bound : ℕ) → c.bound ≡ Some bound → ReturnsWithin bound c.code c.pre

-- What has to hold at index 0 does, in each state that satisfies the precondition.
abbrev pub HoldsAtStart : Type 0
HoldsAtStart = (c : AnnotatedCode) → IsAnnotated c → IsValid (condition c) → (s : State) → IsState s → s.index ≡ 0 → Satisfies s.rights s.regs s.memory c.pre → Holds c s (all_steps c.bound)

-- From each state at which it holds, at an annotated index or in between, a step is good, and so is a run.
abbrev pub StepsGood : Type 0
StepsGood = (c : AnnotatedCode) → IsAnnotated c → IsValid (condition c) → (s : State) (left : ℕ) → Holds c s left → IsGoodStep c s left (step_of c.code s)

-- The same of a run.
abbrev pub RunsGood : Type 0
RunsGood = (c : AnnotatedCode) → IsAnnotated c → IsValid (condition c) → (n : ℕ) (s : State) (left : ℕ) → Holds c s left → IsGoodRun c s n left (run_of c.code n s)

-- The condition of formulas over r0 to r30 and m, and over the steps that are left where these are
-- counted, is closed: it names none of them.
abbrev pub ConditionClosed : Type 0
ConditionClosed =
    (c : AnnotatedCode) → IsAnnotated c → All (λ p. IsWithin (is_some c.bound) 31 p.1 []) c.invs
    → IsOver 0 (condition c) []

-- ---- under a policy, the invariants being terms

-- What is a form over a signature is one over the longest, of which each other is the beginning.
abbrev pub FormsWider : Type 0
FormsWider =
    (s : WordSignature) (bound : Option ℕ) (invs : List (ℕ × Tree)) → AreForms s bound invs
    → AreForms Longest bound invs

-- Invariants that are forms have one condition.
abbrev pub EncodingExists : Type 0
EncodingExists =
    (policy : PolicyView) (bound : Option ℕ) (code : List Insn) (invs : List (ℕ × Tree))
    → AreForms Longest bound invs → (vc : Tree) × EncodesCondition policy bound code invs vc

-- They have one at most.
abbrev pub EncodingUnique : Type 0
EncodingUnique =
    (policy : PolicyView) (bound : Option ℕ) (code : List Insn) (invs : List (ℕ × Tree))
    (s t : Tree) → EncodesCondition policy bound code invs s
    → EncodesCondition policy bound code invs t → s ≡ t

-- Their formulas annotate the code, where its marks are theirs and cut it.
abbrev pub EncodedAnnotates : Type 0
EncodedAnnotates =
    (policy : PolicyView) (bound : Option ℕ) (code : List Insn) (invs : List (ℕ × Tree))
    (formulas : List (ℕ × Form)) (marks : List Bool) → IsPolicy policy → IsBound bound
    → AreEncodings bound invs formulas → IsCode code
    → AreFlags (map (λ p. p.0) invs) (length code) marks → IsCut code marks
    → IsAnnotated (annotated policy bound code formulas)

-- A true condition makes the policy's code safe.
abbrev pub PolicySafe : Type 0
PolicySafe =
    (policy : PolicyView) (bound : Option ℕ) (code : List Insn) (invs : List (ℕ × Tree))
    (formulas : List (ℕ × Form)) (marks : List Bool) → IsPolicy policy → IsBound bound
    → AreEncodings bound invs formulas → IsCode code
    → AreFlags (map (λ p. p.0) invs) (length code) marks → IsCut code marks
    → IsValid (condition (annotated policy bound code formulas))
    → IsSafe code policy.pre policy.post

-- Where it is that of a bound, the code returns within the bound.
abbrev pub PolicyReturns : Type 0
PolicyReturns =
    (policy : PolicyView) (bound : ℕ) (code : List Insn) (invs : List (ℕ × Tree))
    (formulas : List (ℕ × Form)) (marks : List Bool) → IsPolicy policy → bound < 2 ^ 64
    → AreEncodings (Some bound) invs formulas → IsCode code
    → AreFlags (map (λ p. p.0) invs) (length code) marks → IsCut code marks
    → IsValid (condition (annotated policy (Some bound) code formulas))
    → ReturnsWithin bound code policy.pre
