-- What acceptance promises.
use Rattle.std.specs.Prelude.{◌≡◌, ℕ, Bool, List, Option, Some}
use Rattle.alpha_words.specs.declared.insn.Insn.{Insn}
use Rattle.policy_set.specs.Views.{PolicyView, IsPolicy}
use Rattle.proof_container.specs.Contents.{Contents}
use Rattle.vcgen.specs.Safety.{IsSafe, ReturnsWithin}
use Rattle.pcc_gate.specs.Accepted.{Accepts}

-- The code of accepted bytes is safe for the policy, which keeps what each does: from each state at
-- index 0 that satisfies its precondition no run is blocked, and a return satisfies its
-- postcondition.
abbrev pub AcceptedSafe : Type 0
AcceptedSafe =
    (policy : PolicyView) (bytes : List ℕ) (contents : Contents) (code : List Insn)
    (marks : List Bool) → IsPolicy policy → Accepts policy bytes contents code marks
    → IsSafe code policy.pre policy.post

-- Where steps are bounded, from each state at index 0 that satisfies the precondition, under
-- whatever rights, a run of the code with a budget of at least the bound returns.
abbrev pub ReturnsInBound : PolicyView → Option ℕ → List Insn → Type 0
ReturnsInBound policy bound code =
    (most : ℕ) → bound ≡ Some most → ReturnsWithin most code policy.pre

-- So does the code of accepted bytes, by the bound of their container.
abbrev pub AcceptedReturns : Type 0
AcceptedReturns =
    (policy : PolicyView) (bytes : List ℕ) (contents : Contents) (code : List Insn)
    (marks : List Bool) → IsPolicy policy → Accepts policy bytes contents code marks
    → ReturnsInBound policy contents.bound code
