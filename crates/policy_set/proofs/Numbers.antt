-- The test of a policy's number is the relation.
use Rattle.std.proofs.Common.{◌≡◌, ◌↔◌, ℕ, true, Option, Some, None, refl, ◌∙◌, ap, eq-eqb, eqb-true}
use Rattle.std.proofs.lemmas.Bool.{false≢true}
use Rattle.policy_set.specs.declared.kind.PolicyKind.{PolicyKind}
use Rattle.policy_set.specs.Names.{kind_number, is_kind_number, IsNumberOf, is_number_of}
use Rattle.policy_set.specs.Views.{PolicyView}

pub number-true : (policy : PolicyView) (n : ℕ) → IsNumberOf policy n → is_number_of policy n ≡ true
number-true policy n h = ap (λ o. is_kind_number o n) h.1 ∙ eq-eqb n (kind_number h.0) h.2

by-kind : (policy : PolicyView) (n : ℕ) (o : Option PolicyKind) → policy.kind ≡ o
    → is_kind_number o n ≡ true → IsNumberOf policy n
by-kind policy n None e h = absurd (false≢true h)
by-kind policy n (Some kind) e h = (kind, e, eqb-true n (kind_number kind) h)

pub number-is : (policy : PolicyView) (n : ℕ) → is_number_of policy n ≡ true → IsNumberOf policy n
number-is policy n h = by-kind policy n policy.kind refl h

pub number-exactly : (policy : PolicyView) (n : ℕ)
    → (is_number_of policy n ≡ true) ↔ IsNumberOf policy n
number-exactly policy n = (number-is policy n, number-true policy n)
