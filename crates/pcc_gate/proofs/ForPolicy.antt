-- The test of a head says whether it names the policy.
use Rattle.std.proofs.Common.{◌≡◌, Bool, true, false, refl, sym, ◌∙◌}
use Rattle.std.proofs.lemmas.Bool.{false≢true}
use Rattle.std.proofs.lemmas.Slice.Eq.{bytes_eq-Decides}
use Rattle.policy_set.specs.Views.{PolicyView}
use Rattle.policy_set.specs.Digest.{digest_of}
use Rattle.policy_set.proofs.Numbers.{number-true, number-is}
use Rattle.proof_container.specs.declared.container.Head.{Head}
use Rattle.proof_container.specs.declared.container.Head.TheVariants.{Number, Digest}
use Rattle.pcc_gate.specs.ForPolicy.{IsFor, is_for}

module _ (policy : PolicyView) where
  pub for-true : (h : Head) → IsFor policy h → is_for policy h ≡ true
  for-true (Number n) k = number-true policy n k
  for-true (Digest d) k = (bytes_eq-Decides d (digest_of policy)).1 k

  pub for-is : (h : Head) → is_for policy h ≡ true → IsFor policy h
  for-is (Number n) e = number-is policy n e
  for-is (Digest d) e = (bytes_eq-Decides d (digest_of policy)).0 e

  pub for-not : (h : Head) → is_for policy h ≡ false → IsFor policy h → ⊥
  for-not h e k = false≢true (sym e ∙ for-true h k)

  pub for-false : (h : Head) → (IsFor policy h → ⊥) → is_for policy h ≡ false
  for-false h k = go (is_for policy h) refl
    where
      go : (b : Bool) → is_for policy h ≡ b → is_for policy h ≡ false
      go true e = absurd (k (for-is h e))
      go false e = e
