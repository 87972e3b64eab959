-- Which containers are for a policy: the head names it.
use Rattle.std.specs.Prelude.{◌≡◌, Bool}
use Rattle.std.specs.Str.{bytes_eq}
use Rattle.policy_set.specs.Views.{PolicyView}
use Rattle.policy_set.specs.Names.{IsNumberOf, is_number_of}
use Rattle.policy_set.specs.Digest.{digest_of}
use Rattle.proof_container.specs.declared.container.Head.{Head}
use Rattle.proof_container.specs.declared.container.Head.TheVariants.{Number, Digest}

-- The head names the policy: by its number, where it isn't from a file, or by the digest of its
-- text.
abbrev pub IsFor : PolicyView → Head → Type 0
IsFor policy (Number n) = IsNumberOf policy n
IsFor policy (Digest d) = d ≡ digest_of policy

-- the same as a test
abbrev pub is_for : PolicyView → Head → Bool
is_for policy (Number n) = is_number_of policy n
is_for policy (Digest d) = bytes_eq d (digest_of policy)
