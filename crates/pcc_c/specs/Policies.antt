-- The policy that bytes give, and its digest.
use Rattle.std.specs.Prelude.{ℕ, nat_lt, if◌then◌else◌, List, Option, Some, None, Result, Ok, Err}
use Rattle.term_table.specs.Steps.{◌>>=◌}
use Rattle.proof_container.specs.Versions.{is_numbered}
use Rattle.policy_set.specs.Views.{PolicyView}
use Rattle.policy_set.specs.Names.{policy_of}
use Rattle.policy_set.specs.Digest.{digest_of}
use Rattle.policy_set.specs.PolicyText.{policy_read}
use Rattle.policy_set.specs.declared.fault.PolicyFlaw.{PolicyFlaw}
use Rattle.policy_set.specs.declared.fault.PolicyFlaw.TheVariants as flaw
use Rattle.pcc_c.specs.declared.reason.Reason.{Reason}
use Rattle.pcc_c.specs.declared.reason.Reason.TheVariants as reason

-- why bytes give no policy: at most one line is taken for a name, and more for a policy file
abbrev pub policy_reason : PolicyFlaw → Reason
policy_reason (flaw.Lines count) =
    if nat_lt count 2 then reason.UnknownPolicy else reason.BadPolicy (flaw.Lines count)
policy_reason (flaw.Length line) = reason.BadPolicy (flaw.Length line)
policy_reason (flaw.Form line position what) = reason.BadPolicy (flaw.Form line position what)

-- what was read as a policy file
abbrev pub file_policy : Result PolicyView PolicyFlaw → Result PolicyView Reason
file_policy (Ok policy) = Ok policy
file_policy (Err e) = Err (policy_reason e)

-- the built-in policy, if the bytes are its name, else what they are as a policy file
abbrev pub policy_or_file : Option PolicyView → List ℕ → Result PolicyView Reason
policy_or_file (Some policy) bytes = Ok policy
policy_or_file None bytes = file_policy (policy_read bytes)

-- the policy that the bytes give, by its name or as a policy file
abbrev pub policy_given : List ℕ → Result PolicyView Reason
policy_given bytes = policy_or_file (policy_of bytes) bytes

-- the built-in policy, if there is one
abbrev pub built_in_policy : Option PolicyView → Result PolicyView Reason
built_in_policy (Some policy) = Ok policy
built_in_policy None = Err reason.UnknownPolicy

-- the policy for a container of the version: one that a number names is built in
abbrev pub policy_for : ℕ → List ℕ → Result PolicyView Reason
policy_for version bytes =
    if is_numbered version then built_in_policy (policy_of bytes) else policy_given bytes

-- what `pcc_policy` makes: the digest of the policy that the bytes give
abbrev pub digest_answer : List ℕ → Result (List ℕ) Reason
digest_answer bytes = do
  policy ← policy_given bytes
  Ok (digest_of policy)
