-- The version that a policy from a file asks for.
use Rattle.std.proofs.Common.{ℕ, max, Option, Some, None, ap, arith}
use Rattle.pcc_words.specs.Commands.{IsVersionOf}
use Rattle.pcc_words.specs.Invocations.{PolicyWord, named, from_file}
use Rattle.auto_cli.specs.Arguments.{version_for}
use Rattle.auto_cli.specs.declared.arguments.TheConstants.{FILE_POLICY_VERSION}

-- it goes with the bound, or with none
pub version_fits : (word : PolicyWord) (bound : Option ℕ) (v : ℕ) → IsVersionOf bound v
    → IsVersionOf bound (version_for word v)
version_fits (named name) bound v h = h
version_fits (from_file name) (Some n) v h = (ap (λ x. max x FILE_POLICY_VERSION) h.0, h.1, h.2)
version_fits (from_file name) None v h = (omega arith, omega (arith, h.1))
