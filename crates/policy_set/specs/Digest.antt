-- The digest of a policy: the SHA-256 of its two formulas as text.
use Rattle.std.specs.Prelude.{ℕ, List, [], ◌∷◌, ◌++◌}
use Rattle.sha2.specs.Sha256.{sha256}
use Rattle.formula_tree.specs.Formulas.{Form}
use Rattle.formula_text.specs.Printing.{form_text}
use Rattle.policy_set.specs.Views.{PolicyView}

-- a formula as it is printed, and an LF
abbrev pub form_line : Form → List ℕ
form_line F = form_text 0 F ++ 10 ∷ []

-- the text of a policy: the precondition and the postcondition, a line each
abbrev pub policy_text : PolicyView → List ℕ
policy_text policy = form_line policy.pre ++ form_line policy.post

-- the digest of a policy, which is that of its text
abbrev pub digest_of : PolicyView → List ℕ
digest_of policy = sha256 (policy_text policy)
