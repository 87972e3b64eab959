-- The policies' names and numbers.
use Rattle.std.specs.Prelude.{◌≡◌, ℕ, Bool, false, ◌==◌, List, Option, Some, None, find, option_map, unwrap_or}
use Rattle.std.specs.Str.{bytes_eq}
use Rattle.policy_set.specs.declared.kind.PolicyKind.{PolicyKind}
use Rattle.policy_set.specs.Policies.{policy_row, policy_kinds}
use Rattle.policy_set.specs.Views.{PolicyView, built_in}

-- ---- kinds

-- the number that containers carry
abbrev pub kind_number : PolicyKind → ℕ
kind_number kind = (policy_row kind).number

-- the name
abbrev pub kind_name : PolicyKind → List ℕ
kind_name kind = (policy_row kind).name

-- the kind of a name
abbrev pub kind_of : List ℕ → Option PolicyKind
kind_of name = find (λ kind. bytes_eq name (kind_name kind)) policy_kinds

-- the kind of a number
abbrev pub kind_numbered : ℕ → Option PolicyKind
kind_numbered n = find (λ kind. kind_number kind == n) policy_kinds

-- whether the number is that of the kind; without a kind none is
abbrev pub is_kind_number : Option PolicyKind → ℕ → Bool
is_kind_number None n = false
is_kind_number (Some kind) n = n == kind_number kind

-- ---- policies

-- the built-in policy of a name
abbrev pub policy_of : List ℕ → Option PolicyView
policy_of name = option_map built_in (kind_of name)

-- the number of a policy: 0 where it is from a file
abbrev pub policy_number : PolicyView → ℕ
policy_number policy = unwrap_or (option_map kind_number policy.kind) 0

-- containers with the number are for the policy: it isn't from a file, and the number is its own
abbrev pub IsNumberOf : PolicyView → ℕ → Type 0
IsNumberOf policy n = (kind : PolicyKind) × (policy.kind ≡ Some kind) × (n ≡ kind_number kind)

-- the same as a test
abbrev pub is_number_of : PolicyView → ℕ → Bool
is_number_of policy n = is_kind_number policy.kind n
