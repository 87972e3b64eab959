-- What holds of each kind of policy, and of those that are found.
use Rattle.std.proofs.Common.{◌≡◌, ℕ, ◌==◌, map, slice_get, Some, refl, sym, ◌∙◌, ap, eqb-true}
use Rattle.std.specs.Option.{option_map}
use Rattle.std.proofs.lemmas.Option.{same_Some, slice_get-map}
use Rattle.word_ops.proofs.EachOp.{find-passes}
use Rattle.policy_set.specs.declared.kind.PolicyKind.{PolicyKind}
use Rattle.policy_set.specs.declared.kind.PolicyKind.TheVariants.{Filter, Tag, Table}
use Rattle.policy_set.specs.Policies.{policy_kinds}
use Rattle.policy_set.specs.Names.{kind_number, kind_numbered}

-- each one is listed
listed : (kind : PolicyKind) → (n : ℕ) × (slice_get policy_kinds n ≡ Some kind)
listed Filter = (0, refl)
listed Tag = (1, refl)
listed Table = (2, refl)

value_at : {A : Type 0} (f : PolicyKind → A) (kind : PolicyKind) → slice_get (map f policy_kinds) (listed kind).0 ≡ Some (f kind)
value_at f kind = slice_get-map f policy_kinds (listed kind).0 ∙ ap (option_map f) (listed kind).1

-- what has the same values at the list has them at each one
pub each_kind_same : {A : Type 0} (f g : PolicyKind → A) → map f policy_kinds ≡ map g policy_kinds → (kind : PolicyKind) → f kind ≡ g kind
each_kind_same f g e kind =
    same_Some (f kind) (g kind)
    (sym (value_at f kind) ∙ ap (λ l. slice_get l (listed kind).0) e ∙ value_at g kind)

-- a kind is found by its number, and by no other
pub numbered-kind : (kind : PolicyKind) → kind_numbered (kind_number kind) ≡ Some kind
numbered-kind = each_kind_same (λ kind. kind_numbered (kind_number kind)) Some refl

pub kind-numbered : (n : ℕ) (kind : PolicyKind) → kind_numbered n ≡ Some kind → n ≡ kind_number kind
kind-numbered n kind e = sym (eqb-true (kind_number kind) n (find-passes (λ k. kind_number k == n) policy_kinds kind e))
