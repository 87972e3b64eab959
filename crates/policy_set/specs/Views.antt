-- Policies as contracts see them: two formulas, and a kind where they are built in.
use Rattle.std.specs.Prelude.{◌≡◌, ◌≤◌, [], Option, Some, IfSome}
use Rattle.word_ops.specs.declared.Op.{Op}
use Rattle.formula_tree.specs.Formulas.{Form}
use Rattle.formula_tree.specs.Scope.{IsOver}
use Rattle.formula_tree.specs.Sizes.{form_height}
use Rattle.formula_tree.specs.Operators.{Uses}
use Rattle.policy_set.specs.declared.kind.PolicyKind.{PolicyKind}
use Rattle.policy_set.specs.declared.limits.TheConstants.{MAX_FORM_HEIGHT}
use Rattle.policy_set.specs.Policies.{pre_of, post_of}

-- The kind, which a policy from a file hasn't, what holds before code starts, and what holds after
-- it returned.
pub record PolicyView : Type 0 where
  pub kind : Option PolicyKind
  pub pre : Form
  pub post : Form

-- the policy of a kind
abbrev pub built_in : PolicyKind → PolicyView
built_in kind = record { kind = Some kind; pre = pre_of kind; post = post_of kind }

-- Registers and m alone are free, each bound variable has its binder, of its sort, and the formula
-- isn't high.
pub record IsPolicyForm (F : Form) : Type 0 where
  pub over : IsOver 32 F []
  pub low : form_height F ≤ MAX_FORM_HEIGHT

-- What each policy keeps; where it has a kind, its formulas are those of the kind.
pub record IsPolicy (policy : PolicyView) : Type 0 where
  pub asked : IsPolicyForm policy.pre
  pub promised : IsPolicyForm policy.post
  pub of_kind : IfSome policy.kind
      (λ kind. (policy.pre ≡ pre_of kind) × (policy.post ≡ post_of kind))

-- each operator of both formulas is one of these
abbrev pub PolicyUses : (Op → Type 0) → PolicyView → Type 0
PolicyUses P policy = Uses P policy.pre × Uses P policy.post
