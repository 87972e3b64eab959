-- What policies keep, built in or spelled: their formulas are closed but for registers and m, and
-- aren't high. Their operators are those of the second profile, of what is built in the first's.
use Rattle.std.proofs.Common.{◌≡◌, ◌≤◌, ℕ, true, false, List, [], length, Option, Some, None, IfSome, option_map, refl, sym, subst, arith}
use Rattle.std.specs.Prelude.{nat_le}
use Rattle.std.specs.Global.{Box}
use Rattle.std.proofs.lemmas.Bool.{leb-true}
use Rattle.formula_tree.specs.declared.form.Form as lent
use Rattle.formula_tree.specs.Sizes.{form_height}
use Rattle.formula_tree.specs.Views.{form_view}
use Rattle.formula_tree.specs.Scope.{IsOver}
use Rattle.policy_set.specs.declared.kind.PolicyKind.{PolicyKind}
use Rattle.policy_set.specs.declared.kind.PolicyKind.TheVariants.{Filter, Tag, Table}
use Rattle.policy_set.specs.declared.limits.TheConstants.{MAX_FORM_HEIGHT, MAX_FORM_LINE}
use Rattle.policy_set.specs.Policies.{pre_of, post_of, long_packet, readable_packet, usable_scratch, separate_scratch}
use Rattle.policy_set.specs.Names.{kind_of, policy_of}
use Rattle.policy_set.specs.Views.{PolicyView, built_in, IsPolicyForm, IsPolicy, PolicyUses}
use Rattle.policy_set.specs.Inside.Held.{policy_view}
use Rattle.word_ops.specs.declared.Profile.TheVariants.{Two}
use Rattle.word_ops.specs.Operators.{IsFirstOp, has_op}
use Rattle.word_ops.proofs.EachOp.{last_has}
use Rattle.formula_tree.specs.Formulas.{Form}
use Rattle.formula_tree.specs.Operators.{Uses}
use Rattle.formula_text.specs.Grammar.{Spells}
use Rattle.formula_text.proofs.Closed.{spelled_closed}
use Rattle.policy_set.proofs.AllOperators.{uses-any}
use Rattle.policy_set.proofs.Heights.{spelled-low}

module _ (r : ℕ) (h : 31 ≤ r) where
  long_packet-over : IsOver r long_packet []
  long_packet-over = (omega (arith, h), omega (arith, h))

  readable_packet-over : IsOver r readable_packet []
  readable_packet-over = (
    ((refl, omega (arith, h)), ((refl, omega (arith, h)), omega (arith, h))),
    (omega (arith, h), refl),
  )

  usable_scratch-over : IsOver r usable_scratch []
  usable_scratch-over = (
    ((refl, omega (arith, h)), ((refl, omega (arith, h)), omega (arith, h))),
    ((omega (arith, h), refl), (omega (arith, h), refl)),
  )

  separate_scratch-over : IsOver r separate_scratch []
  separate_scratch-over = (
    (
      ((refl, omega (arith, h)), ((refl, omega (arith, h)), omega (arith, h))),
      ((refl, omega (arith, h)), ((refl, omega (arith, h)), omega (arith, h))),
    ),
    (((omega (arith, h), refl), (omega (arith, h), refl)), tt),
  )

  pub pre-within : (kind : PolicyKind) → IsOver r (pre_of kind) []
  pre-within Filter =
      (long_packet-over, (readable_packet-over, (usable_scratch-over, separate_scratch-over)))
  pre-within Tag = (
    (omega (arith, h), omega (arith, h)),
    (
      (omega (arith, h), omega (arith, h)),
      (
        (((omega (arith, h), (omega (arith, h), omega (arith, h))), omega (arith, h)), tt),
        (omega (arith, h), omega (arith, h)),
      ),
    ),
  )
  pre-within Table = (
    (omega (arith, h), omega (arith, h)),
    (
      (refl, omega (arith, h)),
      ((omega (arith, h), (refl, omega (arith, h))), (omega (arith, h), (refl, omega (arith, h)))),
    ),
  )

  pub post-within : (kind : PolicyKind) → IsOver r (post_of kind) []
  post-within Filter = (omega (arith, h), omega (arith, h))
  post-within Tag = tt
  post-within Table = tt

-- over r0 to r30
pub pre-over : (kind : PolicyKind) → IsOver 31 (pre_of kind) []
pre-over kind = pre-within 31 (omega arith) kind

pub post-over : (kind : PolicyKind) → IsOver 31 (post_of kind) []
post-over kind = post-within 31 (omega arith) kind

-- ---- operators

-- the policies' formulas have the first profile's alone
pub pre-first : (kind : PolicyKind) → Uses IsFirstOp (pre_of kind)
pre-first Filter = (
  (tt, tt),
  (
    (((tt, tt), ((refl, tt, tt), tt)), (refl, tt, tt)),
    (
      (((tt, tt), ((refl, tt, tt), tt)), ((refl, tt, tt), (refl, tt, tt))),
      ((((tt, tt), ((refl, tt, tt), tt)), ((tt, tt), ((refl, tt, tt), tt))), (((refl, tt, tt), (refl, tt, tt)), tt)),
    ),
  ),
)
pre-first Tag = ((refl, tt, tt), ((refl, tt, tt), ((((tt, (refl, tt, tt)), tt), tt), (refl, tt, tt))))
pre-first Table = ((tt, tt), ((tt, tt), ((refl, tt, (refl, tt, tt)), (refl, tt, (refl, tt, tt)))))

pub post-first : (kind : PolicyKind) → Uses IsFirstOp (post_of kind)
post-first Filter = (tt, tt)
post-first Tag = tt
post-first Table = tt

-- those of any policy are the second profile's, which is the last
pub policy-operators : (F : Form) → IsPolicyForm F → Uses (λ o. has_op Two o ≡ true) F
policy-operators F f = uses-any (λ o. has_op Two o ≡ true) last_has F

-- ---- heights

pre-few : (kind : PolicyKind) → nat_le (form_height (pre_of kind)) MAX_FORM_HEIGHT ≡ true
pre-few Filter = refl
pre-few Tag = refl
pre-few Table = refl

post-few : (kind : PolicyKind) → nat_le (form_height (post_of kind)) MAX_FORM_HEIGHT ≡ true
post-few Filter = refl
post-few Tag = refl
post-few Table = refl

-- ---- a policy's formulas

-- what a line spells
pub spelled-form : (line : List ℕ) (F : Form) → Spells Two false line F
    → length line ≤ MAX_FORM_LINE → IsPolicyForm F
spelled-form line F h short = record {
  over = spelled_closed Two false line F h;
  low = spelled-low Two line F h short;
}

-- ---- the policy of a kind

pub built_in-is : (kind : PolicyKind) → IsPolicy (built_in kind)
built_in-is kind = record {
  asked = record {
    over = pre-within 32 (omega arith) kind;
    low = leb-true (form_height (pre_of kind)) MAX_FORM_HEIGHT (pre-few kind);
  };
  promised = record {
    over = post-within 32 (omega arith) kind;
    low = leb-true (form_height (post_of kind)) MAX_FORM_HEIGHT (post-few kind);
  };
  of_kind = (refl, refl);
}

pub built_in-first : (kind : PolicyKind) → PolicyUses IsFirstOp (built_in kind)
built_in-first kind = (pre-first kind, post-first kind)

-- what is found by a name
pub policy_of-is : (name : List ℕ) → IfSome (policy_of name) IsPolicy
policy_of-is name = by (kind_of name)
  where
    by : (o : Option PolicyKind) → IfSome (option_map built_in o) IsPolicy
    by None = tt
    by (Some kind) = built_in-is kind

-- with these formulas in memory
pub held-built_in : (kind : PolicyKind) (pre post : Box lent.Form) → form_view pre.value ≡ pre_of kind
    → form_view post.value ≡ post_of kind → policy_view (Some kind) pre post ≡ built_in kind
held-built_in kind pre post p q = λ k. record { kind = Some kind; pre = p k; post = q k }

-- the same of a policy that is copied
pub held-again : (policy : PolicyView) (pre post : Box lent.Form) → form_view pre.value ≡ policy.pre
    → form_view post.value ≡ policy.post → policy_view policy.kind pre post ≡ policy
held-again policy pre post p q = λ k. record { kind = policy.kind; pre = p k; post = q k }

-- ---- by the kind

-- the formulas of a policy that has a kind
pub kind-formulas : (policy : PolicyView) (kind : PolicyKind) → IsPolicy policy → policy.kind
    ≡ Some kind → (policy.pre ≡ pre_of kind) × (policy.post ≡ post_of kind)
kind-formulas policy kind is e =
    subst (λ o. IfSome o (λ k. (policy.pre ≡ pre_of k) × (policy.post ≡ post_of k))) e is.of_kind

-- whose operators are the first profile's
pub kind-first : (policy : PolicyView) (kind : PolicyKind) → IsPolicy policy → policy.kind
    ≡ Some kind → PolicyUses IsFirstOp policy
kind-first policy kind is e =
    let f = kind-formulas policy kind is e in (
      subst (λ F. Uses IsFirstOp F) (sym f.0) (pre-first kind),
      subst (λ F. Uses IsFirstOp F) (sym f.1) (post-first kind),
    )
