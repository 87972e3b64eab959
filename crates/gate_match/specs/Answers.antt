-- What `is_condition_with` answers.
use Rattle.std.specs.Prelude.{◌≡◌, ◌↔◌, ℕ, ◌<◌, ◌≤◌, List, Bool, IsTrue, Option, Result, Ok, Err}
use Rattle.alpha_cfg.specs.Cuts.{CutView, unfolded_of}
use Rattle.alpha_cfg.specs.Graph.{as_u32}
use Rattle.policy_set.specs.Views.{PolicyView}
use Rattle.term_table.specs.Tree.{Tree}
use Rattle.vcgen.specs.declared.fault.VcFault.{VcFault}
use Rattle.vcgen.specs.declared.fault.VcFault.TheVariants.{UnfoldLimit, Memory, Results}
use Rattle.vcgen.specs.declared.condition.TheConstants.{MAX_UNFOLDED}
use Rattle.vcgen.specs.Encoded.{EncodesCondition}

-- Whether the formula is the condition's encoding where the unfolded length is within its limit, which is tested first; else that length.
abbrev pub IsConditionAnswer : PolicyView → Option ℕ → CutView → List (ℕ × Tree) → Tree → Result Bool VcFault
    → Type 0
IsConditionAnswer policy bound cut invs formula (Ok b) = (unfolded_of cut.code cut.marks ≤ MAX_UNFOLDED) × (IsTrue b ↔ EncodesCondition policy bound cut.code invs formula)
IsConditionAnswer policy bound cut invs formula (Err (UnfoldLimit n)) = (MAX_UNFOLDED < unfolded_of cut.code cut.marks) × (n ≡ as_u32 (unfolded_of cut.code cut.marks))
IsConditionAnswer policy bound cut invs formula (Err Memory) = unfolded_of cut.code cut.marks ≤ MAX_UNFOLDED
IsConditionAnswer policy bound cut invs formula (Err Results) = unfolded_of cut.code cut.marks ≤ MAX_UNFOLDED
