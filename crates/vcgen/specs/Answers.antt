-- What `vc` and `vc_with` answer.
use Rattle.std.specs.Prelude.{◌≡◌, ℕ, ◌<◌, ◌≤◌, List, [], ◌∷◌, Option, Result, Ok, Err, IfErr}
use Rattle.alpha_cfg.specs.Cuts.{CutView, unfolded_of}
use Rattle.alpha_cfg.specs.Graph.{as_u32}
use Rattle.policy_set.specs.Views.{PolicyView}
use Rattle.term_table.specs.Tree.{Tree}
use Rattle.term_table.specs.Measures.{height_of}
use Rattle.term_table.specs.Table.{TableView, IsKnown, tree_at}
use Rattle.vcgen.specs.declared.fault.VcFault.{VcFault}
use Rattle.vcgen.specs.declared.fault.VcFault.TheVariants.{UnfoldLimit, Memory, Results}
use Rattle.hereditary_subst.specs.Limits.{is_limited, left_of, IsSpent}
use Rattle.hereditary_subst.specs.declared.kept.Memo.{Memo}
use Rattle.hereditary_subst.specs.declared.exhausted.Exhausted.{Exhausted}
use Rattle.hereditary_subst.specs.declared.exhausted.Exhausted.TheVariants as exhausted
use Rattle.vcgen.specs.declared.condition.TheConstants.{MAX_UNFOLDED, MAX_HEIGHT}
use Rattle.vcgen.specs.Encoded.{EncodesCondition}

-- ids of invariants are the table's, and none of their terms is too high
abbrev pub AreLowInvs : TableView → List (ℕ × ℕ) → Type 0
AreLowInvs t [] = Unit {0}
AreLowInvs t (p ∷ ps) = IsKnown t p.1 × (height_of (tree_at t p.1) ≤ MAX_HEIGHT) × AreLowInvs t ps

-- what ran out, as a fault of `vc`
abbrev pub shortage_of : Exhausted → VcFault
shortage_of exhausted.Memory = Memory
shortage_of exhausted.Results = Results

-- The condition's encoding where the unfolded length is within its limit, which is tested before any memory is taken; else that length.
abbrev pub IsVcAnswer : PolicyView → Option ℕ → CutView → List (ℕ × Tree) → TableView → Result ℕ VcFault
    → Type 0
IsVcAnswer policy bound cut invs t (Ok id) = (unfolded_of cut.code cut.marks ≤ MAX_UNFOLDED) × IsKnown t id × EncodesCondition policy bound cut.code invs (tree_at t id)
IsVcAnswer policy bound cut invs t (Err (UnfoldLimit n)) = (MAX_UNFOLDED < unfolded_of cut.code cut.marks) × (n ≡ as_u32 (unfolded_of cut.code cut.marks))
IsVcAnswer policy bound cut invs t (Err Memory) = unfolded_of cut.code cut.marks ≤ MAX_UNFOLDED
IsVcAnswer policy bound cut invs t (Err Results) = unfolded_of cut.code cut.marks ≤ MAX_UNFOLDED

-- what a call says that is given a memo and leaves it, and the table, so: there is a limit if there was, no more is left of it,
-- and if the answer is `Results`, it is spent
abbrev pub SpendsVc : {A : Type 0} → TableView → Memo → Memo → Result A VcFault → Type 0
SpendsVc t old new r = (is_limited new ≡ is_limited old) × (left_of new ≤ left_of old) × IfErr r (λ f. f ≡ Results → IsSpent t new)
