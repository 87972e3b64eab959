use Rattle.std.proofs.Common.{ℕ, List, Vec, Global, sym, ap, ◌∙◌, subst}
use Rattle.policy_set.specs.Views.{PolicyView}
use Rattle.pcc_stages.specs.Stage.{gives, ◌>>=◌}
use Rattle.pcc_stages.specs.Stages.Containers.{container_bytes_of}
use Rattle.pcc_stages.specs.Stages.Policies.{policy_told}
use Rattle.auto_cli.specs.Arguments.{auto_args_view}
use Rattle.auto_cli.specs.Drafts.{draft_with, draft_in, draft_of, has_vain_flags}
use Rattle.auto_cli.specs.Inside.Finds.{FindsDraft}
use Rattle.auto_cli.proofs.Decided.{finds_stop_first, finds_stop_pure, finds_then, finds_same, finds_flags}
use Rattle.auto_cli.proofs.finding.find.Goals as goal

pub returns-in_err-policy : goal.returns-in_err-policy
unfolding draft_of
returns-in_err-policy g c =
    let a = auto_args_view c.args.args.now in
    finds_stop_first a.output (λ (p : PolicyView). p) (policy_told a.policy)
    (λ policy. container_bytes_of a.input >>= draft_in a policy) _ _ _ _ c.in_err-policy.field-0.0
    c.from_residual.result c.in_err-policy.ensures c.from_residual.ensures.1

pub returns-in_err-bytes : goal.returns-in_err-bytes
unfolding draft_of
returns-in_err-bytes g c =
    let a = auto_args_view c.args.args.now in
    let under = c.in_ok-policy.policy in
    finds_then a.output (λ (p : PolicyView). p) (policy_told a.policy)
    (λ policy. container_bytes_of a.input >>= draft_in a policy) _ _ _ _ _ _ under _
    c.in_ok-policy.ensures
    (finds_stop_first a.output (λ (v : Vec ℕ Global). v.items) (container_bytes_of a.input)
    (draft_in a under) _ _ _ _ c.in_err-bytes.field-0.0 c.from_residual-in_err-bytes.result
    c.in_err-bytes.ensures c.from_residual-in_err-bytes.ensures.1)

pub returns-then-has_vain_flags : goal.returns-then-has_vain_flags
unfolding draft_of
returns-then-has_vain_flags g c =
    let a = auto_args_view c.args.args.now in
    let under = c.in_ok-policy.policy in
    let bytes = c.in_ok-bytes.bytes in
    finds_then a.output (λ (p : PolicyView). p) (policy_told a.policy)
    (λ policy. container_bytes_of a.input >>= draft_in a policy) _ _ _ _ _ _ under _
    c.in_ok-policy.ensures
    (finds_then a.output (λ (v : Vec ℕ Global). v.items) (container_bytes_of a.input)
    (draft_in a under) _ _ _ _ _ _ bytes _ c.in_ok-bytes.ensures
    (finds_flags a.output a under bytes.items _ _
    (ap (has_vain_flags a) (sym c.deref.ensures.value) ∙ sym c.has_vain_flags.ensures
    ∙ c.if-has_vain_flags.true)))

pub returns-in_err-container : goal.returns-in_err-container
unfolding draft_of
returns-in_err-container g c =
    let a = auto_args_view c.args.args.now in
    let under = c.in_ok-policy.policy in
    let bytes = c.in_ok-bytes.bytes in
    finds_then a.output (λ (p : PolicyView). p) (policy_told a.policy)
    (λ policy. container_bytes_of a.input >>= draft_in a policy) _ _ _ _ _ _ under _
    c.in_ok-policy.ensures
    (finds_then a.output (λ (v : Vec ℕ Global). v.items) (container_bytes_of a.input)
    (draft_in a under) _ _ _ _ _ _ bytes _ c.in_ok-bytes.ensures
    (finds_stop_pure a.output (λ (v : Vec ℕ Global). draft_with under v.items)
    (draft_in a under bytes.items) _ _ c.in_err-container.field-0.0
    c.from_residual-in_err-container.result c.in_err-container.ensures
    c.from_residual-in_err-container.ensures.1))

pub returns : goal.returns
unfolding draft_of
returns g c =
    let a = auto_args_view c.args.args.now in
    let under = c.in_ok-policy.policy in
    let bytes = c.in_ok-bytes.bytes in
    let container = c.in_ok-container.container in
    finds_then a.output (λ (p : PolicyView). p) (policy_told a.policy)
    (λ policy. container_bytes_of a.input >>= draft_in a policy) _ _ _ _ _ _ under _
    c.in_ok-policy.ensures
    (finds_then a.output (λ (v : Vec ℕ Global). v.items) (container_bytes_of a.input)
    (draft_in a under) _ _ _ _ _ _ bytes _ c.in_ok-bytes.ensures
    (finds_same a.output (draft_in a under bytes.items) (draft_with under container.items) _ _ _ _ _
    c.in_ok-container.ensures
    (subst (λ (b : List ℕ). FindsDraft (gives (draft_with under b)) a.output
    (g.F.Files.log c.container_bytes_of.new.files) (g.F.Files.log c.searched.new.files)
    (g.F.Files.state c.container_bytes_of.new.files) (g.F.Files.state c.searched.new.files)
    c.searched.result) c.deref-2.ensures.value c.searched.ensures)))
