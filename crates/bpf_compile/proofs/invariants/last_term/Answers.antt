use Rattle.std.proofs.Common.{ap, ◌∙◌}
use Rattle.policy_set.specs.Views.{PolicyView}
use Rattle.bpf_compile.proofs.Terms.{last-over}
use Rattle.bpf_compile.proofs.invariants.last_term.Goals as goal

pub encode_form-requires-clause-over : goal.encode_form-requires-clause-over
encode_form-requires-clause-over c =
    last-over _ _ c.machine_context.ensures
    (c.post.ensures.exact ∙ ap (λ (p : PolicyView). p.post) c.requires)
