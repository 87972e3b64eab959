use Rattle.std.proofs.Common.{◌≡◌, ℕ, List, Result, refl, sym, ap, ◌∙◌, subst}
use Rattle.file_port.specs.Events.{Event}
use Rattle.file_port.specs.Files.{FilesState}
use Rattle.policy_set.specs.Views.{PolicyView}
use Rattle.agent_script.specs.Statements.{LoadView}
use Rattle.agent_script.specs.Scripts.{load_view}
use Rattle.pcc_stages.specs.Stage.{Stage, gives, ◌>>=◌}
use Rattle.pcc_stages.specs.declared.stops.Stop.{Stop}
use Rattle.pcc_stages.specs.Stages.Common.{policy_named}
use Rattle.pcc_stages.specs.Answers.{Gives}
use Rattle.pcc_stages.proofs.StageLemmas.{pure_stops_first}
use Rattle.pcc_commands.specs.declared.commands.host.Admitted.{Admitted}
use Rattle.pcc_commands.specs.Stages.Hosting.{Member, load_of, for_agent}
use Rattle.pcc_commands.specs.Inside.Behind.{load_under}
use Rattle.pcc_commands.specs.Inside.Turning.{member_view}
use Rattle.pcc_commands.proofs.MemberLemmas.{load_stages}
use Rattle.pcc_commands.proofs.commands.host.member_of.Goals as goal

-- the policy's name as the code has it
module _ (a : ℕ) (one : LoadView) (said : List ℕ) (named : said ≡ one.policy) (e m : List Event) (f n : FilesState) (r : Result Admitted Stop) where
  -- where no policy has the name
  no_policy : (s : Stage PolicyView) → s ≡ for_agent a (policy_named said) → Gives member_view
      (s >>= load_under a one) e m f n r → Gives member_view
      (for_agent a (load_of a one)) e m f n r
  no_policy s is h =
      subst (λ (x : Stage Member). Gives member_view x e m f n r)
      (ap (λ (x : Stage PolicyView). x >>= load_under a one)
      (is ∙ ap (λ (b : List ℕ). for_agent a (policy_named b)) named) ∙ sym
      (load_stages a one)) h

  -- behind the policy of the name
  with_policy : (policy : PolicyView) → for_agent a (policy_named said) ≡ gives policy
      → Gives member_view (load_under a one policy) e m f n r → Gives member_view
      (for_agent a (load_of a one)) e m f n r
  with_policy policy is h = no_policy (gives policy) (sym is) h

pub returns-in_err-policy-clause-exact : goal.returns-in_err-policy-clause-exact
returns-in_err-policy-clause-exact g c =
    let a = c.args.agent in
    let one = load_view c.args.load in
    no_policy a one c.as_str.result.now c.as_str.ensures.value _ _ _ _ c.from_residual.result (for_agent a (policy_named c.as_str.result.now)) refl
    (pure_stops_first (load_under a one) member_view (for_agent a (policy_named c.as_str.result.now)) _ _ c.in_err-policy.field-0.0 c.from_residual.result c.in_err-policy.ensures c.from_residual.ensures.1)

pub returns-clause-exact : goal.returns-clause-exact
returns-clause-exact g c =
    with_policy c.args.agent (load_view c.args.load) c.as_str.result.now c.as_str.ensures.value _ _ _ _ c.member_under.result c.in_ok-policy.policy c.in_ok-policy.ensures c.member_under.ensures.exact
