use Rattle.std.proofs.Common.{ℕ, Vec, Global}
use Rattle.policy_set.specs.Views.{PolicyView}
use Rattle.pcc_words.specs.Commands.{word_view}
use Rattle.pcc_stages.specs.Stages.Policies.{policy_told}
use Rattle.pcc_stages.proofs.StageLemmas.{stops_first, gives_then}
use Rattle.native_cli.specs.Tasks.{object_of, object_told}
use Rattle.native_cli.proofs.Translators.{any-texts, any-translates}
use Rattle.native_cli.proofs.translating.object_told.Goals as goal

pub returns-in_err-policy : goal.returns-in_err-policy
unfolding object_told
returns-in_err-policy g c =
    let a = c.args.args.now in
    let first = c.laws.ensures.accepted in
    record {
      texts = any-texts first;
      translator = any-translates first;
      gives_it =
          stops_first (λ policy. object_of (any-texts first) policy a.name.now a.file.now) (λ (p : PolicyView). p) (λ (v : Vec ℕ Global). v.items)
          (policy_told (word_view a.policy)) _ _ _ _ c.in_err-policy.field-0.0 c.from_residual.result c.in_err-policy.ensures c.from_residual.ensures.1;
    }

pub returns : goal.returns
unfolding object_told
returns g c =
    let a = c.args.args.now in
    let made = c.object_of.ensures in
    record {
      texts = made.texts;
      translator = made.translator;
      gives_it =
          gives_then (λ policy. object_of made.texts policy a.name.now a.file.now) (λ (p : PolicyView). p) (λ (v : Vec ℕ Global). v.items)
          (policy_told (word_view a.policy)) _ _ _ _ _ _ c.in_ok-policy.policy c.object_of.result c.in_ok-policy.ensures made.gives_it;
    }
