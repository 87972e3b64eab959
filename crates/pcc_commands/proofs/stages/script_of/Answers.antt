use Rattle.std.proofs.Common.{ℕ, List, Vec, Global, subst}
use Rattle.agent_script.specs.Scripts.{script_view}
use Rattle.pcc_stages.specs.Answers.{GivesPure}
use Rattle.pcc_stages.proofs.StageLemmas.{lifted, stops_first, gives_then}
use Rattle.pcc_commands.specs.Stages.Hosting.{script_text_of, script_in, script_of}
use Rattle.pcc_commands.proofs.stages.script_of.Goals as goal

pub returns-in_err-text-clause-exact : goal.returns-in_err-text-clause-exact
unfolding script_of
returns-in_err-text-clause-exact g c =
    stops_first script_in (λ (v : Vec ℕ Global). v.items) script_view (script_text_of c.args.name.now) _ _ _ _ c.in_err-text.field-0.0 c.from_residual.result
    c.in_err-text.ensures.exact c.from_residual.ensures.1

pub returns-clause-exact : goal.returns-clause-exact
unfolding script_of
returns-clause-exact g c =
    let text = c.in_ok-text.text.items in
    gives_then script_in (λ (v : Vec ℕ Global). v.items) script_view (script_text_of c.args.name.now) _ _ _ _ _ _ c.in_ok-text.text c.script_in.result c.in_ok-text.ensures.exact
    (lifted script_view (script_in text) _ _ c.script_in.result
    (subst (λ (t : List ℕ). GivesPure script_view (script_in t) c.script_in.result) c.deref.ensures.value c.script_in.ensures.exact))
