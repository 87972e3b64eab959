use Rattle.std.proofs.Common.{ℕ, List, Vec, Global, subst}
use Rattle.pcc_stages.specs.Answers.{GivesPure}
use Rattle.pcc_stages.proofs.StageLemmas.{lifted, stops_first, gives_then}
use Rattle.pcc_commands.specs.Stages.Assembling.{source_text_of, assembled_in, assembled_of}
use Rattle.pcc_commands.proofs.stages.assembled_of.Goals as goal

pub returns-in_err-text : goal.returns-in_err-text
unfolding assembled_of
returns-in_err-text g c =
    stops_first (assembled_in c.args.version c.args.bound c.args.policy.now) (λ (v : Vec ℕ Global). v.items) (λ (v : Vec ℕ Global). v.items) (source_text_of c.args.name.now) _ _ _ _ c.in_err-text.field-0.0 c.from_residual.result
    c.in_err-text.ensures.exact c.from_residual.ensures.1

pub returns : goal.returns
unfolding assembled_of
returns g c =
    let text = c.in_ok-text.text.items in
    gives_then (assembled_in c.args.version c.args.bound c.args.policy.now) (λ (v : Vec ℕ Global). v.items) (λ (v : Vec ℕ Global). v.items) (source_text_of c.args.name.now) _ _ _ _ _ _ c.in_ok-text.text c.assembled_in.result c.in_ok-text.ensures.exact
    (lifted (λ (v : Vec ℕ Global). v.items)
    (assembled_in c.args.version c.args.bound c.args.policy.now text) _ _ c.assembled_in.result
    (subst
    (λ (t : List ℕ). GivesPure (λ (v : Vec ℕ Global). v.items)
    (assembled_in c.args.version c.args.bound c.args.policy.now t) c.assembled_in.result)
    c.deref.ensures.value c.assembled_in.ensures))
