use Rattle.std.proofs.Common.{ℕ, List, Vec, Global, subst}
use Rattle.pcc_stages.specs.Answers.{GivesPure}
use Rattle.pcc_stages.proofs.StageLemmas.{lifted, stops_first, gives_then}
use Rattle.view_cli.specs.Commands.Faults.{text_of}
use Rattle.view_cli.specs.Commands.List.{beside_in, source_beside}
use Rattle.view_cli.specs.Inside.Founds.{beside_source}
use Rattle.view_cli.proofs.commands.list.source_of.Goals as goal

pub returns-in_err-text : goal.returns-in_err-text
unfolding source_beside
returns-in_err-text g c =
    rw c.in-Some.is
    (stops_first (beside_in c.args.version c.args.bound) (λ (v : Vec ℕ Global). v.items)
    beside_source (text_of c.in-Some.name.now) _ _ _ _
    c.in_err-text.field-0.0 c.from_residual.result c.in_err-text.ensures.exact
    c.from_residual.ensures.1)

pub returns : goal.returns
unfolding source_beside
returns g c =
    let text = c.in_ok-text.text.items in
    rw c.in-Some.is
    (gives_then (beside_in c.args.version c.args.bound) (λ (v : Vec ℕ Global). v.items)
    beside_source (text_of c.in-Some.name.now) _ _ _ _ _ _ c.in_ok-text.text
    c.source_in.result c.in_ok-text.ensures.exact
    (lifted beside_source (beside_in c.args.version c.args.bound text) _ _
    c.source_in.result
    (subst
    (λ (b : List ℕ). GivesPure beside_source
    (beside_in c.args.version c.args.bound b) c.source_in.result)
    c.deref.ensures.value c.source_in.ensures)))
