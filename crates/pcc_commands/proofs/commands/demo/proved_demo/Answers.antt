use Rattle.std.proofs.Common.{◌≡◌, ℕ, List, None, Vec, Global, ◌∙◌, subst}
use Rattle.pcc_demo.specs.Sources.{demo_source}
use Rattle.pcc_stages.specs.Stage.{gives}
use Rattle.pcc_stages.specs.Stops.{end_of}
use Rattle.pcc_stages.specs.Answers.{StopsAs, GivesPure}
use Rattle.pcc_stages.proofs.StageLemmas.{pure_stops, pure_gives}
use Rattle.pcc_commands.specs.Stages.Assembling.{assembled_in}
use Rattle.pcc_commands.specs.Stages.Proving.{proved_in}
use Rattle.pcc_commands.specs.Commands.Demo.{demo_container}
use Rattle.pcc_commands.proofs.commands.demo.proved_demo.Goals as goal

pub returns-in-Err : goal.returns-in-Err
unfolding demo_container
returns-in-Err c =
    let policy = c.args.policy.now in
    let text : c.deref.result.now ≡ demo_source c.args.n = c.deref.ensures.value ∙ c.in-Ok.ensures.exact in
    pure_stops (λ container. proved_in policy container) (assembled_in 1 None policy (demo_source c.args.n)) c.in-Err.stop
    (subst (λ (t : List ℕ). StopsAs (assembled_in 1 None policy t) (end_of c.in-Err.stop)) text c.in-Err.ensures)

pub returns : goal.returns
unfolding demo_container
returns c =
    let policy = c.args.policy.now in
    let text : c.deref.result.now ≡ demo_source c.args.n = c.deref.ensures.value ∙ c.in-Ok.ensures.exact in
    let items : List ℕ = c.in-Ok-assembled_in.container.items in
    let made : assembled_in 1 None policy (demo_source c.args.n) ≡ gives items = subst (λ (t : List ℕ). assembled_in 1 None policy t ≡ gives items) text c.in-Ok-assembled_in.ensures in
    pure_gives (λ container. proved_in policy container) (λ (v : Vec ℕ Global). v.items) (assembled_in 1 None policy (demo_source c.args.n)) items made c.proved_in.result
    (subst (λ (b : List ℕ). GivesPure (λ (v : Vec ℕ Global). v.items) (proved_in policy b) c.proved_in.result) c.deref-2.ensures.value c.proved_in.ensures)
