use Rattle.std.proofs.Common.{ℕ, Vec, Global}
use Rattle.asm_text.specs.Views.{source_view}
use Rattle.pcc_stages.proofs.StageLemmas.{pure_stops, pure_gives}
use Rattle.pcc_commands.specs.Stages.Assembling.{source_in, assembled_as, assembled_in}
use Rattle.pcc_commands.proofs.stages.assembled_in.Goals as goal

pub returns-in-Err : goal.returns-in-Err
unfolding assembled_in
returns-in-Err c =
    pure_stops (λ source. assembled_as c.args.version c.args.bound c.args.policy.now source)
    (source_in c.args.version c.args.bound c.args.text.now) c.in-Err.stop c.in-Err.ensures.exact

pub returns : goal.returns
unfolding assembled_in
returns c =
    pure_gives (λ source. assembled_as c.args.version c.args.bound c.args.policy.now source)
    (λ (v : Vec ℕ Global). v.items) (source_in c.args.version c.args.bound c.args.text.now)
    (source_view c.in-Ok.source) c.in-Ok.ensures.exact c.assembled_as.result
    c.assembled_as.ensures
