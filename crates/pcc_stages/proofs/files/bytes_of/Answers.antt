use Rattle.std.proofs.Common.{ℕ, Vec, Global, refl}
use Rattle.file_port.specs.Events.{too_long, no_memory}
use Rattle.pcc_stages.specs.Stage.{gives}
use Rattle.pcc_stages.specs.Stages.Common.{refused}
use Rattle.pcc_stages.specs.Stops.{refused_text}
use Rattle.pcc_stages.proofs.StageLemmas.{read_gives}
use Rattle.pcc_stages.proofs.files.bytes_of.Goals as goal

pub returns-in-TooLong-clause-exact : goal.returns-in-TooLong-clause-exact
returns-in-TooLong-clause-exact g c =
    read_gives (λ (v : Vec ℕ Global). v.items) c.args.name.now c.args.max
    (refused (refused_text c.args.too_long)) gives too_long _ _ _ _ _
    c.in-TooLong.ensures.logged c.in-TooLong.ensures.meaning tt refl tt

pub returns-in-Memory-clause-exact : goal.returns-in-Memory-clause-exact
returns-in-Memory-clause-exact g c =
    read_gives (λ (v : Vec ℕ Global). v.items) c.args.name.now c.args.max
    (refused (refused_text c.args.too_long)) gives no_memory _ _ _ _ _
    c.in-Memory.ensures.logged c.in-Memory.ensures.meaning tt tt tt
