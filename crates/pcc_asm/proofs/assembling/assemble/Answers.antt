use Rattle.asm_text.specs.Views.{source_view}
use Rattle.pcc_asm.proofs.Answering.{answer_assembles, answer_none}
use Rattle.pcc_asm.proofs.Lengths.{answer_limits}
use Rattle.pcc_asm.proofs.assembling.assemble.Goals as goal

pub returns-clause-assembles : goal.returns-clause-assembles
returns-clause-assembles c =
    answer_assembles c.args.version c.args.bound c.args.policy.now (source_view c.args.source.now) _
    c.requires.spelled c.make.ensures

pub returns-clause-none : goal.returns-clause-none
returns-clause-none c =
    answer_none c.args.version c.args.bound c.args.policy.now (source_view c.args.source.now) _ c.make.ensures

pub returns-clause-limits : goal.returns-clause-limits
returns-clause-limits c =
    answer_limits c.args.version c.args.bound c.args.policy.now (source_view c.args.source.now) _
    c.requires.spelled c.make.ensures
