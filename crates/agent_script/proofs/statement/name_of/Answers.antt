use Rattle.std.proofs.Common.{sym, ◌∙◌}
use Rattle.agent_script.proofs.Sayings.{no-name, right-name, wrong-name}
use Rattle.agent_script.proofs.statement.name_of.Goals as goal

pub returns-then-is_empty-clause-wrong : goal.returns-then-is_empty-clause-wrong
returns-then-is_empty-clause-wrong c =
    no-name c.args.word.now (sym c.is_empty.ensures ∙ c.if-is_empty.true)

pub returns-in-Ok-clause-right : goal.returns-in-Ok-clause-right
returns-in-Ok-clause-right c =
    right-name c.args.word.now (sym c.is_empty.ensures
    ∙ c.if-is_empty.false) c.in-Ok.ensures.cases.1

pub returns-in-Err-clause-wrong : goal.returns-in-Err-clause-wrong
returns-in-Err-clause-wrong c = wrong-name c.args.word.now c.in-Err.ensures.cases.0
