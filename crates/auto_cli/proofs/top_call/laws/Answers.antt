use Rattle.auto_cli.specs.Arguments.{auto_command_of}
use Rattle.auto_cli.specs.Tasks.{auto_task, auto_request}
use Rattle.auto_cli.specs.Texts.{auto_texts}
use Rattle.auto_cli.proofs.Suited.{suited}
use Rattle.auto_cli.proofs.top_call.laws.Goals as goal

pub returns-clause-ends : goal.returns-clause-ends
returns-clause-ends c = λ outcome args e e' f g s t status runs.
    c.laws.ensures.ends auto_texts (auto_task outcome args) e e' f g s t status
    (suited (auto_command_of args) outcome) runs

pub returns-clause-accounts : goal.returns-clause-accounts
returns-clause-accounts c = λ outcome args e e' f g s t status runs.
    c.laws.ensures.accounts (auto_request outcome args) f g s t status
    (c.laws.ensures.ends auto_texts (auto_task outcome args) e e' f g s t status
    (suited (auto_command_of args) outcome) runs)
