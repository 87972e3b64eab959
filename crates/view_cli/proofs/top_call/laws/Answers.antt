use Rattle.view_cli.specs.Invocations.{view_command_of}
use Rattle.view_cli.specs.Texts.{view_texts}
use Rattle.view_cli.specs.Tasks.{view_task_of, view_request_of}
use Rattle.view_cli.proofs.Suited.{suited}
use Rattle.view_cli.proofs.top_call.laws.Goals as goal

pub returns-clause-ends : goal.returns-clause-ends
returns-clause-ends c = λ args e e' f g s t status runs.
    c.laws.ensures.ends view_texts (view_task_of args) e e' f g s t status
    (suited (view_command_of args)) runs

pub returns-clause-accounts : goal.returns-clause-accounts
returns-clause-accounts c = λ args e e' f g s t status runs.
    c.laws.ensures.accounts (view_request_of args) f g s t status
    (c.laws.ensures.ends view_texts (view_task_of args) e e' f g s t status
    (suited (view_command_of args)) runs)
