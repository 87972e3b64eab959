use Rattle.native_cli.specs.Invocations.{native_command_of}
use Rattle.native_cli.specs.Tasks.{native_task, native_request}
use Rattle.native_cli.specs.Texts.{native_texts}
use Rattle.native_cli.proofs.Suited.{native-suited}
use Rattle.native_cli.proofs.theorems.laws.Goals as goal

pub returns-clause-ends : goal.returns-clause-ends
returns-clause-ends c = λ texts args e e' f g s t status runs.
    c.laws.ensures.ends native_texts (native_task texts args) e e' f g s t status (native-suited (native_command_of args) texts) runs

pub returns-clause-accounts : goal.returns-clause-accounts
returns-clause-accounts c = λ texts args e e' f g s t status runs.
    c.laws.ensures.accounts (native_request texts args) f g s t status
    (c.laws.ensures.ends native_texts (native_task texts args) e e' f g s t status (native-suited (native_command_of args) texts) runs)
