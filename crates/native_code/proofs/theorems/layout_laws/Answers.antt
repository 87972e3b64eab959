use Rattle.native_code.proofs.Fitting.{offset-small, heads-aligned}
use Rattle.native_code.proofs.Leading.{inner-targets}
use Rattle.native_code.proofs.theorems.layout_laws.Goals as goal

pub returns : goal.returns
returns c =
    record { small = λ p lean metered code ok places k h. offset-small p places lean metered code k ok h; targets = inner-targets; aligned = heads-aligned }
