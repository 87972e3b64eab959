use Rattle.std.proofs.Common.{rules}
use Rattle.std.proofs.lemmas.Result.{on_ok_weaker}
use Rattle.prover_hyps.specs.Inside.Splits.{AreSeen}
use Rattle.prover_hyps.proofs.splitting.add_split.Goals as goal

pub returns-clause-exact : goal.returns-clause-exact
returns-clause-exact c = λ Γ A h q.
    let none : AreSeen c.args.table.now Γ c.new-seen.result = search rules in
    on_ok_weaker c.add_parts.result (λ s. s.hyps) (c.add_parts.ensures.exact Γ A h none q)
