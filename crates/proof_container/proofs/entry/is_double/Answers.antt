use Rattle.std.proofs.Common.{nat_lt, ◌∙◌, ap}
use Rattle.proof_container.proofs.Adding.{old_is_listed}
use Rattle.proof_container.proofs.entry.is_double.Goals as goal

pub returns-clause-listed : goal.returns-clause-listed
returns-clause-listed c =
    let id = c.in_ok-id.ensures.id in
    ap (λ i. nat_lt i c.count-known.result) c.index.ensures
    ∙ ap (nat_lt c.in_ok-id.id) c.count-known.ensures
    ∙ old_is_listed c.args.table.now _ _ c.in_ok-id.id c.in_ok-id.ensures.adds id.1 c.laws.ensures.different id.0
