use Rattle.std.proofs.Common.{[], ◌∙◌, ap}
use Rattle.prover_conditions.specs.Inside.AccessIds.{side_of, way_back}
use Rattle.prover_conditions.proofs.AccessRows.{way_back-push, one_further}
use Rattle.prover_conditions.proofs.access_walks.from_side.Goals as goal

pub returns-clause-exact : goal.returns-clause-exact
returns-clause-exact c = λ t o h.
    let longer = ap (λ l. way_back l []) c.in_ok-push.ensures.items ∙ way_back-push c.args.found.way.items c.args.side [] in
    one_further t o c.args.found (record { way = c.push.new.self; opening = c.args.found.opening }) (side_of c.args.side) (λ i. c.args.found.opening) longer h
