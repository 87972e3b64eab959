use Rattle.auto_search.proofs.Remaking.{counted-is}
use Rattle.auto_search.proofs.containers.count_if_same.Goals as goal

pub invariants_in-requires : goal.invariants_in-requires
invariants_in-requires c =
    let h = c.in_ok-same.ensures c.if-same.true in (h.after, h.has)

pub returns-in_ok-count : goal.returns-in_ok-count
returns-in_ok-count c =
    counted-is c.args.input.now c.args.out.now c.in_ok-count.count
    (c.in_ok-same.ensures c.if-same.true) c.in_ok-count.ensures
