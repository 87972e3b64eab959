use Rattle.std.proofs.Common.{arith}
use Rattle.term_table.specs.Table.{tree_at}
use Rattle.hereditary_subst.proofs.Spare.{ready}
use Rattle.lf_check.proofs.introductions.is_ready.Goals as goal

pub returns : goal.returns
returns c =
    let t = c.args.table.now in
    let m = tree_at t c.args.m in
    let p = tree_at t c.args.predicate in
    λ _. record {
      lowers = ready m p c.reach-outer.result c.reach-reach.result c.height-deep.result c.height-high.result c.reach-outer.ensures c.reach-reach.ensures c.height-deep.ensures c.height-high.ensures (omega arith) (omega arith);
      raises = ready p p c.reach-reach.result c.reach-reach.result c.height-high.result c.height-high.result c.reach-reach.ensures c.reach-reach.ensures c.height-high.ensures c.height-high.ensures (omega arith) (omega arith);
      low = omega (arith, c.height-high.ensures);
    }
