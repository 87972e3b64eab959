use Rattle.pcc_asm.proofs.Terms.{more_encoded, closed_here}
use Rattle.pcc_asm.proofs.invariants.encode_invs.Goals as goal

pub encode_inv-requires : goal.encode_inv-requires
encode_inv-requires c =
    closed_here c.args.left c.args.invs.now c.loop-i.i c.index-invs-i.result c.requires
    c.loop-i-test.true c.index-invs-i.is

pub loop-i-preserved : goal.loop-i-preserved
loop-i-preserved c =
    more_encoded c.loop-i.table c.encode_inv.new.table c.args.invs.now c.loop-i.i
    c.index-invs-i.result c.loop-i.ids.items c.push.new.self.items c.in_ok-id.id
    c.loop-i-test.true c.index-invs-i.is c.loop-i.invariant c.in_ok-id.ensures.extends
    c.in_ok-id.ensures.exact c.in_ok-push.ensures.items
