use Rattle.std.proofs.Common.{ℕ, Vec, Global}
use Rattle.native_cli.proofs.Making.{object-refused, object-accepted}
use Rattle.native_cli.proofs.translating.object_in.Goals as goal

pub returns-in-Ok : goal.returns-in-Ok
returns-in-Ok c =
    object-accepted c.laws.ensures.accepted c.args.policy.now c.args.name.now c.args.bytes.now (λ (v : Vec ℕ Global). v.items) c.in-Ok.accepted
    c.object_made.result c.in-Ok.ensures.accepted c.object_made.ensures.made c.object_made.ensures.memory

pub returns-in-Err : goal.returns-in-Err
returns-in-Err c =
    object-refused c.laws.ensures.accepted c.args.policy.now c.args.name.now c.args.bytes.now (λ (v : Vec ℕ Global). v.items) c.in-Err.stop
    c.in-Err.ensures.exact
