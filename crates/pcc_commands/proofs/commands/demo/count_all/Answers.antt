use Rattle.std.proofs.Common.{◌≡◌, refl, ◌∙◌, ap, arith}
use Rattle.packet_store.specs.PolicyStarts.{start_of}
use Rattle.pcc_gate.specs.Views.{AcceptedView}
use Rattle.pcc_demo.specs.Packets.{demo_packet}
use Rattle.pcc_commands.specs.Commands.Demo.{count_from}
use Rattle.pcc_commands.proofs.CountLemmas.{counts-none, counts-more}
use Rattle.pcc_commands.proofs.commands.demo.count_all.Goals as goal

pub loop-k-init : goal.loop-k-init
loop-k-init c =
    let a = c.args.host.now.accepted in
    record { all = counts-none a.policy a.code c.args.budget c.args.n; accepted = refl; steps = omega arith; ones = omega arith }

pub loop-k-preserved : goal.loop-k-preserved
loop-k-preserved c =
    let a = c.args.host.now.accepted in
    let before = c.loop-k.invariant in
    let one = c.in_ok-one in
    let counted : one.one ≡ count_from a.code c.args.budget (start_of a.policy (demo_packet c.args.n c.loop-k.k)) =
    one.ensures.exact
    ∙ ap (λ (v : AcceptedView). count_from v.code c.args.budget (start_of v.policy (demo_packet c.args.n c.loop-k.k))) before.accepted in
    record {
      all = counts-more a.policy a.code c.args.budget c.args.n c.loop-k.k c.loop-k.all one.one before.all counted;
      accepted = one.ensures.accepted ∙ before.accepted;
      steps = omega (arith, before.steps, one.ensures.steps, c.requires.budget);
      ones = omega (arith, before.ones, one.ensures.ones);
    }
