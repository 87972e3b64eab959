use Rattle.std.proofs.Common.{◌∙◌, ap}
use Rattle.packet_store.specs.PolicyStarts.{start_of}
use Rattle.safe_host.specs.Hosts.{HostView}
use Rattle.pcc_commands.proofs.CountLemmas.{short-count, ran-count}
use Rattle.pcc_commands.proofs.commands.demo.count.Goals as goal

pub returns-then-not-load-clause-exact : goal.returns-then-not-load-clause-exact
returns-then-not-load-clause-exact c =
    let old : HostView = c.args.host.now in
    short-count old c.load.new.self old.accepted.code c.args.budget (start_of old.accepted.policy c.args.packet.now) c.if-not-load.ensures.exact

pub returns-clause-exact : goal.returns-clause-exact
returns-clause-exact c =
    let old : HostView = c.args.host.now in
    let ran = c.run_counted-counted in
    ap (λ ones. record { steps = ran.result.steps; ones = ones }) c.one_where.ensures.exact
    ∙ ran-count old c.load.new.self ran.new.self c.args.budget ran.result.steps ran.result.ended (start_of old.accepted.policy c.args.packet.now) c.if-not-load.ensures.exact ran.ensures.under ran.ensures.steps
