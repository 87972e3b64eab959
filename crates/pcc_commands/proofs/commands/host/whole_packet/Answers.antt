use Rattle.pcc_commands.proofs.AgentLemmas.{packet-short, packet-gives, packet-starts}
use Rattle.pcc_commands.proofs.commands.host.whole_packet.Goals as goal

pub returns-in-None-clause-exact : goal.returns-in-None-clause-exact
returns-in-None-clause-exact c = packet-short c.args.agent c.part_base.result c.args.policy.now c.args.packet.now c.part_base.ensures.exact c.in-None.ensures.exact

pub returns-in-Ok-clause-exact : goal.returns-in-Ok-clause-exact
returns-in-Ok-clause-exact c = packet-gives c.args.agent c.part_base.result c.args.policy.now c.args.packet.now c.part_base.ensures.exact _ c.in-Ok.packet.items c.in-Some.ensures.exact c.in-Ok.ensures.items

pub returns-in-Ok-clause-start : goal.returns-in-Ok-clause-start
returns-in-Ok-clause-start c =
    packet-starts c.args.agent c.part_base.result c.args.policy.now c.args.packet.now c.part_base.ensures.exact _ c.in-Ok.packet.items c.in-Some.ensures.exact c.in-Ok.ensures.items c.requires.packet
