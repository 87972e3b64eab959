use Rattle.std.proofs.Common.{◌≡◌, ℕ, List, [], ◌∷◌, Vec, Global, sym, ◌∙◌, ap, subst}
use Rattle.packet_store.specs.Packets.{AreShort}
use Rattle.pcc_stages.specs.Answers.{GivesPure}
use Rattle.pcc_commands.specs.Stages.Hosting.{for_agent, first_packet}
use Rattle.pcc_commands.proofs.commands.host.first_packet.Goals as goal

pub whole_packet-requires : goal.whole_packet-requires
whole_packet-requires c =
    let short : AreShort (c.in-Some.packet.now ∷ c.next.new.self) = subst AreShort c.in-Some.ensures.steps c.packets-packets.ensures.short in
    record { agent = c.requires; packet = short.0 }

pub returns-in-Some-clause-exact : goal.returns-in-Some-clause-exact
returns-in-Some-clause-exact c =
    let file : c.args.file.now ≡ c.in-Some.packet.now ∷ c.next.new.self = sym c.packets-packets.ensures.value ∙ c.in-Some.ensures.steps in
    subst (λ (ps : List (List ℕ)). GivesPure (λ (v : Vec ℕ Global). v.items) (for_agent c.args.agent (first_packet c.args.agent c.args.policy.now ps)) c.whole_packet.result) (sym file) c.whole_packet.ensures.exact

pub returns-in-None-clause-exact : goal.returns-in-None-clause-exact
returns-in-None-clause-exact c =
    let file : c.args.file.now ≡ [] = sym c.packets-packets.ensures.value ∙ c.in-None.ensures.steps.0 in
    ap (λ (ps : List (List ℕ)). for_agent c.args.agent (first_packet c.args.agent c.args.policy.now ps)) file
