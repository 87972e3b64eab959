use Rattle.std.proofs.Common.{◌≡◌, ◌<◌, List, length, set, slice_get, Some, refl, sym, subst}
use Rattle.std.proofs.lemmas.Option.{slice_get_read}
use Rattle.agent_host.specs.Agents.{HostedView}
use Rattle.agent_host.specs.Worlds.{IsSeenAs}
use Rattle.agent_host.proofs.Seeing.{turned-seen}
use Rattle.agent_host.proofs.host.AgentHost.turn.Goals as goal

pub returns-clause-world : goal.returns-clause-world
returns-clause-world c = λ rights world held.
    let agents : List HostedView = c.self.inside.agents.items in
    let a = c.args.a in
    let was : HostedView = c.index_mut.result.now in
    let is : HostedView = c.turn.new.self in
    let view : agents ≡ c.args.self.now = c.self.view_is in
    let within : a < length agents = subst (λ (l : List HostedView). a < length l) (sym view) c.requires.agent in
    let at : slice_get agents a ≡ Some was = slice_get_read agents (length agents) a was refl within c.index_mut.ensures.value in
    turned-seen a c.args.budget c.turn.result agents (set agents a is)
    (record { was = was; is = is; at = at; rest = refl; known = c.turn.ensures })
    rights world (subst (λ (l : List HostedView). IsSeenAs l rights world) (sym view) held)
