use Rattle.std.proofs.Common.{◌≡◌, ◌-◌, ◌/◌, true, List, ℕ, Option, Some, length, refl}
use Rattle.std.proofs.Common.{◌∙◌, ap, subst, arith}
use Rattle.std.specs.Vec.{with_items}
use Rattle.std.proofs.lemmas.List.{with_items_is}
use Rattle.policy_set.specs.Views.{PolicyView}
use Rattle.reference_machine.specs.Arena.{placed_words}
use Rattle.reference_machine.specs.Setups.{start_view}
use Rattle.reference_machine.specs.Starts.{StartView}
use Rattle.reference_machine.proofs.Starting.{length-arena_words}
use Rattle.packet_store.specs.PolicyStarts.{start_from}
use Rattle.vcgen.specs.Safety.{all_steps}
use Rattle.host_steps.specs.Parts.{rights_of}
use Rattle.agent_host.specs.Agents.{HostedView, agent_at}
use Rattle.agent_host.specs.Hosts.{LoadsAt}
use Rattle.agent_host.specs.Inside.Fields.{hosted_view}
use Rattle.agent_host.proofs.Running.{HasBegun, begins}
use Rattle.agent_host.proofs.agent.Hosted.load.Goals as goal

pub invariant_of-self : goal.invariant_of-self
invariant_of-self c =
    let m : HostedView = hosted_view c.self.inside in
    let law = c.laws.ensures in
    let start = c.in-Some.ensures in
    let setup : StartView = start_view c.in-Some.begin in
    let regs : List ℕ = c.new-self-inside.result in
    let words : List ℕ = (with_items c.self.inside.words c.fill.new.words).items in
    let count : length c.fill.new.words ≡ c.self.inside.words.len =
    omega (arith, c.fill.auto.words, c.self.inside.words.ok.0) in
    let placed : words ≡ placed_words ((setup.at - m.base) / 8) setup.bytes =
    with_items_is c.self.inside.words c.fill.new.words count ∙ c.fill.ensures in
    let begun : HasBegun m setup (record (agent_at m setup) { regs = regs; words = words }) =
    begins m law.forms law.annotates law.valid c.policy.result.now setup regs words
    c.new-self-inside.ensures c.policy.ensures
    start.fits start.state start.meets placed in
    record {
      operations = c.self.invariant.operations;
      words_len = ap (λ (l : List ℕ). length l) placed ∙ length-arena_words _;
      region_within = omega (arith, start.fits.region_in.from, start.fits.region_in.to);
      aligned = c.self.invariant.aligned;
      low = c.self.invariant.low;
      within = λ _. begun.fits.holds.within;
      rights = λ _. (all_steps m.accepted.bound, rights_of setup, begun.fits);
    }

pub returns : goal.returns
returns c =
    let m : HostedView = hosted_view c.self.inside in
    let law = c.laws.ensures in
    let start = c.in-Some.ensures in
    let setup : StartView = start_view c.in-Some.begin in
    let regs : List ℕ = c.new-self-inside.result in
    let words : List ℕ = (with_items c.self.inside.words c.fill.new.words).items in
    let count : length c.fill.new.words ≡ c.self.inside.words.len =
    omega (arith, c.fill.auto.words, c.self.inside.words.ok.0) in
    let placed : words ≡ placed_words ((setup.at - m.base) / 8) setup.bytes =
    with_items_is c.self.inside.words c.fill.new.words count ∙ c.fill.ensures in
    let new : HostedView = record (agent_at m setup) { regs = regs; words = words } in
    let begun : HasBegun m setup new =
    begins m law.forms law.annotates law.valid c.policy.result.now setup regs words
    c.new-self-inside.ensures c.policy.ensures
    start.fits start.state start.meets placed in
    let some : Some setup ≡ start_from m.base m.accepted.policy.kind c.args.packet.now =
    subst (λ (p : PolicyView). Some setup ≡ start_from m.base p.kind c.args.packet.now)
    c.policy.ensures start.exact in
    let loads : LoadsAt (start_from m.base m.accepted.policy.kind c.args.packet.now) true m new =
    subst (λ (o : Option StartView). LoadsAt o true m new) some
    (refl, begun.is_at, begun.meets, begun.fits) in
    subst (λ (v : HostedView).
    LoadsAt (start_from v.base v.accepted.policy.kind c.args.packet.now) true v new) c.self.view_is
    loads
