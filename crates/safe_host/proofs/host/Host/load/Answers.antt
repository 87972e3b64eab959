use Rattle.std.proofs.Common.{◌≡◌, ◌+◌, ◌-◌, ◌/◌, ◌≤◌, true, List, ℕ, Option, Some, length, refl, sym, ◌∙◌, ap, subst, arith}
use Rattle.std.specs.Vec.{with_items}
use Rattle.std.proofs.lemmas.List.{with_items_is}
use Rattle.policy_set.specs.Views.{PolicyView}
use Rattle.reference_machine.specs.Arena.{placed_words, IsZeroFrom}
use Rattle.reference_machine.specs.Setups.{start_view}
use Rattle.reference_machine.specs.Starts.{StartView}
use Rattle.reference_machine.proofs.Starting.{length-arena_words, placed_words-past}
use Rattle.packet_store.specs.PolicyStarts.{start_of}
use Rattle.vcgen.specs.Safety.{all_steps}
use Rattle.safe_host.specs.Hosts.{HostView, host_at, start_rights}
use Rattle.safe_host.specs.Runs.{Loads}
use Rattle.safe_host.specs.Inside.Fields.{host_view}
use Rattle.safe_host.proofs.Running.{HasBegun, begins}
use Rattle.safe_host.proofs.host.Host.load.Goals as goal

pub invariant_of-self : goal.invariant_of-self
invariant_of-self c =
    let a = c.self.inside.accepted in
    let law = c.laws.ensures in
    let start = c.in-Some.ensures in
    let setup : StartView = start_view c.in-Some.begin in
    let regs : List ℕ = c.new-self-inside.result in
    let words : List ℕ = (with_items c.self.inside.words c.reload.new.words).items in
    let count : length c.reload.new.words ≡ c.self.inside.words.len = omega (arith, c.reload.auto.words, c.self.inside.words.ok.0) in
    let placed : words ≡ placed_words ((setup.at - 65536) / 8) setup.bytes = with_items_is c.self.inside.words c.reload.new.words count ∙ c.reload.ensures in
    let begun : HasBegun a setup (record (host_at a setup) { regs = regs; words = words }) =
    begins a law.forms law.annotates law.valid c.policy.result.now setup regs words c.new-self-inside.ensures c.policy.ensures
    start.fits start.words start.meets placed in
    let place : ℕ = (setup.at - 65536) / 8 in
    let end : ℕ = c.reach-self-inside.result in
    let behind : place + (length setup.bytes + 7) / 8 ≤ end = omega (arith, c.reach-self-inside.ensures.end, c.div_ceil.ensures) in
    record {
      operations = c.self.invariant.operations;
      words_len = ap (λ (l : List ℕ). length l) placed ∙ length-arena_words _;
      region_within = omega (arith, start.fits.region_in.from, start.fits.region_in.to);
      within = λ _. begun.fits.holds.within;
      end_within = c.reach-self-inside.ensures.within;
      past_end = subst (λ (l : List ℕ). IsZeroFrom end l) (sym placed) (placed_words-past place setup.bytes end behind);
      rights = λ _. (
        all_steps a.bound,
        start_rights setup,
        begun.fits,
        c.reach-self-inside.ensures.spans,
      );
    }

pub returns : goal.returns
returns c =
    let a = c.self.inside.accepted in
    let law = c.laws.ensures in
    let start = c.in-Some.ensures in
    let setup : StartView = start_view c.in-Some.begin in
    let regs : List ℕ = c.new-self-inside.result in
    let words : List ℕ = (with_items c.self.inside.words c.reload.new.words).items in
    let count : length c.reload.new.words ≡ c.self.inside.words.len = omega (arith, c.reload.auto.words, c.self.inside.words.ok.0) in
    let placed : words ≡ placed_words ((setup.at - 65536) / 8) setup.bytes = with_items_is c.self.inside.words c.reload.new.words count ∙ c.reload.ensures in
    let new : HostView = record (host_at a setup) { regs = regs; words = words } in
    let begun : HasBegun a setup new =
    begins a law.forms law.annotates law.valid c.policy.result.now setup regs words c.new-self-inside.ensures c.policy.ensures
    start.fits start.words start.meets placed in
    let some : Some setup ≡ start_of a.policy c.args.packet.now =
    subst (λ (p : PolicyView). Some setup ≡ start_of p c.args.packet.now) c.policy.ensures
    start.exact in
    let loads : Loads (host_view c.self.inside) (start_of a.policy c.args.packet.now) new true = subst (λ (o : Option StartView). Loads (host_view c.self.inside) o new true) some (refl, begun.is, begun.meets, begun.fits) in
    record { exact = subst (λ (v : HostView). Loads v (start_of v.accepted.policy c.args.packet.now) new true) c.self.view_is loads }
