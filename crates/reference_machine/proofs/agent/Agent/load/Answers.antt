use Rattle.std.proofs.Common.{◌≡◌, ◌-◌, ◌/◌, ◌+◌, ◌≤◌, ℕ, List, length, refl, sym, ◌∙◌, ap, subst, arith}
use Rattle.std.specs.Vec.{with_items}
use Rattle.std.proofs.lemmas.List.{with_items_is}
use Rattle.reference_machine.specs.Arena.{placed_words, IsZeroFrom}
use Rattle.reference_machine.proofs.Starting.{length-arena_words, placed_words-past}
use Rattle.reference_machine.proofs.agent.Agent.load.Goals as goal

pub invariant_of-self : goal.invariant_of-self
invariant_of-self c =
    let bytes : List ℕ = c.args.start.bytes.now in
    let place : ℕ = (c.args.start.at - 65536) / 8 in
    let end : ℕ = c.reach-self-inside.result in
    let old = c.self.inside.words in
    let words : List ℕ = (with_items old c.refill.new.words).items in
    let count : length c.refill.new.words ≡ old.len = omega (arith, c.refill.auto.words, old.ok.0) in
    let placed : words ≡ placed_words place bytes = with_items_is old c.refill.new.words count ∙ c.refill.ensures in
    let behind : place + (length bytes + 7) / 8 ≤ end = omega (arith, c.reach-self-inside.ensures.end, c.div_ceil.ensures) in
    record {
      regs_len = refl;
      words_len = ap (λ (l : List ℕ). length l) placed ∙ length-arena_words _;
      reads_in = c.requires.reads_in;
      writes_in = c.requires.writes_in;
      region_in = c.requires.region_in;
      end_within = c.reach-self-inside.ensures.within;
      past_end = subst (λ (l : List ℕ). IsZeroFrom end l) (sym placed) (placed_words-past place bytes end behind);
      stores_before = c.reach-self-inside.ensures.spans;
    }
