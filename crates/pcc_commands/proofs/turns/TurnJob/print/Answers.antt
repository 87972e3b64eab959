use Rattle.std.proofs.Common.{ℕ, ◌<◌, List, [], length, take, arith, sym, ap, ◌∙◌, subst, Vec, Global}
use Rattle.pcc_commands.specs.Turns.{members_with}
use Rattle.pcc_commands.specs.Inside.Standing.{HaveStarts, AreWhereTurnsLead}
use Rattle.pcc_commands.proofs.StandingLemmas.{members_count, turn_own, turns-begin, turn-ready, turns-more, turns-fail, turns-done}
use Rattle.pcc_commands.proofs.turns.TurnJob.print.Goals as goal

pub load_all-requires : goal.load_all-requires
load_all-requires g c =
    let self = c.args.self in
    record {
      few = self.few;
      count = ap (λ (ps : List (Vec ℕ Global)). length ps) c.deref.ensures.value ∙ self.packet_count;
      ready = subst (λ (ps : List (Vec ℕ Global)). HaveStarts self.host ps) (sym c.deref.ensures.value) self.ready;
    }

pub loop-i-init : goal.loop-i-init
loop-i-init g c =
    let self = c.args.self in
    let agents = members_with self.host self.packets.items in
    turns-begin agents self.turns.items _ c.load_all.new.host
    (subst (λ (ps : List (Vec ℕ Global)). AreWhereTurnsLead (members_with self.host ps) [] c.load_all.new.host) c.deref.ensures.value c.load_all.ensures.after)
    (c.load_all.ensures.all ∙ sym (members_count self.host self.packets.items self.packet_count))

pub make_turn-requires : goal.make_turn-requires
make_turn-requires g c =
    let self = c.args.self in
    let agents = members_with self.host self.packets.items in
    let turns = self.turns.items in
    let turn = c.index-turn.result.now in
    let p = c.loop-i.invariant in
    let count = members_count self.host self.packets.items self.packet_count in
    let own = turn_own (length self.host) turns c.loop-i.i turn self.own_turns (omega arith) c.index-turn.ensures in
    let within : turn.agent < length agents = omega (arith, own, count) in
    record { agent = omega (arith, within, p.count); loaded = turn-ready agents turns c.loop-i.i turn.agent _ _ c.loop-i.host p within }

pub loop-i-preserved : goal.loop-i-preserved
loop-i-preserved g c =
    let self = c.args.self in
    let agents = members_with self.host self.packets.items in
    let turns = self.turns.items in
    let turn = c.index-turn.result.now in
    let i = c.loop-i.i in
    let p = c.loop-i.invariant in
    let count = members_count self.host self.packets.items self.packet_count in
    let own = turn_own (length self.host) turns i turn self.own_turns (omega arith) c.index-turn.ensures in
    let within : turn.agent < length agents = omega (arith, own, count) in
    turns-more agents turns i _ _ _ c.loop-i.host c.make_turn.new.host p (omega arith) turn c.index-turn.ensures
    (c.in-Done.ensures.line agents (take i turns) p.leads within) (c.in-Done.ensures.after agents (take i turns) p.leads) c.in-Done.ensures.all

pub returns-in-Failed : goal.returns-in-Failed
returns-in-Failed g c =
    let self = c.args.self in
    let agents = members_with self.host self.packets.items in
    let turns = self.turns.items in
    let turn = c.index-turn.result.now in
    let i = c.loop-i.i in
    let p = c.loop-i.invariant in
    let count = members_count self.host self.packets.items self.packet_count in
    let own = turn_own (length self.host) turns i turn self.own_turns (omega arith) c.index-turn.ensures in
    let within : turn.agent < length agents = omega (arith, own, count) in
    turns-fail agents turns i _ _ _ c.loop-i.host c.make_turn.new.host p (omega arith) turn c.index-turn.ensures (c.in-Failed.ensures.line agents (take i turns) p.leads within)

pub returns : goal.returns
returns g c =
    let self = c.args.self in
    turns-done (members_with self.host self.packets.items) self.turns.items c.loop-i.i _ _ c.loop-i.host c.loop-i.invariant (omega arith)
