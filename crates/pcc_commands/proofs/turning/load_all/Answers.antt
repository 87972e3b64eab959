use Rattle.std.proofs.Common.{◌≡◌, ℕ, ◌≤◌, List, length, slice_get, Some, refl, sym, subst, arith}
use Rattle.std.proofs.lemmas.Option.{slice_get_read}
use Rattle.packet_store.specs.declared.reader.TheConstants.{MAX_PACKET}
use Rattle.pcc_commands.proofs.StandingLemmas.{packet_short, loaded-none, loaded-more, loaded-all}
use Rattle.pcc_commands.proofs.turning.load_all.Goals as goal

pub loop-a-init : goal.loop-a-init
loop-a-init c = loaded-none c.args.host.now c.args.packets.now

pub overflow_cast-agent : goal.overflow_cast-agent
overflow_cast-agent c = omega (arith, c.requires.count, c.requires.few)

pub laws-requires : goal.laws-requires
laws-requires c = omega (arith, c.requires.count, c.loop-a.invariant.count)

pub load-requires : goal.load-requires
load-requires c =
    let packets = c.args.packets.now in
    let a = c.loop-a.a in
    let packet = c.index-packets-a.result in
    let there : slice_get packets a ≡ Some packet = slice_get_read packets (length packets) a packet refl (omega arith) c.index-packets-a.is in
    record {
      agent = omega (arith, c.requires.count, c.loop-a.invariant.count);
      packet = subst (λ (b : List ℕ). length b ≤ MAX_PACKET) (sym c.deref.ensures.value) (packet_short c.args.host.now packets c.requires.ready c.requires.count a packet there);
    }

pub loop-a-preserved : goal.loop-a-preserved
loop-a-preserved c =
    let packets = c.args.packets.now in
    let a = c.loop-a.a in
    let packet = c.index-packets-a.result in
    let there : slice_get packets a ≡ Some packet = slice_get_read packets (length packets) a packet refl (omega arith) c.index-packets-a.is in
    loaded-more c.args.host.now c.loop-a.host c.load.new.self packets a c.deref.result.now c.load.result c.requires.ready c.loop-a.invariant packet there c.deref.ensures.value c.laws.ensures c.load.ensures

pub returns : goal.returns
returns c = record {
  after = loaded-all c.args.host.now c.loop-a.host c.args.packets.now c.loop-a.a c.requires.count c.loop-a.invariant (omega arith);
  all = c.loop-a.invariant.count;
}
