use Rattle.std.proofs.Common.{◌≡◌, length, Some, ap, ◌∙◌}
use Rattle.bpf_words.specs.declared.values.BpfEffect.TheVariants as effects
use Rattle.bpf_words.specs.Values.{effect_at}
use Rattle.bpf_words.proofs.Effects.{goes-further, value-first, value-next}
use Rattle.bpf_words.proofs.values.bpf_value.Goals as goal

pub loop-init : goal.loop-init
loop-init c = (c.requires.program.some, value-first c.args.program.now c.args.packet.now)

pub loop-preserved : goal.loop-preserved
loop-preserved c =
    let program = c.args.program.now in
    let packet = c.args.packet.now in
    let e : effect_at program packet c.loop.next c.loop.a ≡ Some (effects.GoesOn c.in-GoesOn.index c.in-GoesOn.changed) = c.effect_at.ensures.exact
    ∙ ap Some c.in-GoesOn.is in (
      (goes-further program packet c.requires.program c.loop.next c.loop.a c.in-GoesOn.index c.in-GoesOn.changed c.loop.invariant.0 e).1,
      value-next program packet (length program) c.loop.counter c.loop.next c.loop.a c.in-GoesOn.index c.in-GoesOn.changed c.loop-test.true e
          ∙ c.loop.invariant.1,
    )
