use Rattle.std.proofs.Common.{length, get_or, Some, sym, ap, ◌∙◌}
use Rattle.std.proofs.lemmas.Option.{slice_get-get_or}
use Rattle.bpf_words.specs.declared.insn.TheConstants.{MAX_PROGRAM}
use Rattle.bpf_words.specs.Values.{code_effect, bpf_effect}
use Rattle.bpf_words.proofs.Effects.{no_insn, in-bounds, bounds-more, sound-none}
use Rattle.bpf_words.proofs.values.effect_at.Goals as goal

pub op_effect-requires-clause-bounds : goal.op_effect-requires-clause-bounds
op_effect-requires-clause-bounds c =
    let program = c.args.program.now in
    let insn = get_or program c.args.i no_insn in
    bounds-more (length program) MAX_PROGRAM c.args.i insn c.in-Some.op c.requires.program.few
    (in-bounds program c.args.i insn c.in-Some.op c.requires.program (slice_get-get_or program c.args.i no_insn c.requires.within)
    (sym c.bpf_op.ensures.exact ∙ c.in-Some.is))

pub unreachable-requires : goal.unreachable-requires
unreachable-requires c =
    let program = c.args.program.now in
    let insn = get_or program c.args.i no_insn in
    sound-none program c.args.i insn c.requires.program (slice_get-get_or program c.args.i no_insn c.requires.within) (sym c.bpf_op.ensures.exact
    ∙ c.in-None.is)

pub returns : goal.returns
returns c =
    let program = c.args.program.now in
    let packet = c.args.packet.now in
    let insn = get_or program c.args.i no_insn in
    record {
      exact =
          ap (bpf_effect packet c.args.i c.args.a) (slice_get-get_or program c.args.i no_insn c.requires.within)
          ∙ ap (code_effect packet c.args.i c.args.a insn) (sym c.bpf_op.ensures.exact ∙ c.in-Some.is)
          ∙ ap Some (sym c.op_effect.ensures.exact);
    }
