use Rattle.std.proofs.Common.{get_or, sym, ◌∙◌}
use Rattle.std.proofs.lemmas.Option.{slice_get-get_or, get_or_from_slice_get}
use Rattle.bpf_words.proofs.Effects.{no_insn, sound-none}
use Rattle.bpf_compile.proofs.Placed.{op-is}
use Rattle.bpf_compile.proofs.invariants.op_at.Goals as goal

pub unreachable-requires : goal.unreachable-requires
unreachable-requires c =
    let program = c.args.program.now in
    sound-none program c.args.i (get_or program c.args.i no_insn) c.requires.program (slice_get-get_or program c.args.i no_insn c.requires.within)
    (sym c.bpf_op.ensures.exact ∙ c.in-None.is)

pub returns : goal.returns
returns c = λ insn at.
    op-is (get_or c.args.program.now c.args.i no_insn) insn c.bpf_op.result c.in-Some.op (get_or_from_slice_get c.args.program.now c.args.i insn no_insn at)
    c.bpf_op.ensures.exact c.in-Some.is
