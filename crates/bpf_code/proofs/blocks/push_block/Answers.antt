use Rattle.std.proofs.Common.{◌≡◌, ◌++◌, length, get_or, sym, ◌∙◌, subst}
use Rattle.std.specs.Prelude.{OnOk}
use Rattle.std.proofs.lemmas.Option.{slice_get-get_or, get_or_from_slice_get}
use Rattle.bpf_words.specs.declared.insn.TheConstants.{MAX_PROGRAM}
use Rattle.bpf_words.proofs.Effects.{no_insn, in-bounds, bounds-more, sound-none}
use Rattle.bpf_code.proofs.Pushing.{block-is}
use Rattle.bpf_code.proofs.Simulation.{fits-good}
use Rattle.bpf_code.proofs.blocks.push_block.Goals as goal

pub push_words-requires-clause-bounds : goal.push_words-requires-clause-bounds
push_words-requires-clause-bounds c =
    let program = c.args.program.now in
    let insn = get_or program c.args.i no_insn in
    bounds-more (length program) MAX_PROGRAM c.args.i insn c.in-Some.op c.requires.program.few
    (in-bounds program c.args.i insn c.in-Some.op c.requires.program (slice_get-get_or program c.args.i no_insn c.requires.within)
    (sym c.bpf_op.ensures.exact ∙ c.in-Some.is))

pub push_words-requires-clause-keeps : goal.push_words-requires-clause-keeps
push_words-requires-clause-keeps c =
    let program = c.args.program.now in
    let insn = get_or program c.args.i no_insn in
    fits-good (length program) c.args.i insn c.in-Some.op
    (in-bounds program c.args.i insn c.in-Some.op c.requires.program (slice_get-get_or program c.args.i no_insn c.requires.within)
    (sym c.bpf_op.ensures.exact ∙ c.in-Some.is))

pub unreachable-requires : goal.unreachable-requires
unreachable-requires c =
    let program = c.args.program.now in
    let insn = get_or program c.args.i no_insn in
    sound-none program c.args.i insn c.requires.program (slice_get-get_or program c.args.i no_insn c.requires.within) (sym c.bpf_op.ensures.exact
    ∙ c.in-None.is)

pub returns : goal.returns
returns c =
    let program = c.args.program.now in
    let found = get_or program c.args.i no_insn in
    record {
      exact = λ insn at.
          subst (λ block. OnOk c.push_words.result (c.push_words.new.code.items ≡ c.args.code.now.items ++ block))
          (block-is c.args.i found insn c.in-Some.op (get_or_from_slice_get program c.args.i insn no_insn at)
          (sym c.bpf_op.ensures.exact ∙ c.in-Some.is)) c.push_words.ensures.exact;
    }
