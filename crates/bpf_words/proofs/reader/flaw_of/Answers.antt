use Rattle.std.proofs.Common.{◌≡◌, sym, ◌∙◌, length, get_or, None, arith}
use Rattle.std.proofs.lemmas.Option.{slice_get-get_or, slice_get_within}
use Rattle.bpf_words.proofs.Effects.{no_insn}
use Rattle.bpf_words.proofs.Soundness.{flaw_from-next, widths-more, none-is}
use Rattle.bpf_words.proofs.reader.flaw_of.Goals as goal

pub loop-i-preserved : goal.loop-i-preserved
loop-i-preserved c =
    let insns = c.args.insns.now in
    let insn = get_or insns c.loop-i.i no_insn in
    let at = slice_get-get_or insns c.loop-i.i no_insn c.loop-i-test.true in
    let none : c.insn_flaw-flaw.result ≡ None = none-is c.insn_flaw-flaw.result (sym c.is_some.ensures ∙ c.if-is_some.false) in (
      c.loop-i.invariant.0 ∙ flaw_from-next (length insns) c.loop-i.i insns insn c.loop-i-test.true at (sym c.insn_flaw-flaw.ensures.exact ∙ none),
      widths-more insns c.loop-i.i insn at c.loop-i.invariant.1 c.insn_flaw-flaw.ensures.widths,
    )

pub returns-clause-widths : goal.returns-clause-widths
returns-clause-widths c = λ e i insn at. c.loop-i.invariant.1 i (omega (arith, slice_get_within c.args.insns.now i insn at)) insn at
