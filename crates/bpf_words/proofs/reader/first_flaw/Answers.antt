use Rattle.std.proofs.Common.{◌-◌, sym, ap, ◌∙◌, length, slice_get, arith}
use Rattle.std.proofs.lemmas.Option.{slice_get-get_or}
use Rattle.bpf_words.specs.Reading.{else_flaw, return_flaw}
use Rattle.bpf_words.proofs.Effects.{no_insn}
use Rattle.bpf_words.proofs.Soundness.{first_flaw-program}
use Rattle.bpf_words.proofs.reader.first_flaw.Goals as goal

pub returns-in-None-clause-program : goal.returns-in-None-clause-program
returns-in-None-clause-program c =
    let insns = c.args.insns.now in
    let last = length insns - 1 in
    let some = c.requires.some in
    let at = slice_get-get_or insns last no_insn (omega (arith, some)) in
    λ none. first_flaw-program insns c.requires.some c.requires.short (c.flaw_of.ensures.widths c.in-None.is)
    (ap (λ o. else_flaw o (return_flaw last (slice_get insns last))) (sym c.flaw_of.ensures.exact ∙ c.in-None.is) ∙ ap (return_flaw last) at
    ∙ sym c.return_flaw.ensures.exact ∙ none)
