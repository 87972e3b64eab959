use Rattle.std.proofs.Common.{◌≡◌, ◌≤◌, ◌/◌, None, rules, sym, ap, ◌∙◌, length, subst}
use Rattle.bpf_words.specs.declared.insn.TheConstants.{MAX_PROGRAM}
use Rattle.bpf_words.specs.Reading.{first_flaw, unless_flaw}
use Rattle.bpf_words.proofs.Insns.{length-bpf_insns_from, read-flawed, read-insns}
use Rattle.bpf_words.proofs.reader.read_bpf.Goals as goal

pub returns-in-Some-clause-exact : goal.returns-in-Some-clause-exact
returns-in-Some-clause-exact c = read-flawed c.args.bytes.now c.in-Some.flaw (sym c.size_flaw.ensures.exact ∙ c.in-Some.is)

pub first_flaw-requires-clause-short : goal.first_flaw-requires-clause-short
first_flaw-requires-clause-short c =
    let bytes = c.args.bytes.now in
    let none : c.size_flaw.result ≡ None = search rules in
    let few : length bytes / 8 ≤ MAX_PROGRAM = c.size_flaw.ensures.few none in
    subst (λ l. length l ≤ MAX_PROGRAM) (sym (c.deref.ensures.value ∙ c.in_ok-insns.ensures.exact))
    (subst (λ n. n ≤ MAX_PROGRAM) (sym (length-bpf_insns_from bytes 0 (length bytes / 8))) few)

pub returns-in-Some-first_flaw-clause-exact : goal.returns-in-Some-first_flaw-clause-exact
returns-in-Some-first_flaw-clause-exact c =
    let none : c.size_flaw.result ≡ None = search rules in
    read-insns c.args.bytes.now c.deref.result.now c.first_flaw.result (sym c.size_flaw.ensures.exact ∙ none) (c.deref.ensures.value
    ∙ c.in_ok-insns.ensures.exact) c.first_flaw.ensures.exact
    ∙ ap (unless_flaw c.deref.result.now) c.in-Some-first_flaw.is

pub returns-in-None-clause-exact : goal.returns-in-None-clause-exact
returns-in-None-clause-exact c =
    let none : c.size_flaw.result ≡ None = search rules in
    read-insns c.args.bytes.now c.in_ok-insns.insns.items c.first_flaw.result (sym c.size_flaw.ensures.exact
    ∙ none) c.in_ok-insns.ensures.exact (c.first_flaw.ensures.exact ∙ ap first_flaw c.deref.ensures.value)
    ∙ ap (unless_flaw c.in_ok-insns.insns.items) c.in-None.is
