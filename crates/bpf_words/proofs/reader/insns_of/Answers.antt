use Rattle.std.proofs.Common.{ap, ◌∙◌, ◌++◌, ◌∷◌, [], ◌/◌, ◌-◌, ◌+◌, length}
use Rattle.bpf_words.specs.Reading.{bpf_insns_from}
use Rattle.bpf_words.proofs.Insns.{bpf_insns_from-step}
use Rattle.bpf_words.proofs.reader.insns_of.Goals as goal

pub loop-i-preserved : goal.loop-i-preserved
loop-i-preserved c =
    let bytes = c.args.bytes.now in
    let count = length bytes / 8 in
    ap (λ l. l ++ bpf_insns_from bytes (c.loop-i.i + 1) (count - (c.loop-i.i + 1))) (c.in_ok-push.ensures.items
    ∙ ap (λ x. c.loop-i.insns.items ++ (x ∷ [])) c.insn_at.ensures.exact)
    ∙ bpf_insns_from-step bytes c.loop-i.insns.items c.loop-i.i count c.loop-i-test.true ∙ c.loop-i.invariant
