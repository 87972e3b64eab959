use Rattle.std.proofs.Common.{◌≡◌, ◌+◌, ◌*◌, sym, ◌∙◌, arith}
use Rattle.std.proofs.lemmas.List.{get_or_default}
use Rattle.word_ops.specs.Memory.{read}
use Rattle.reference_machine.specs.Arena.{map_of}
use Rattle.reference_machine.proofs.ArenaWords.{read-map_of, sum_of-more}
use Rattle.agent_host.proofs.agent.Hosted.sum.Goals as goal

pub loop-i-preserved : goal.loop-i-preserved
loop-i-preserved c =
    let words = c.self.inside.words.items in
    let base = c.self.inside.base in
    let i = c.loop-i.i in
    let word : c.index.result.now ≡ read (map_of base words) (base + 8 * i) =
    c.index.ensures
    ∙ get_or_default words i c.index.result.now 0
    (omega (arith, c.self.invariant.words_len, c.self.invariant.region_within))
    ∙ sym (read-map_of words base i) in
    sum_of-more (map_of base words) base i c.loop-i.total c.index.result.now c.loop-i.invariant word
