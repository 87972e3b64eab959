use Rattle.std.proofs.Common.{ℕ, List, length, ◌<◌, get_or, arith}
use Rattle.std.proofs.lemmas.List.{get_or_default}
use Rattle.reference_machine.proofs.loading.reach.Goals as goal

pub end_of-requires : goal.end_of-requires
end_of-requires c =
    let spans : List (ℕ × ℕ) = c.args.spans.now in
    let k : ℕ = c.loop-span.span-index in
    let within : k < length spans = omega (arith, c.loop-span-test.true, c.loop-span.auto.span-index-end) in
    let span : ℕ × ℕ = get_or spans k (0, 0) in
    c.requires.spans span (k, within, get_or_default spans k span (0, 0) within)
