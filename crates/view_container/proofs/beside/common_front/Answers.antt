use Rattle.std.proofs.Common.{◌≡◌, ◌≤◌, drop, length, ap, ◌∙◌, arith}
use Rattle.std.proofs.lemmas.List.{drop_all}
use Rattle.view_container.specs.Beside.{common_front}
use Rattle.view_container.proofs.Differences.{front_none}
use Rattle.view_container.proofs.beside.common_front.Goals as goal

pub returns-then-i-other-clause-exact : goal.returns-then-i-other-clause-exact
returns-then-i-other-clause-exact c =
    let i = c.loop-i.i in
    let code = c.args.code.now in
    let other = c.args.other.now in
    let past : length other ≤ i = omega (arith, c.if-i-other.true) in
    let none : common_front (drop i code) (drop i other) ≡ 0 =
    ap (common_front (drop i code)) (drop_all i other past) ∙ front_none (drop i code) in
    omega (arith, c.loop-i.invariant, none)
