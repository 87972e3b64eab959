use Rattle.std.proofs.Common.{◌≡◌, ◌<◌, suc, ◌+◌, drop, length, sym, ap, ◌∙◌, arith}
use Rattle.native_code.specs.Heads.{jump_to}
use Rattle.native_lives.proofs.Scanning.{scan-on, scan-found}
use Rattle.native_lives.proofs.targets.is_jumped_to.Goals as goal

pub returns-then-jumps_to : goal.returns-then-jumps_to
returns-then-jumps_to c =
    let low : c.loop-i.i < length c.args.code.now = omega (arith, c.loop-i-test.true, c.count-i-end.ensures.value) in
    sym (c.loop-i.invariant ∙ scan-found c.args.code.now c.args.head c.loop-i.i low (sym c.jumps_to.ensures ∙ c.if-jumps_to.true))

pub loop-i-preserved : goal.loop-i-preserved
loop-i-preserved c =
    let low : c.loop-i.i < length c.args.code.now = omega (arith, c.loop-i-test.true, c.count-i-end.ensures.value) in
    let one : suc c.loop-i.i ≡ c.loop-i.i + 1 = omega arith in
    c.loop-i.invariant ∙ scan-on c.args.code.now c.args.head c.loop-i.i low (sym c.jumps_to.ensures ∙ c.if-jumps_to.false)
    ∙ ap (λ k. jump_to c.args.head k (drop k c.args.code.now)) one
