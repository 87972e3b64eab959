use Rattle.std.proofs.Common.{rules, ◌≡◌, ◌<◌, ◌+◌, ◌^◌, arith, sym, ◌∙◌, ap, Some}
use Rattle.hereditary_subst.proofs.Shifting.{shifted_below, shifted_from, shifted_past}
use Rattle.hereditary_subst.proofs.shifts.shift_variable.Goals as goal

pub returns-then-from-clause-tree : goal.returns-then-from-clause-tree
returns-then-from-clause-tree c =
    let small : c.args.n < 2 ^ 32 = search rules in
    rw (← c.requires.is) (c.requires.known, shifted_below c.args.by c.args.from c.args.n (omega arith) small)

pub returns-in-Err-clause-tree : goal.returns-in-Err-clause-tree
returns-in-Err-clause-tree c =
    let past : c.args.n + c.args.by < 2 ^ 32 → ⊥ = rw c.from-2.ensures at c.in-Err.ensures in
    rw (← c.requires.is) (shifted_past c.args.by c.args.from c.args.n (omega arith) (omega (arith, past)))

pub returns-in_ok-intern-in-Ok-clause-tree : goal.returns-in_ok-intern-in-Ok-clause-tree
returns-in_ok-intern-in-Ok-clause-tree c =
    let made = c.in_ok-intern-in-Ok.ensures.id in
    let sum : c.args.n + c.args.by ≡ c.in-Ok.m = search rules in
    let small : c.in-Ok.m < 2 ^ 32 = search rules in
    (made.0, rw (← c.requires.is) (shifted_from c.args.by c.args.from c.args.n c.in-Ok.m (omega arith) sum small ∙ ap Some (sym made.1)))
