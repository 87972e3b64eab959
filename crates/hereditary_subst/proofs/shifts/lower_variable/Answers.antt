use Rattle.std.proofs.Common.{rules, ◌≡◌, ◌<◌, ◌+◌, ◌-◌, arith, ◌∙◌, ap}
use Rattle.term_table.specs.Tree.{Var, shift}
use Rattle.term_table.proofs.Shifts.{raise-over}
use Rattle.hereditary_subst.proofs.Shifting.{raise_from}
use Rattle.hereditary_subst.proofs.shifts.lower_variable.Goals as goal

pub returns-then-from-x-2-clause-tree : goal.returns-then-from-x-2-clause-tree
returns-then-from-x-2-clause-tree c =
    let below : c.args.n < c.args.x = omega arith in
    (c.requires.known, rw (← c.requires.is) (ap Var (raise-over 1 c.args.x c.args.n below)))

pub returns-clause-tree : goal.returns-clause-tree
returns-clause-tree c =
    let made = c.in_ok-intern.ensures.id in
    let apart : c.args.n ≡ c.args.x → ⊥ = search rules in
    let above : c.args.x < c.args.n = grind arith in
    let back : 1 + (c.args.n - 1) ≡ c.args.n = omega arith in
    (made.0, ap (shift 1 c.args.x) made.1 ∙ ap Var (raise_from 1 c.args.x (c.args.n - 1) (omega arith) ∙ back) ∙ c.requires.is)
