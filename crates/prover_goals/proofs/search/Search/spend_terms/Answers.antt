use Rattle.std.proofs.Common.{◌≡◌, ◌≤◌, ◌*◌, ◌^◌, min, arith}
use Rattle.hereditary_subst.specs.Limits.{is_limited, results_of}
use Rattle.hereditary_subst.proofs.Limits.{charge-up, charge-none}
use Rattle.prover_goals.specs.Search.{uncounted}
use Rattle.prover_goals.proofs.search.Search.spend_terms.Goals as goal

pub returns-then-terms-eq0-clause-left : goal.returns-then-terms-eq0-clause-left
returns-then-terms-eq0-clause-left c =
    let none : min (3 * uncounted c.args.table.now c.args.self.now) (2 ^ 60) ≡ 0 = omega arith in
    omega (arith, charge-none (is_limited c.args.self.now.memo) _ none)

pub returns-clause-left : goal.returns-clause-left
returns-clause-left c =
    let more : min (3 * uncounted c.args.table.now c.args.self.now) (2 ^ 60) ≤ results_of c.saturating_sub-steps.result = omega arith in
    omega (arith, c.in_ok-spend_steps.ensures.counts.1, charge-up (is_limited c.args.self.now.memo) _ _ more)
