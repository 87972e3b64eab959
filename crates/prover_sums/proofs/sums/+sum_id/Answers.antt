use Rattle.std.proofs.Common.{rules, ◌≡◌, ◌<◌, ◌-◌, ◌∷◌, List, ℕ, length, get_or, take, drop, subst, arith}
use Rattle.term_table.specs.Table.{AllKnown}
use Rattle.lf_terms.proofs.Slices.{parted}
use Rattle.prover_sums.specs.Inside.Sums.{AreExps}
use Rattle.prover_sums.proofs.Summing.{sum_more}
use Rattle.prover_sums.proofs.sums.+sum_id.Goals as goal

pub returns-in_ok-others-in-len1-up-clause-exact : goal.returns-in_ok-others-in-len1-up-clause-exact
returns-in_ok-others-in-len1-up-clause-exact t c =
    λ l e.
    let u = c.args.table.now in
    let ids = c.args.summands.now in
    let a = c.id-summand.result in
    let rest = take (length ids - 1) (drop 1 ids) in
    let first : a ≡ get_or ids 0 a = search rules in
    let parts : ids ≡ a ∷ rest = parted ids a a c.in-len1-up.len_at_least first in
    let known : AllKnown u (a ∷ rest) = subst (AllKnown u) parts c.requires in
    let some : 0 < length rest = search (rules, c.if-is_empty.false, c.is_empty.ensures) in
    sum_more u c.sum_id.new.table c.oper.new.table a rest c.in_ok-others-in-len1-up.others c.args.literal c.oper.result known.0 c.in_ok-others-in-len1-up.ensures.extends some c.in_ok-others-in-len1-up.ensures.exact c.oper.ensures.id l (subst (λ (z : List ℕ). AreExps u z l) parts e)
