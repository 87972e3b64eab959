use Rattle.std.proofs.Common.{Bool, true, false, [], sym, subst}
use Rattle.prover_class.specs.Access.{summands, all_without}
use Rattle.prover_sums.specs.Inside.Sums.{AreExps, IsSumOf, IsWithout}
use Rattle.prover_sums.proofs.Summing.{rest_none, rest_some}
use Rattle.prover_sums.proofs.sums.rest_of.Goals as goal

pub returns-then-not-take_all_away-clause-exact : goal.returns-then-not-take_all_away-clause-exact
returns-then-not-take_all_away-clause-exact c =
    λ x y p q.
    let t = c.args.table.now in
    let first : IsSumOf t c.add_summands.new.list.items [] x c.in_ok-of_a.of_a = c.in_ok-of_a.ensures.exact [] x (rw c.new-left.ensures.items tt) p in
    let second : IsSumOf t c.add_summands-2.new.list.items [] y c.in_ok-of_b.of_b = c.in_ok-of_b.ensures.exact [] y (rw c.new-away.ensures.items tt) q in
    let away : AreExps t c.as_slice.result.now (summands y) = rw c.as_slice.ensures.value second.0 in
    let missing : IsWithout t c.take_all_away.result c.take_all_away.new.list.items (all_without (summands y) (summands x)) = c.take_all_away.ensures.exact (summands x) (summands y) first.0 away in
    rest_none t c.take_all_away.new.list.items x y (subst (λ (b : Bool). IsWithout t b c.take_all_away.new.list.items (all_without (summands y) (summands x))) c.if-not-take_all_away.true missing)

pub returns-clause-exact : goal.returns-clause-exact
returns-clause-exact c =
    λ x y p q.
    let t = c.args.table.now in
    let first : IsSumOf t c.add_summands.new.list.items [] x c.in_ok-of_a.of_a = c.in_ok-of_a.ensures.exact [] x (rw c.new-left.ensures.items tt) p in
    let second : IsSumOf t c.add_summands-2.new.list.items [] y c.in_ok-of_b.of_b = c.in_ok-of_b.ensures.exact [] y (rw c.new-away.ensures.items tt) q in
    let away : AreExps t c.as_slice.result.now (summands y) = rw c.as_slice.ensures.value second.0 in
    let found : IsWithout t c.take_all_away.result c.take_all_away.new.list.items (all_without (summands y) (summands x)) = c.take_all_away.ensures.exact (summands x) (summands y) first.0 away in
    let left = subst (λ (b : Bool). IsWithout t b c.take_all_away.new.list.items (all_without (summands y) (summands x))) c.if-not-take_all_away.false found in
    rest_some t c.sum_id.new.table c.take_all_away.new.list.items x y c.in_ok-of_a.of_a c.in_ok-of_b.of_b c.in_ok-sum_id.field-0 first.1 second.1 left
    (λ l e. rw (sym c.apply.ensures) (c.in_ok-sum_id.ensures.exact l (rw c.as_slice-2.ensures.value e)))
