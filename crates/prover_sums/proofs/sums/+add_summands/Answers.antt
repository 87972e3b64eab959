use Rattle.std.proofs.Common.{◌≡◌, ◌++◌, ◌∷◌, [], ap, ◌∙◌, arith}
use Rattle.std.proofs.lemmas.Result.{IfOk-weaker}
use Rattle.term_table.specs.Table.{IsKnown, AllKnown, tree_at}
use Rattle.prover_sums.specs.Inside.Sums.{AreExps, IsSumOf}
use Rattle.prover_sums.proofs.Summing.{known-end, exps-end, sum_next, sum_end}
use Rattle.prover_sums.proofs.sums.+add_summands.Goals as goal

pub add_summands-requires : goal.add_summands-requires
add_summands-requires t c =
    let u = c.args.table.now in
    let left = c.in-Some-operands.sides.left in
    let less = c.in-Some-operands.ensures.below in
    let known : IsKnown u c.index.result = omega (arith, less.0, c.requires.e, c.index.ensures) in
    let all : AllKnown u c.push.new.self.items = rw c.in_ok-push.ensures.items (known-end u c.args.list.now.items c.index.result c.requires.list known) in
    (omega (arith, less.1, c.decreases), (omega (arith, less.1, c.requires.e), all))

pub returns-in-Some-operands-clause-exact : goal.returns-in-Some-operands-clause-exact
returns-in-Some-operands-clause-exact t c =
    λ before x e q.
    let u = c.args.table.now in
    let sum = c.in-Some-operands.ensures.is x q in
    let left : tree_at u c.index.result ≡ _ = ap (tree_at u) c.index.ensures ∙ sum.left_is in
    let list : AreExps u c.push.new.self.items (before ++ sum.left ∷ []) = rw c.in_ok-push.ensures.items (exps-end u c.args.list.now.items before c.index.result sum.left e left) in
    IfOk-weaker c.add_summands.result (IsSumOf u c.add_summands.new.list.items (before ++ sum.left ∷ []) sum.right) (IsSumOf u c.add_summands.new.list.items before x)
    (λ w s. rw sum.is (sum_next u c.add_summands.new.list.items before sum.left sum.right w s)) (c.add_summands.ensures.exact (before ++ sum.left ∷ []) sum.right list sum.right_is)

pub returns-clause-known : goal.returns-clause-known
returns-clause-known t c =
    let known : IsKnown c.args.table.now c.index-2.result = omega (arith, c.requires.e, c.index-2.ensures) in
    rw c.in_ok-push-2.ensures.items (known-end c.args.table.now c.args.list.now.items c.index-2.result c.requires.list known)

pub returns-clause-exact : goal.returns-clause-exact
returns-clause-exact t c =
    λ before x e q.
    let u = c.args.table.now in
    rw c.in_ok-push-2.ensures.items (sum_end u c.args.list.now.items before c.index-2.result x e (ap (tree_at u) c.index-2.ensures ∙ q) (c.in_default.ensures x q) (c.in_default-operands.ensures.is x q))
