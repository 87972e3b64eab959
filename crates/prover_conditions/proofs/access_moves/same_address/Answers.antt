use Rattle.std.proofs.Common.{◌∙◌}
use Rattle.term_table.specs.Table.{tree_at}
use Rattle.term_table.specs.Equality.{tree_eq}
use Rattle.prover_conditions.proofs.AccessRows.{same_trees}
use Rattle.prover_conditions.proofs.access_moves.same_address.Goals as goal

pub returns-clause-exact : goal.returns-clause-exact
returns-clause-exact c = λ x y qz qa.
    let u = c.normal_exp-2.new.table in
    let one = c.in_ok-first.ensures in
    let two = c.in_ok-second.ensures in
    let first = two.extends.same c.in_ok-first.first one.known ∙ one.exact x qz in
    let second = two.exact y (one.extends.same c.args.a c.requires.a ∙ qa) in
    same_trees c.same.result (tree_at u c.in_ok-first.first) (tree_at u c.in_ok-second.second) c.same.ensures ∙ (λ i. tree_eq (first i) (second i))
