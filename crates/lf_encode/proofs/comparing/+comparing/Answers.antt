use Rattle.std.proofs.Common.{◌≡◌, ◌<◌, refl, sym, ◌∙◌, ap, arith}
use Rattle.term_table.specs.Tree.{App}
use Rattle.term_table.specs.Table.{IsKnown, tree_at, Extends}
use Rattle.lf_encode.specs.PutTree.{machine_terms_at, put_tree}
use Rattle.lf_encode.proofs.PutTree.{put_tree-scoped}
use Rattle.lf_encode.proofs.KeptRows.{ready-more, ready-same, is-put, argument-low}
use Rattle.lf_encode.proofs.Comparisons.{app-one, ok-by-second, answer-of, one-answer}
use Rattle.lf_encode.proofs.comparing.+comparing.Goals as goal

pub is_put_at-returns-then-is_near-clause-exact : goal.is_put_at-returns-then-is_near-clause-exact
is_put_at-returns-then-is_near-clause-exact t c =
    let o = c.args.table.now in
    let terms = machine_terms_at o c.args.ids.now in
    one-answer c.same.result (tree_at o c.args.goal) (tree_at o c.args.goal) (tree_at o c.args.id) (put_tree terms c.args.depth (tree_at o c.args.id)) refl
    (sym (put_tree-scoped terms c.args.depth (tree_at o c.args.id) (c.if-is_near.ensures refl))) c.same.ensures

pub is_put_at-keep-requires-clause-put : goal.is_put_at-keep-requires-clause-put
is_put_at-keep-requires-clause-put t c =
    let o = c.args.table.now in
    let u = c.is_put_by_parts.new.table in
    let same = c.in_ok-equal.ensures.extends.same c.args.goal c.requires.goal in
    let known : IsKnown u c.args.goal = omega (arith, c.requires.goal, c.in_ok-equal.ensures.extends.longer) in
    is-put o u c.args.ids.now _ c.args.id c.args.depth c.args.goal c.requires.ready c.in_ok-equal.ensures.extends c.requires.known
    c.number.ensures refl
    (record { known = known; is = same ∙ c.in_ok-equal.ensures.exact.0 c.if-equal.true })

pub is_put_by_parts-is_put_at-requires-in-App : goal.is_put_by_parts-is_put_at-requires-in-App
is_put_by_parts-is_put_at-requires-in-App t c =
    let o = c.args.table.now in
    let u = c.is_put_at.new.table in
    let x : Extends o u = c.in_ok-is_put_at-in-App.ensures.extends in
    let less : c.in-App.a < c.args.id = c.in-App.ensures.parts.1 in
    let known : IsKnown o c.in-App.a = omega (arith, c.requires.known, less) in
    let behind : c.in-App-node.argument < c.args.goal = c.in-App-node.ensures.parts.1 in (
      omega (arith, c.decreases, less),
      (
        omega (arith, known, x.longer),
        (
          omega (arith, c.requires.goal, behind, x.longer),
          (
            ready-more o u c.args.ids.now c.requires.ready x,
            (
              c.in_ok-is_put_at-in-App.ensures.shifts,
              (
                c.in_ok-is_put_at-in-App.ensures.kept,
                argument-low o u c.args.id c.in-App.f c.in-App.a c.args.depth c.in-App.ensures.tree x known c.requires.low,
              ),
            ),
          ),
        ),
      ),
    )

pub is_put_by_parts-returns-else-not-branch-clause-exact : goal.is_put_by_parts-returns-else-not-branch-clause-exact
is_put_by_parts-returns-else-not-branch-clause-exact t c =
    let o = c.args.table.now in
    let u = c.is_put_at.new.table in
    let terms = machine_terms_at o c.args.ids.now in
    let depth = c.args.depth in
    let f = c.in-App.f in
    let a = c.in-App.a in
    let function = c.in-App-node.function in
    let argument = c.in-App-node.argument in
    let x : Extends o u = c.in_ok-is_put_at-in-App.ensures.extends in
    let known : IsKnown o a = omega (arith, c.requires.known, c.in-App.ensures.parts.1) in
    let there : IsKnown o argument = omega (arith, c.requires.goal, c.in-App-node.ensures.parts.1) in
    let put : put_tree (machine_terms_at u c.args.ids.now) depth (tree_at u a) ≡ put_tree terms depth (tree_at o a) =
    λ i. put_tree (ready-same o u c.args.ids.now c.requires.ready x i) depth (x.same a known i) in
    let second = answer-of c.is_put_at-in-App.result (tree_at u argument) (tree_at o argument)
    (put_tree (machine_terms_at u c.args.ids.now) depth (tree_at u a)) (put_tree terms depth (tree_at o a)) (x.same argument there) put
    c.is_put_at-in-App.ensures.exact in
    let both = ok-by-second App app-one (tree_at o c.args.goal) (tree_at o function) (tree_at o argument) (put_tree terms depth (tree_at o f))
    (put_tree terms depth (tree_at o a)) (sym c.in-App-node.ensures.tree)
    c.in_ok-is_put_at-in-App.field-0 c.is_put_at-in-App.result c.in_ok-is_put_at-in-App.ensures.exact c.if-not-branch.false second in
    answer-of c.is_put_at-in-App.result (tree_at o c.args.goal) (tree_at o c.args.goal) (put_tree terms depth (App (tree_at o f) (tree_at o a)))
    (put_tree terms depth (tree_at o c.args.id)) refl (ap (put_tree terms depth) c.in-App.ensures.tree) both
