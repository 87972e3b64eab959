use Rattle.std.proofs.Common.{length, subst}
use Rattle.term_table.specs.Table.{tree_at, id_trees}
use Rattle.lf_encode.proofs.Comparisons.{apart-first, ok-by-second}
use Rattle.lf_signature.specs.Terms.{imp_term}
use Rattle.gate_match.specs.Inside.Goals.{AreSides}
use Rattle.vcgen.specs.WalkTree.{entry_terms, walked, closed_term}
use Rattle.gate_match.proofs.Sides.{closed-one}
use Rattle.gate_match.proofs.recognizing.is_entry.Goals as goal

pub returns-then-not-same-clause-exact : goal.returns-then-not-same-clause-exact
returns-then-not-same-clause-exact c =
    let o = c.args.table.now in
    let p = c.args.program.now in
    let walk = walked p.bound p.code.now (id_trees o p.invs.now) (tree_at o p.post) (length p.code.now) 0 (entry_terms p.bound) in
    let h = subst (λ z. AreSides (λ a b. closed_term p.bound (imp_term a b)) o (tree_at o c.args.goal) z) c.in-Some.is c.closed_sides.ensures in
    apart-first (λ a b. closed_term p.bound (imp_term a b)) (closed-one p.bound) (tree_at o c.args.goal) (tree_at o c.in-Some.parts.first) (tree_at o c.in-Some.parts.second)
    (tree_at o c.args.pre) walk h.2 c.same.result c.same.ensures c.if-not-same.true

pub returns-clause-exact : goal.returns-clause-exact
returns-clause-exact c =
    let o = c.args.table.now in
    let p = c.args.program.now in
    let walk = walked p.bound p.code.now (id_trees o p.invs.now) (tree_at o p.post) (length p.code.now) 0 (entry_terms p.bound) in
    let h = subst (λ z. AreSides (λ a b. closed_term p.bound (imp_term a b)) o (tree_at o c.args.goal) z) c.in-Some.is c.closed_sides.ensures in
    ok-by-second (λ a b. closed_term p.bound (imp_term a b)) (closed-one p.bound) (tree_at o c.args.goal) (tree_at o c.in-Some.parts.first) (tree_at o c.in-Some.parts.second)
    (tree_at o c.args.pre) walk h.2 c.same.result c.is_walk_entry.result c.same.ensures c.if-not-same.false c.is_walk_entry.ensures.exact
