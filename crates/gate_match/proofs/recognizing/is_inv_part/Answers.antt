use Rattle.std.proofs.Common.{◌≡◌, ℕ, length, slice_get, refl, subst}
use Rattle.term_table.specs.Tree.{Tree}
use Rattle.term_table.specs.Table.{tree_at, id_trees}
use Rattle.lf_encode.specs.PutTree.{MachineTerms, machine_terms_at}
use Rattle.lf_encode.proofs.Comparisons.{apart-first, ok-by-second, answer-of}
use Rattle.lf_signature.specs.Terms.{imp_term}
use Rattle.gate_match.specs.Inside.Goals.{AreSides}
use Rattle.vcgen.specs.WalkTree.{start_terms, walked, walked_at, walked_from, closed_term}
use Rattle.gate_match.proofs.Sides.{closed-one}
use Rattle.vcgen.specs.Symbols.{ids_of}
use Rattle.gate_match.proofs.recognizing.is_inv_part.Goals as goal

pub returns-then-not-same-clause-exact : goal.returns-then-not-same-clause-exact
returns-then-not-same-clause-exact c =
    let o = c.args.table.now in
    let p = c.args.program.now in
    let walk = walked_from p.bound p.code.now (id_trees o p.invs.now) (tree_at o p.post) c.args.index start_terms in
    let h = subst (λ z. AreSides (λ a b. closed_term p.bound (imp_term a b)) o (tree_at o c.args.goal) z) c.in-Some.is c.closed_sides.ensures in
    apart-first (λ a b. closed_term p.bound (imp_term a b)) (closed-one p.bound) (tree_at o c.args.goal) (tree_at o c.in-Some.parts.first) (tree_at o c.in-Some.parts.second)
    (tree_at o c.args.inv) walk h.2
    c.same.result c.same.ensures c.if-not-same.true

pub returns-clause-exact : goal.returns-clause-exact
returns-clause-exact c =
    let o = c.args.table.now in
    let p = c.args.program.now in
    let terms = machine_terms_at o (ids_of c.args.start.now) in
    let post = tree_at o p.post in
    let walk : ℕ → MachineTerms → Tree = λ n s. walked_at p.bound (walked p.bound p.code.now (id_trees o p.invs.now) post n) post c.args.index
    (slice_get p.code.now c.args.index) s in
    let h = subst (λ z. AreSides (λ a b. closed_term p.bound (imp_term a b)) o (tree_at o c.args.goal) z) c.in-Some.is c.closed_sides.ensures in
    let same : walk c.count-count.result terms ≡ walk (length p.code.now) start_terms = λ i. walk (c.count-count.ensures.value i) (c.requires.start i) in
    ok-by-second (λ a b. closed_term p.bound (imp_term a b)) (closed-one p.bound) (tree_at o c.args.goal) (tree_at o c.in-Some.parts.first) (tree_at o c.in-Some.parts.second)
    (tree_at o c.args.inv)
    (walk (length p.code.now) start_terms) h.2 c.same.result c.is_walk_from.result c.same.ensures c.if-not-same.false
    (answer-of c.is_walk_from.result (tree_at o c.in-Some.parts.second) (tree_at o c.in-Some.parts.second) (walk c.count-count.result terms)
    (walk (length p.code.now) start_terms) refl same c.is_walk_from.ensures.exact)
