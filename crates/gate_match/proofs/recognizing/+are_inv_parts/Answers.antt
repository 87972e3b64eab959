use Rattle.std.proofs.Common.{◌≡◌, ◌↔◌, ◌+◌, ℕ, IsTrue, IfOk, drop, slice_index_or, sym, ◌∙◌, subst, arith}
use Rattle.std.proofs.lemmas.List.{drop_more}
use Rattle.term_table.specs.Table.{IsKnown, tree_at, Extends, id_trees}
use Rattle.lf_encode.proofs.KeptRows.{ready-same}
use Rattle.lf_encode.proofs.Comparisons.{ok-by-second, answer-of}
use Rattle.lf_signature.specs.declared.numbers.TheConstants.{AND}
use Rattle.lf_signature.specs.Terms.{app2, imp_term}
use Rattle.gate_match.specs.Inside.Goals.{AreSides}
use Rattle.vcgen.specs.WalkTree.{start_terms, walked_from, closed_term, part_terms}
use Rattle.vcgen.proofs.Walking.{invs-same}
use Rattle.vcgen.proofs.Parts.{inv-at, invs-drop}
use Rattle.gate_match.proofs.Sides.{app2-one}
use Rattle.vcgen.specs.Symbols.{ids_of}
use Rattle.gate_match.proofs.recognizing.+are_inv_parts.Goals as goal

pub is_inv_part-requires-clause-inv : goal.is_inv_part-requires-clause-inv
is_inv_part-requires-clause-inv t c = inv-at c.args.table.now c.args.program.now.invs.now c.args.from c.index-program-from.result
    c.requires.walking.program.invs (omega arith)

pub are_inv_parts-requires : goal.are_inv_parts-requires
are_inv_parts-requires t c =
    let o = c.args.table.now in
    let u = c.is_inv_part.new.table in
    let grown : Extends o u = c.in_ok-first.ensures.extends in
    let h = subst (λ z. AreSides (app2 AND) o (tree_at o c.args.goal) z) c.in-Some.is c.sides.ensures in
    let known : IsKnown u c.in-Some.parts.second = omega (arith, h.1, grown.longer) in
    let start = ready-same o u (ids_of c.args.start.now) c.requires.walking.ready grown ∙ c.requires.start in
    (omega arith, (c.in_ok-first.ensures.walking, (c.requires.inside, (omega arith, (start, known)))))

pub returns-clause-exact : goal.returns-clause-exact
returns-clause-exact t c =
    let o = c.args.table.now in
    let u = c.is_inv_part.new.table in
    let p = c.args.program.now in
    let d : ℕ × ℕ = c.index-program-from.result in
    let pair : ℕ × ℕ = slice_index_or p.invs.now c.args.from d in
    let post = tree_at o p.post in
    let goal = tree_at o c.args.goal in
    let grown : Extends o u = c.in_ok-first.ensures.extends in
    let h = subst (λ z. AreSides (app2 AND) o goal z) c.in-Some.is c.sides.ensures in
    let invs = id_trees o p.invs.now in
    let later = drop (c.args.from + 1) p.invs.now in
    let here = closed_term p.bound (imp_term (tree_at o pair.1) (walked_from p.bound p.code.now invs post pair.0 start_terms)) in
    let parts = part_terms p.bound p.code.now invs post (id_trees o later) in
    let rest : part_terms p.bound p.code.now (id_trees u p.invs.now) (tree_at u p.post) (id_trees u later) ≡ parts =
    let all = invs-same o u p.invs.now c.requires.walking.program.invs grown in
    let few = invs-same o u later (invs-drop o p.invs.now (c.args.from + 1) c.requires.walking.program.invs) grown in
    let end = grown.same p.post c.requires.walking.program.post in
    λ i. part_terms p.bound p.code.now (all i) (end i) (few i) in
    let second = answer-of c.are_inv_parts.result (tree_at u c.in-Some.parts.second) (tree_at o c.in-Some.parts.second) _ parts
    (grown.same c.in-Some.parts.second h.1) rest c.are_inv_parts.ensures.exact in
    let both = ok-by-second (app2 AND) (app2-one AND) goal (tree_at o c.in-Some.parts.first) (tree_at o c.in-Some.parts.second) here parts h.2
    c.in_ok-first.first c.are_inv_parts.result c.in_ok-first.ensures.exact c.if-not-first.false second in
    let split = drop_more p.invs.now c.args.from d (omega arith) in
    subst (λ z. IfOk c.are_inv_parts.result (λ b. IsTrue b ↔ (goal ≡ part_terms p.bound p.code.now invs post (id_trees o z)))) (sym split) both
