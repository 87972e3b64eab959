use Rattle.std.proofs.Common.{◌≡◌, ◌+◌, ℕ, length, drop, slice_get, slice_index_or, sym, ◌∙◌, ap, subst, arith}
use Rattle.std.proofs.lemmas.List.{drop_more}
use Rattle.term_table.specs.Tree.{Tree}
use Rattle.term_table.specs.Table.{IsKnown, tree_at, Extends, id_trees}
use Rattle.hereditary_subst.proofs.Rows.{grows_more}
use Rattle.lf_encode.proofs.KeptRows.{ready-same}
use Rattle.lf_signature.specs.Nodes.{IsIdOf}
use Rattle.lf_signature.specs.Terms.{and_term, imp_term}
use Rattle.vcgen.specs.WalkTree.{start_terms, walked, walked_at, closed_term, part_terms}
use Rattle.vcgen.proofs.Walking.{walking-more, invs-same}
use Rattle.vcgen.proofs.Parts.{inv-at, invs-drop}
use Rattle.vcgen.specs.Symbols.{ids_of}
use Rattle.vcgen.proofs.condition.+inv_parts.Goals as goal

pub part-requires-clause-from : goal.part-requires-clause-from
part-requires-clause-from t c =
    let known = inv-at c.args.table.now c.args.program.now.invs.now c.args.from c.index-program-from.result c.requires.walking.program.invs (omega arith) in
    omega (arith, known, c.in_ok-walked.ensures.extends.longer)

pub inv_parts-requires : goal.inv_parts-requires
inv_parts-requires t c =
    let u = c.walk_from.new.table in
    let v = c.part.new.table in
    let ids = (ids_of c.args.start.now) in
    let grown : Extends c.args.table.now v = grows_more c.args.table.now u v c.in_ok-walked.ensures.extends c.in_ok-here.ensures.extends in
    let walking = walking-more _ _ _ _ _ _ _ _ c.in_ok-walked.ensures.walking c.in_ok-here.ensures.extends in
    let start = ready-same c.args.table.now v ids c.requires.walking.ready grown ∙ c.requires.start in
    (omega arith, (walking, (c.requires.inside, (omega arith, start))))

pub returns-clause-id : goal.returns-clause-id
returns-clause-id t c =
    let o = c.args.table.now in
    let u = c.walk_from.new.table in
    let v = c.part.new.table in
    let w = c.inv_parts.new.table in
    let p = c.args.program.now in
    let d : ℕ × ℕ = c.index-program-from.result in
    let pair : ℕ × ℕ = slice_index_or p.invs.now c.args.from d in
    let post = tree_at o p.post in
    let known : IsKnown o pair.1 = inv-at o p.invs.now c.args.from d c.requires.walking.program.invs (omega arith) in
    let grown : Extends o v = grows_more o u v c.in_ok-walked.ensures.extends c.in_ok-here.ensures.extends in
    let walk : ℕ → Tree = λ n. walked_at p.bound (walked p.bound p.code.now (id_trees o p.invs.now) post n) post pair.0 (slice_get p.code.now pair.0) start_terms in
    let from : tree_at u c.in_ok-walked.walked ≡ walk (length p.code.now) =
    c.in_ok-walked.ensures.id.is
    ∙ ap (λ s. walked_at p.bound (walked p.bound p.code.now (id_trees o p.invs.now) post c.count-count.result) post pair.0 (slice_get p.code.now pair.0) s) c.requires.start
    ∙ ap walk c.count-count.ensures.value in
    let inv : tree_at u pair.1 ≡ tree_at o pair.1 = c.in_ok-walked.ensures.extends.same pair.1 known in
    let here : tree_at w c.in_ok-here.here ≡ closed_term p.bound (imp_term (tree_at o pair.1) (walk (length p.code.now))) =
    c.in_ok-rest.ensures.extends.same c.in_ok-here.here c.in_ok-here.ensures.id.known ∙ c.in_ok-here.ensures.id.is ∙ (λ i. closed_term p.bound (imp_term (inv i) (from i))) in
    let later = drop (c.args.from + 1) p.invs.now in
    let rest : tree_at w c.in_ok-rest.rest ≡ part_terms p.bound p.code.now (id_trees o p.invs.now) post (id_trees o later) =
    let all = invs-same o v p.invs.now c.requires.walking.program.invs grown in
    let few = invs-same o v later (invs-drop o p.invs.now (c.args.from + 1) c.requires.walking.program.invs) grown in
    let end = grown.same p.post c.requires.walking.program.post in
    c.in_ok-rest.ensures.id.is ∙ (λ i. part_terms p.bound p.code.now (all i) (end i) (few i)) in
    let split = drop_more p.invs.now c.args.from d (omega arith) in
    subst (λ z. IsIdOf c.app2.new.table (part_terms p.bound p.code.now (id_trees o p.invs.now) post (id_trees o z)) c.in_ok-app2.field-0) (sym split)
    (subst (λ z. IsIdOf c.app2.new.table z c.in_ok-app2.field-0) (λ i. and_term (here i) (rest i)) c.in_ok-app2.ensures.id)
