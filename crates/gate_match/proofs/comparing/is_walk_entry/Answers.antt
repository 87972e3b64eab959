use Rattle.std.proofs.Common.{ℕ, Option, Some, length, refl, sym, ◌∙◌, ap}
use Rattle.term_table.specs.Table.{tree_at, id_trees}
use Rattle.lf_signature.specs.Terms.{lit}
use Rattle.lf_encode.proofs.Comparisons.{answer-of}
use Rattle.vcgen.specs.WalkTree.{entry_terms, with_left, walked}
use Rattle.vcgen.proofs.Walking.{walk-same}
use Rattle.gate_match.proofs.Growing.{comparing-more}
use Rattle.gate_match.proofs.comparing.is_walk_entry.Goals as goal

pub returns-in-None-clause-exact : goal.returns-in-None-clause-exact
returns-in-None-clause-exact c =
    let o = c.args.table.now in
    let p = c.args.program.now in
    let made = (λ i. walked p.bound p.code.now (id_trees o p.invs.now) (tree_at o p.post) (c.count-count.ensures.value i) 0 (c.requires.start i))
    ∙ ap (λ (b : Option ℕ). walked p.bound p.code.now (id_trees o p.invs.now) (tree_at o p.post) (length p.code.now) 0 (entry_terms b)) (sym c.in-None.is) in
    answer-of c.is_walk.result (tree_at o c.args.goal) (tree_at o c.args.goal) _ _ refl made c.is_walk.ensures.exact

pub returns-in_err-entry-in-Some-clause-walking : goal.returns-in_err-entry-in-Some-clause-walking
returns-in_err-entry-in-Some-clause-walking c = comparing-more _ _ _ _ _ _ _ _ c.requires.walking c.in_err-entry-in-Some.ensures.extends

pub is_walk_with-requires-clause-walking : goal.is_walk_with-requires-clause-walking
is_walk_with-requires-clause-walking c = comparing-more _ _ _ _ _ _ _ _ c.requires.walking c.in_ok-entry-in-Some.ensures.extends

pub returns-in_ok-entry-in-Some-clause-exact : goal.returns-in_ok-entry-in-Some-clause-exact
returns-in_ok-entry-in-Some-clause-exact c =
    let o = c.args.table.now in
    let u = c.bounded.new.table in
    let p = c.args.program.now in
    let bound = c.in-Some.bound in
    let entry = c.in_ok-entry-in-Some.ensures.after.are ∙ ap (λ s. with_left s (lit bound)) c.requires.start in
    let made = walk-same p.bound o u p.code.now p.invs.now p.post c.count-count.result 0 _ (entry_terms (Some bound)) c.requires.walking.program c.in_ok-entry-in-Some.ensures.extends entry
    ∙ ap (λ n. walked p.bound p.code.now (id_trees o p.invs.now) (tree_at o p.post) n 0 (entry_terms (Some bound))) c.count-count.ensures.value
    ∙ ap (λ (b : Option ℕ). walked p.bound p.code.now (id_trees o p.invs.now) (tree_at o p.post) (length p.code.now) 0 (entry_terms b)) (sym c.in-Some.is) in
    answer-of c.is_walk_with.result (tree_at u c.args.goal) (tree_at o c.args.goal) _ _ (c.in_ok-entry-in-Some.ensures.extends.same c.args.goal c.requires.goal) made c.is_walk_with.ensures.exact
