use Rattle.std.proofs.Common.{ℕ, Option, IfOk, Some, length, sym, ◌∙◌, ap, subst}
use Rattle.term_table.specs.Table.{tree_at, id_trees}
use Rattle.lf_signature.specs.Nodes.{IsIdOf}
use Rattle.lf_signature.specs.Terms.{lit}
use Rattle.vcgen.specs.WalkTree.{entry_terms, with_left, walked}
use Rattle.vcgen.proofs.Walking.{walking-more, walk-same}
use Rattle.vcgen.proofs.walk.walk_entry.Goals as goal

pub returns-in-None-clause-id : goal.returns-in-None-clause-id
returns-in-None-clause-id c =
    let o = c.args.table.now in
    let p = c.args.program.now in
    let made = (λ i. walked p.bound p.code.now (id_trees o p.invs.now) (tree_at o p.post) (c.count-count.ensures.value i) 0 (c.requires.start i))
    ∙ ap (λ (b : Option ℕ). walked p.bound p.code.now (id_trees o p.invs.now) (tree_at o p.post) (length p.code.now) 0 (entry_terms b)) (sym c.in-None.is) in
    subst (λ z. IfOk c.walk.result (IsIdOf c.walk.new.table z)) made c.walk.ensures.id

pub returns-in_err-entry-in-Some-clause-walking : goal.returns-in_err-entry-in-Some-clause-walking
returns-in_err-entry-in-Some-clause-walking c = walking-more _ _ _ _ _ _ _ _ c.requires.walking c.in_err-entry-in-Some.ensures.extends

pub walk_with-requires-clause-walking : goal.walk_with-requires-clause-walking
walk_with-requires-clause-walking c = walking-more _ _ _ _ _ _ _ _ c.requires.walking c.in_ok-entry-in-Some.ensures.extends

pub returns-in_ok-entry-in-Some-clause-id : goal.returns-in_ok-entry-in-Some-clause-id
returns-in_ok-entry-in-Some-clause-id c =
    let o = c.args.table.now in
    let u = c.bounded.new.table in
    let p = c.args.program.now in
    let bound = c.in-Some.bound in
    let entry = c.in_ok-entry-in-Some.ensures.after.are ∙ ap (λ s. with_left s (lit bound)) c.requires.start in
    let made = walk-same p.bound o u p.code.now p.invs.now p.post c.count-count.result 0 _ (entry_terms (Some bound)) c.requires.walking.program c.in_ok-entry-in-Some.ensures.extends entry
    ∙ ap (λ n. walked p.bound p.code.now (id_trees o p.invs.now) (tree_at o p.post) n 0 (entry_terms (Some bound))) c.count-count.ensures.value
    ∙ ap (λ (b : Option ℕ). walked p.bound p.code.now (id_trees o p.invs.now) (tree_at o p.post) (length p.code.now) 0 (entry_terms b)) (sym c.in-Some.is) in
    subst (λ z. IfOk c.walk_with.result (IsIdOf c.walk_with.new.table z)) made c.walk_with.ensures.id
