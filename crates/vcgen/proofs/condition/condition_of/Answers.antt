use Rattle.std.proofs.Common.{◌≡◌, length, refl, ◌∙◌, subst}
use Rattle.term_table.specs.Table.{tree_at, Extends, id_trees}
use Rattle.hereditary_subst.proofs.Rows.{grows_more, memo-more}
use Rattle.lf_encode.proofs.KeptRows.{ready-same}
use Rattle.lf_signature.specs.Nodes.{IsIdOf}
use Rattle.lf_signature.specs.Terms.{and_term, imp_term}
use Rattle.vcgen.specs.WalkTree.{entry_terms, walked, closed_term, part_terms}
use Rattle.vcgen.proofs.Walking.{program-more, walking-more, invs-same, walk-same}
use Rattle.vcgen.specs.Symbols.{ids_of}
use Rattle.vcgen.proofs.condition.condition_of.Goals as goal

pub walk_entry-requires-clause-walking : goal.walk_entry-requires-clause-walking
walk_entry-requires-clause-walking c =
    let s = c.start.new.table in
    record {
      program = program-more c.args.table.now s c.args.program.now.code.now c.args.program.now.invs.now c.args.program.now.post c.requires.program c.in_ok-start.ensures.extends;
      ready = c.in_ok-start.ensures.ready;
      shifts = memo-more c.args.shifts.now c.args.table.now s c.requires.shifts c.in_ok-start.ensures.extends;
      kept = c.new-kept.ensures s (ids_of c.in_ok-start.start);
    }

pub inv_parts-requires-clause-walking : goal.inv_parts-requires-clause-walking
inv_parts-requires-clause-walking c = walking-more _ _ _ _ _ _ _ _ c.in_ok-walked.ensures.walking c.in_ok-entry.ensures.extends

pub inv_parts-requires-clause-start : goal.inv_parts-requires-clause-start
inv_parts-requires-clause-start c =
    let s = c.start.new.table in
    let p = c.part.new.table in
    let grown : Extends s p = grows_more s c.walk_entry.new.table p c.in_ok-walked.ensures.extends c.in_ok-entry.ensures.extends in
    ready-same s p (ids_of c.in_ok-start.start) c.in_ok-start.ensures.ready grown ∙ c.in_ok-start.ensures.terms

pub returns-clause-id : goal.returns-clause-id
returns-clause-id c =
    let o = c.args.table.now in
    let s = c.start.new.table in
    let w = c.walk_entry.new.table in
    let p = c.part.new.table in
    let r = c.inv_parts.new.table in
    let it = c.args.program.now in
    let post = tree_at o it.post in
    let begun : Extends o w = grows_more o s w c.in_ok-start.ensures.extends c.in_ok-walked.ensures.extends in
    let grown : Extends o p = grows_more o w p begun c.in_ok-entry.ensures.extends in
    let pre : tree_at w c.args.pre ≡ tree_at o c.args.pre = begun.same c.args.pre c.requires.pre in
    let walk : tree_at w c.in_ok-walked.walked ≡ walked it.bound it.code.now (id_trees o it.invs.now) post (length it.code.now) 0 (entry_terms it.bound) =
    c.in_ok-walked.ensures.id.is
    ∙ walk-same it.bound o s it.code.now it.invs.now it.post (length it.code.now) 0 (entry_terms it.bound) (entry_terms it.bound) c.requires.program c.in_ok-start.ensures.extends refl in
    let entry : tree_at r c.in_ok-entry.entry ≡ closed_term it.bound (imp_term (tree_at o c.args.pre) (walked it.bound it.code.now (id_trees o it.invs.now) post (length it.code.now) 0 (entry_terms it.bound))) =
    c.in_ok-rest.ensures.extends.same c.in_ok-entry.entry c.in_ok-entry.ensures.id.known ∙ c.in_ok-entry.ensures.id.is ∙ (λ i. closed_term it.bound (imp_term (pre i) (walk i))) in
    let rest : tree_at r c.in_ok-rest.rest ≡ part_terms it.bound it.code.now (id_trees o it.invs.now) post (id_trees o it.invs.now) =
    let all = invs-same o p it.invs.now c.requires.program.invs grown in
    let end = grown.same it.post c.requires.program.post in
    c.in_ok-rest.ensures.id.is ∙ (λ i. part_terms it.bound it.code.now (all i) (end i) (all i)) in
    subst (λ z. IsIdOf c.app2.new.table z c.in_ok-app2.field-0) (λ i. and_term (entry i) (rest i)) c.in_ok-app2.ensures.id
