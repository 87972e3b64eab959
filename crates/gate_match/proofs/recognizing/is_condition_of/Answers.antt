use Rattle.std.proofs.Common.{◌≡◌, length, ◌∙◌, subst}
use Rattle.term_table.specs.Table.{tree_at, Extends, id_trees}
use Rattle.hereditary_subst.proofs.Rows.{grows_more, memo-more}
use Rattle.lf_encode.proofs.KeptRows.{ready-same}
use Rattle.lf_encode.proofs.Comparisons.{apart-first, ok-by-second, answer-of, one-answer}
use Rattle.lf_signature.specs.declared.numbers.TheConstants.{AND}
use Rattle.lf_signature.specs.Terms.{app2, imp_term}
use Rattle.gate_match.specs.Inside.Goals.{AreSides}
use Rattle.vcgen.specs.WalkTree.{entry_terms, walked, closed_term, part_terms}
use Rattle.vcgen.proofs.Walking.{program-more, invs-same}
use Rattle.gate_match.proofs.Sides.{app2-one}
use Rattle.vcgen.specs.Symbols.{ids_of}
use Rattle.gate_match.proofs.recognizing.is_condition_of.Goals as goal

pub is_entry-requires-clause-walking : goal.is_entry-requires-clause-walking
is_entry-requires-clause-walking c =
    let s = c.start.new.table in
    record {
      program = program-more c.args.table.now s c.args.program.now.code.now c.args.program.now.invs.now c.args.program.now.post c.requires.program
          c.in_ok-start.ensures.extends;
      ready = c.in_ok-start.ensures.ready;
      shifts = memo-more c.args.shifts.now c.args.table.now s c.requires.shifts c.in_ok-start.ensures.extends;
      kept = c.new-kept.ensures;
    }

pub returns-then-not-entered-clause-exact : goal.returns-then-not-entered-clause-exact
returns-then-not-entered-clause-exact c =
    let o = c.args.table.now in
    let s = c.start.new.table in
    let it = c.args.program.now in
    let goal = tree_at o c.args.goal in
    let h = subst (λ z. AreSides (app2 AND) o goal z) c.in-Some.is c.sides.ensures in
    let begun : Extends o s = c.in_ok-start.ensures.extends in
    let entry = closed_term it.bound (imp_term (tree_at o c.args.pre) (walked it.bound it.code.now (id_trees o it.invs.now) (tree_at o it.post) (length it.code.now) 0
    (entry_terms it.bound))) in
    let parts = part_terms it.bound it.code.now (id_trees o it.invs.now) (tree_at o it.post) (id_trees o it.invs.now) in
    let all = invs-same o s it.invs.now c.requires.program.invs begun in
    let end = begun.same it.post c.requires.program.post in
    let pre = begun.same c.args.pre c.requires.pre in
    let made : closed_term it.bound (imp_term (tree_at s c.args.pre) (walked it.bound it.code.now (id_trees s it.invs.now) (tree_at s it.post) (length it.code.now) 0
    (entry_terms it.bound))) ≡ entry =
    λ i. closed_term it.bound (imp_term (pre i) (walked it.bound it.code.now (all i) (end i) (length it.code.now) 0 (entry_terms it.bound))) in
    let first = one-answer c.in_ok-entered.entered (tree_at s c.in-Some.parts.first) (tree_at o c.in-Some.parts.first) _ entry
    (begun.same c.in-Some.parts.first h.0) made c.in_ok-entered.ensures.exact in
    apart-first (app2 AND) (app2-one AND) goal (tree_at o c.in-Some.parts.first) (tree_at o c.in-Some.parts.second) entry parts h.2 c.in_ok-entered.entered
    first c.if-not-entered.true

pub are_inv_parts-requires-clause-start : goal.are_inv_parts-requires-clause-start
are_inv_parts-requires-clause-start c =
    ready-same c.start.new.table c.is_entry.new.table (ids_of c.in_ok-start.start) c.in_ok-start.ensures.ready
    c.in_ok-entered.ensures.extends ∙ c.in_ok-start.ensures.terms

pub returns-clause-exact : goal.returns-clause-exact
returns-clause-exact c =
    let o = c.args.table.now in
    let s = c.start.new.table in
    let u = c.is_entry.new.table in
    let it = c.args.program.now in
    let goal = tree_at o c.args.goal in
    let h = subst (λ z. AreSides (app2 AND) o goal z) c.in-Some.is c.sides.ensures in
    let begun : Extends o s = c.in_ok-start.ensures.extends in
    let grown : Extends o u = grows_more o s u begun c.in_ok-entered.ensures.extends in
    let entry = closed_term it.bound (imp_term (tree_at o c.args.pre) (walked it.bound it.code.now (id_trees o it.invs.now) (tree_at o it.post) (length it.code.now) 0
    (entry_terms it.bound))) in
    let parts = part_terms it.bound it.code.now (id_trees o it.invs.now) (tree_at o it.post) (id_trees o it.invs.now) in
    let all = invs-same o s it.invs.now c.requires.program.invs begun in
    let end = begun.same it.post c.requires.program.post in
    let pre = begun.same c.args.pre c.requires.pre in
    let made : closed_term it.bound (imp_term (tree_at s c.args.pre) (walked it.bound it.code.now (id_trees s it.invs.now) (tree_at s it.post) (length it.code.now) 0
    (entry_terms it.bound))) ≡ entry =
    λ i. closed_term it.bound (imp_term (pre i) (walked it.bound it.code.now (all i) (end i) (length it.code.now) 0 (entry_terms it.bound))) in
    let first = one-answer c.in_ok-entered.entered (tree_at s c.in-Some.parts.first) (tree_at o c.in-Some.parts.first) _ entry
    (begun.same c.in-Some.parts.first h.0) made c.in_ok-entered.ensures.exact in
    let later : part_terms it.bound it.code.now (id_trees u it.invs.now) (tree_at u it.post) (id_trees u it.invs.now) ≡ parts =
    let each = invs-same o u it.invs.now c.requires.program.invs grown in
    let last = grown.same it.post c.requires.program.post in
    λ i. part_terms it.bound it.code.now (each i) (last i) (each i) in
    let second = answer-of c.are_inv_parts.result (tree_at u c.in-Some.parts.second) (tree_at o c.in-Some.parts.second) _ parts
    (grown.same c.in-Some.parts.second h.1) later c.are_inv_parts.ensures.exact in
    ok-by-second (app2 AND) (app2-one AND) goal (tree_at o c.in-Some.parts.first) (tree_at o c.in-Some.parts.second) entry parts h.2 c.in_ok-entered.entered
    c.are_inv_parts.result first c.if-not-entered.false second
