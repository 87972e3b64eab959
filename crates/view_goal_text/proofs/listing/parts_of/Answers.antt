use Rattle.std.proofs.Common.{◌≡◌, map, ◌∙◌, ap}
use Rattle.term_table.specs.Table.{id_trees}
use Rattle.lf_terms.specs.Encoding.{form_encoding}
use Rattle.prover_class.specs.Parts.{conjoined}
use Rattle.vcgen.specs.Encoded.{annotated}
use Rattle.pcc_gate.specs.First.{formulas}
use Rattle.view_goals.specs.Rows.{part_view, shown_parts}
use Rattle.view_goal_text.proofs.PartLists.{code-of, parts-are, parts-shown}
use Rattle.view_goal_text.proofs.listing.parts_of.Goals as goal

pub returns-clause-parts : goal.returns-clause-parts
returns-clause-parts c =
    let policy = c.args.policy.now in
    let bound = c.args.bound in
    let code = c.args.cut.now.code in
    let invs = id_trees c.args.table.now c.args.invs.now in
    let a = annotated policy bound code (formulas invs) in
    let tree = c.in_ok-condition.ensures.id.is
    ∙ ap (λ l. form_encoding (conjoined l)) (parts-are policy bound code invs) in
    let are : map (part_view c.condition_in.new.table) c.in_ok-parts.parts.items ≡ shown_parts a =
    c.in_ok-parts.ensures.exact a (code-of policy bound code c.args.table.now c.args.invs.now) tree in
    are ∙ parts-shown c.laws.ensures.entry c.laws.ensures.invs a
