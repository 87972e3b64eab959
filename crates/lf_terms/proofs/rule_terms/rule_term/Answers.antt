use Rattle.std.proofs.Common.{◌≡◌, subst, IfOk}
use Rattle.term_table.specs.Tree.{Con, Num, apps}
use Rattle.term_table.specs.Table.{tree_at}
use Rattle.lf_signature.specs.Nodes.{IsIdOf}
use Rattle.lf_terms.specs.Instance.{trees_of}
use Rattle.lf_terms.proofs.Grown.{known-more, trees-same}
use Rattle.lf_terms.proofs.rule_terms.rule_term.Goals as goal

pub applied-requires-clause-args : goal.applied-requires-clause-args
applied-requires-clause-args c = known-more c.args.table.now c.intern.new.self c.args.args.now c.requires c.in_ok-head.ensures.extends

pub returns-clause-id : goal.returns-clause-id
returns-clause-id c =
    let whole : apps (tree_at c.intern.new.self c.in_ok-head.head) (trees_of c.intern.new.self c.args.args.now) ≡ apps (Con (Num c.args.number)) (trees_of c.args.table.now c.args.args.now) =
    λ i. apps (c.in_ok-head.ensures.id.1 i) (trees-same c.args.table.now c.intern.new.self c.args.args.now c.requires c.in_ok-head.ensures.extends i) in
    subst (λ z. IfOk c.applied.result (IsIdOf c.applied.new.table z)) whole c.applied.ensures.id
