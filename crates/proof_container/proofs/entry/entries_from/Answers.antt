use Rattle.std.proofs.Common.{◌≡◌, ◌++◌, ◌∷◌, [], true, false, ap, sym, ◌∙◌, arith, length, length-append}
use Rattle.std.proofs.lemmas.Result.{err_from_is_err_and}
use Rattle.term_table.specs.Table.{TableView, node_tree, with_tree}
use Rattle.proof_container.specs.Postorder.{is_emitted}
use Rattle.proof_container.proofs.Steps.{entries_go_on, entries_fault, entries_double, entries_done}
use Rattle.proof_container.proofs.entry.entries_from.Goals as goal

pub returns-in_err-node-clause-read : goal.returns-in_err-node-clause-read
returns-in_err-node-clause-read c =
    let p = err_from_is_err_and c.from_residual.result c.from_residual.ensures.1 in
    let l = c.loop in
    rw (p.1, p.2) (entries_fault c.args.version c.args.count l.counter l.fields.bytes.now l.fields.read l.table.trees _ l.invariant.read c.in_err-node.field-0.0 c.loop-test.true c.in_err-node.ensures.read)

pub returns-then-branch-clause-read : goal.returns-then-branch-clause-read
returns-then-branch-clause-read c =
    let l = c.loop in
    let listed : is_emitted (node_tree l.table c.in_ok-node.node) l.table.trees ≡ true = sym c.in_ok-is_double.ensures.listed ∙ c.if-branch.true in
    let fault = entries_double c.args.version c.args.count l.counter l.fields.bytes.now l.fields.read l.table.trees _ l.invariant.read (node_tree l.table c.in_ok-node.node) c.loop-test.true c.in_ok-node.ensures.read listed in
    rw c.offset-offset.ensures fault

pub loop-preserved : goal.loop-preserved
loop-preserved c =
    let l = c.loop in
    let tree = node_tree l.table c.in_ok-node.node in
    let new : is_emitted tree l.table.trees ≡ false = sym c.in_ok-is_double.ensures.listed ∙ c.if-branch.false in
    let added : c.is_double.new.table ≡ with_tree l.table tree = c.in_ok-is_double.ensures.added c.if-branch.false in
    let trees : c.is_double.new.table.trees ≡ l.table.trees ++ tree ∷ [] = ap (λ (t : TableView). t.trees) added in
    let past = c.in_ok-node.ensures.moves in
    let on = entries_go_on c.args.version c.args.count l.counter l.fields.bytes.now l.fields.read l.table.trees _ l.invariant.read tree c.loop-test.true c.in_ok-node.ensures.read new in
    record {
      bytes = past.bytes ∙ l.invariant.bytes;
      read = rw (trees, past.read, past.bytes) on;
      places = ap (λ (t : TableView). t.places) added ∙ l.invariant.places;
      few = omega (arith, l.invariant.few, ap length trees, length-append l.table.trees (tree ∷ []));
    }

pub returns-clause-read : goal.returns-clause-read
returns-clause-read c =
    let l = c.loop in
    entries_done c.args.version c.args.count l.counter l.fields.bytes.now l.fields.read l.table.trees _ l.invariant.read c.loop-test.false
