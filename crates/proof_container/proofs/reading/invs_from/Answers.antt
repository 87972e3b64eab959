use Rattle.std.proofs.Common.{◌≡◌, ◌++◌, ◌∷◌, [], ℕ, ◌∙◌, arith}
use Rattle.std.proofs.lemmas.Result.{err_from_is_err_and}
use Rattle.std.proofs.lemmas.List.{map_push}
use Rattle.term_table.specs.Tree.{Tree}
use Rattle.term_table.specs.Table.{tree_at, id_trees}
use Rattle.proof_container.proofs.Adding.{known_more}
use Rattle.proof_container.proofs.Steps.{invs_go_on, invs_fault, invs_done}
use Rattle.proof_container.proofs.reading.invs_from.Goals as goal

pub returns-in_err-index-clause-read : goal.returns-in_err-index-clause-read
returns-in_err-index-clause-read c =
    let p = err_from_is_err_and c.from_residual.result c.from_residual.ensures.1 in
    let l = c.loop in
    let table = c.args.table.now in
    rw (p.1, p.2) (invs_fault c.args.count l.counter l.fields.bytes.now l.fields.read table.trees c.args.words l.low (id_trees table l.invs.items) _ l.invariant.read c.in_err-index.field-0.0 c.loop-test.true c.in_err-index.ensures.read)

pub loop-preserved : goal.loop-preserved
loop-preserved c =
    let l = c.loop in
    let table = c.args.table.now in
    let inv : ℕ × Tree = (c.in_ok-index.index, tree_at table c.in_ok-index.id) in
    let more : id_trees table c.push.new.self.items ≡ id_trees table l.invs.items ++ inv ∷ [] = rw c.in_ok-push.ensures.items (map_push _ l.invs.items (c.in_ok-index.index, c.in_ok-index.id)) in
    let past = c.in_ok-index.ensures.moves in
    let on = invs_go_on c.args.count l.counter l.fields.bytes.now l.fields.read table.trees c.args.words l.low (id_trees table l.invs.items) _ l.invariant.read inv c.loop-test.true c.in_ok-index.ensures.read in
    record {
      bytes = past.bytes ∙ l.invariant.bytes;
      place = omega (arith, past.read, l.invariant.place, c.in_ok-push.ensures.len);
      read = rw (more, past.read, past.bytes) on;
      known = rw c.in_ok-push.ensures.items (known_more table l.invs.items (c.in_ok-index.index, c.in_ok-index.id) l.invariant.known c.in_ok-index.ensures.known);
      few = omega (arith, l.invariant.few, c.in_ok-push.ensures.len);
      low = omega (arith, c.in_ok-index.ensures.small);
    }

pub returns-clause-read : goal.returns-clause-read
returns-clause-read c =
    let l = c.loop in
    let table = c.args.table.now in
    invs_done c.args.count l.counter l.fields.bytes.now l.fields.read table.trees c.args.words l.low (id_trees table l.invs.items) _ l.invariant.read c.loop-test.false
