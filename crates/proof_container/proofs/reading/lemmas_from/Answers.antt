use Rattle.std.proofs.Common.{◌≡◌, ◌++◌, ◌∷◌, [], ℕ, ◌+◌, ◌∙◌, Ok, arith, length}
use Rattle.std.proofs.lemmas.Result.{err_from_is_err_and}
use Rattle.std.proofs.lemmas.List.{map_push}
use Rattle.term_table.specs.Tree.{Tree}
use Rattle.term_table.specs.Table.{tree_at}
use Rattle.lf_lemmas.specs.Tables.{lemmas_in}
use Rattle.proof_container.specs.Decoding.{part_at}
use Rattle.proof_container.proofs.Counted.{read_there}
use Rattle.proof_container.proofs.Opening.{fault_there}
use Rattle.proof_container.proofs.LemmaIds.{below_push}
use Rattle.proof_container.proofs.Steps.{lemmas_go_on, formula_fault, lemma_fault, lemmas_done}
use Rattle.proof_container.proofs.reading.lemmas_from.Goals as goal

pub returns-in_err-formula-clause-read : goal.returns-in_err-formula-clause-read
returns-in_err-formula-clause-read c =
    let r = c.from_residual in
    let p = err_from_is_err_and r.result r.ensures.1 in
    let l = c.loop in
    let table = c.args.table.now in
    rw (p.1, p.2)
    (formula_fault c.args.count l.counter l.fields.bytes.now l.fields.read table.trees
    (lemmas_in table l.lemmas.items) _ l.invariant.read c.in_err-formula.field-0.0 c.loop-test.true
    c.in_err-formula.ensures.read)

pub returns-in_err-proof-clause-read : goal.returns-in_err-proof-clause-read
returns-in_err-proof-clause-read c =
    let r = c.from_residual-in_err-proof in
    let p = err_from_is_err_and r.result r.ensures.1 in
    let l = c.loop in
    let table = c.args.table.now in
    let past = c.in_ok-formula.ensures.moves in
    let fault =
    fault_there (λ b i. part_at b i table.trees) _ l.fields.bytes.now _ (l.fields.read + 1)
    c.in_err-proof.field-0.0 past.bytes past.read c.in_err-proof.ensures.read in
    rw (p.1, p.2)
    (lemma_fault c.args.count l.counter l.fields.bytes.now l.fields.read table.trees
    (lemmas_in table l.lemmas.items) _ l.invariant.read (tree_at table c.in_ok-formula.formula)
    c.in_err-proof.field-0.0 c.loop-test.true c.in_ok-formula.ensures.read fault)

pub loop-preserved : goal.loop-preserved
loop-preserved c =
    let l = c.loop in
    let table = c.args.table.now in
    let ids : ℕ × ℕ = (c.in_ok-formula.formula, c.in_ok-proof.proof) in
    let formula : Tree = tree_at table ids.0 in
    let proof : Tree = tree_at table ids.1 in
    let more : lemmas_in table c.push.new.self.items ≡ lemmas_in table l.lemmas.items ++ (formula, proof) ∷ [] =
    rw c.in_ok-push.ensures.items (map_push _ l.lemmas.items ids) in
    let first = c.in_ok-formula.ensures.moves in
    let past = c.in_ok-proof.ensures.moves in
    let second : part_at l.fields.bytes.now (l.fields.read + 1) table.trees ≡ Ok proof =
    read_there (λ b i. part_at b i table.trees) _ l.fields.bytes.now _ (l.fields.read + 1) proof
    first.bytes first.read c.in_ok-proof.ensures.read in
    let on =
    lemmas_go_on c.args.count l.counter l.fields.bytes.now l.fields.read table.trees
    (lemmas_in table l.lemmas.items) _ l.invariant.read formula proof c.loop-test.true
    c.in_ok-formula.ensures.read second in
    let place : c.part-in-loop.new.fields.read ≡ l.fields.read + 2 = omega (arith, past.read, first.read) in
    record {
      bytes = past.bytes ∙ (first.bytes ∙ l.invariant.bytes);
      place = omega (arith, place, l.invariant.place, c.in_ok-push.ensures.len);
      read = rw (more, place, past.bytes, first.bytes) on;
      known = rw c.in_ok-push.ensures.items
          (below_push (length table.trees) l.lemmas.items ids l.invariant.known
          c.in_ok-formula.ensures.known c.in_ok-proof.ensures.known);
      few = omega (arith, l.invariant.few, c.in_ok-push.ensures.len);
    }

pub returns-clause-read : goal.returns-clause-read
returns-clause-read c =
    let l = c.loop in
    let table = c.args.table.now in
    lemmas_done c.args.count l.counter l.fields.bytes.now l.fields.read table.trees
    (lemmas_in table l.lemmas.items) _ l.invariant.read c.loop-test.false
