use Rattle.std.proofs.Common.{◌≡◌, ◌<◌, ℕ, true, length, sym, subst}
use Rattle.term_table.specs.Table.{tree_at}
use Rattle.proof_container.specs.Postorder.{is_emitted}
use Rattle.proof_container.specs.Inside.Walked.{left_trees}
use Rattle.proof_container.proofs.LemmaIds.{below_at, left_at}
use Rattle.proof_container.proofs.writing.put_pairs.Goals as goal

pub number-formula-requires-clause-known : goal.number-formula-requires-clause-known
number-formula-requires-clause-known c =
    let n = length c.args.table.now.trees in
    subst (λ (l : ℕ × ℕ). l.0 < n) (sym c.lemma-item.is)
    (below_at n c.args.lemmas.now c.loop-lemma.lemma-index c.lemma-item.result c.requires.known
    c.loop-lemma-test.true).0

pub number-formula-requires-clause-listed : goal.number-formula-requires-clause-listed
number-formula-requires-clause-listed c =
    let table = c.args.table.now in
    let es = left_trees table c.args.walk.now in
    subst (λ (l : ℕ × ℕ). is_emitted (tree_at table l.0) es ≡ true) (sym c.lemma-item.is)
    (left_at table es c.args.lemmas.now c.loop-lemma.lemma-index c.lemma-item.result c.requires.listed
    c.loop-lemma-test.true).0

pub number-proof-requires-clause-known : goal.number-proof-requires-clause-known
number-proof-requires-clause-known c =
    let n = length c.args.table.now.trees in
    subst (λ (l : ℕ × ℕ). l.1 < n) (sym c.lemma-item.is)
    (below_at n c.args.lemmas.now c.loop-lemma.lemma-index c.lemma-item.result c.requires.known
    c.loop-lemma-test.true).1

pub number-proof-requires-clause-listed : goal.number-proof-requires-clause-listed
number-proof-requires-clause-listed c =
    let table = c.args.table.now in
    let es = left_trees table c.args.walk.now in
    subst (λ (l : ℕ × ℕ). is_emitted (tree_at table l.1) es ≡ true) (sym c.lemma-item.is)
    (left_at table es c.args.lemmas.now c.loop-lemma.lemma-index c.lemma-item.result c.requires.listed
    c.loop-lemma-test.true).1
