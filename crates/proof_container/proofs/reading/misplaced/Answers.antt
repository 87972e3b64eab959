use Rattle.std.proofs.Common.{◌≡◌, false, sym, ◌∙◌, arith}
use Rattle.std.proofs.lemmas.Bool.{false≢true}
use Rattle.proof_container.proofs.Ordering.{none_misplaced, agree_more, stops_at}
use Rattle.proof_container.proofs.reading.misplaced.Goals as goal

pub returns-then-not-is_placed-clause-place : goal.returns-then-not-is_placed-clause-place
returns-then-not-is_placed-clause-place c =
    let no : c.is_placed.result ≡ false = c.if-not-is_placed.true in
    sym (stops_at c.args.table.now c.args.left.now c.loop-e.e c.requires c.laws.ensures.different c.loop-e.invariant (omega arith) (λ p. false≢true (sym no ∙ c.is_placed.ensures.1 p)))

pub loop-e-preserved : goal.loop-e-preserved
loop-e-preserved c = agree_more c.args.table.now c.args.left.now c.loop-e.e c.loop-e.invariant (c.is_placed.ensures.0 c.if-not-is_placed.false)

pub returns-clause-place : goal.returns-clause-place
returns-clause-place c = sym (none_misplaced c.args.table.now.trees _ (λ i lt. c.loop-e.invariant i (omega arith)))
