-- What is kept of where variable 0 stands.
use Rattle.std.specs.Prelude.{Bool}
use Rattle.term_table.specs.Table.{TableView, IsKnown}
use Rattle.prover_ids.specs.Kept.{AreRight}
use Rattle.prover_ids.specs.declared.kept.Kept.{Kept}
use Rattle.prover_sums.specs.Sums.{OccursInExp, OccursInMem}
use Rattle.prover_sums.specs.declared.occurrences.Occurring.{Occurring}
use Rattle.prover_sums.specs.declared.occurrences.Occurring.TheVariants as Q
use Rattle.prover_sums.specs.contracts.occurrences.OccurringOrd.TheImpl as block

-- the answer is right of the question
abbrev pub IsOccurrence : TableView → Occurring → Bool → Type 0
IsOccurrence t (Q.Exp id) b = IsKnown t id × OccursInExp t id b
IsOccurrence t (Q.Mem id) b = IsKnown t id × OccursInMem t id b

-- each kept answer is right
abbrev pub AreOccurrences : TableView → Kept Occurring Bool → Type 0
AreOccurrences t kept = AreRight block.ghosts.cmp IsOccurrence t kept
