use Rattle.prover_goals.proofs.Rounds.{enough, by_found, by_absurdity, by_round}
use Rattle.prover_goals.proofs.theorems.round_laws.Goals as goal

pub returns : goal.returns
returns c = record { enough = enough; found = by_found; absurd = by_absurdity; shape = by_round }
