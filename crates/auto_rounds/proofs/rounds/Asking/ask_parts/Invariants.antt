use Rattle.prover_goals.specs.Search.{IsSearch}
use Rattle.auto_rounds.proofs.rounds.Asking.ask_parts.Given as goal

abbrev pub invariant-loop-i : goal.invariant-loop-i
invariant-loop-i l = record { search : IsSearch l.self.table l.self.search }
