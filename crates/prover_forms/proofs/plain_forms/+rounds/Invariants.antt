use Rattle.std.proofs.Common.{◌+◌, ◌*◌}
use Rattle.prover_forms.proofs.plain_forms.+rounds.Given as goal

abbrev pub decreases-after_round : goal.decreases-after_round
decreases-after_round l = 2 * l.e + 1

abbrev pub decreases-after_round_in : goal.decreases-after_round_in
decreases-after_round_in l = 2 * l.e
