use Rattle.std.proofs.Common.{◌+◌, ◌*◌}
use Rattle.prover_hyps.proofs.splitting.+splitting.Given as goal

abbrev pub decreases-add_parts : goal.decreases-add_parts
decreases-add_parts l = 2 * l.form + 1

abbrev pub decreases-add_both : goal.decreases-add_both
decreases-add_both l = 2 * l.form
