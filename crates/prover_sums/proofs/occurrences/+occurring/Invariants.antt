use Rattle.std.proofs.Common.{◌+◌, ◌*◌}
use Rattle.prover_sums.proofs.occurrences.+occurring.Given as goal

abbrev pub decreases-occurs : goal.decreases-occurs
decreases-occurs l = 2 * l.e + 1

abbrev pub decreases-occurs_in_parts : goal.decreases-occurs_in_parts
decreases-occurs_in_parts l = 2 * l.e

abbrev pub decreases-occurs_in_mem : goal.decreases-occurs_in_mem
decreases-occurs_in_mem l = 2 * l.m + 1

abbrev pub decreases-occurs_in_mem_parts : goal.decreases-occurs_in_mem_parts
decreases-occurs_in_mem_parts l = 2 * l.m
