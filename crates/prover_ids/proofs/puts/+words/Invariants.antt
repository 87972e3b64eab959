use Rattle.std.proofs.Common.{◌+◌, ◌*◌}
use Rattle.prover_ids.proofs.puts.+words.Given as goal

abbrev pub decreases-put_exp : goal.decreases-put_exp
decreases-put_exp l = 2 * l.id + 1

abbrev pub decreases-put_exp_parts : goal.decreases-put_exp_parts
decreases-put_exp_parts l = 2 * l.id

abbrev pub decreases-put_mem : goal.decreases-put_mem
decreases-put_mem l = 2 * l.id + 1

abbrev pub decreases-put_mem_parts : goal.decreases-put_mem_parts
decreases-put_mem_parts l = 2 * l.id
