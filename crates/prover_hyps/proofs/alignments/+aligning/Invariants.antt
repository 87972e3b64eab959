use Rattle.std.proofs.Common.{◌+◌, ◌*◌}
use Rattle.prover_hyps.proofs.alignments.+aligning.Given as goal

abbrev pub decreases-alignment_proof : goal.decreases-alignment_proof
decreases-alignment_proof l = 3 * l.e + 1

abbrev pub decreases-unkept_alignment : goal.decreases-unkept_alignment
decreases-unkept_alignment l = 3 * l.e

abbrev pub decreases-part_alignment : goal.decreases-part_alignment
decreases-part_alignment l = 3 * l.e + 2
