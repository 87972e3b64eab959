use Rattle.std.proofs.Common.{◌+◌, ◌*◌}
use Rattle.hereditary_subst.proofs.substitute.+typed.Given as goal

abbrev pub decreases-subst_type_at : goal.decreases-subst_type_at
decreases-subst_type_at l = 3 * l.id + 2

abbrev pub decreases-subst_type_parts : goal.decreases-subst_type_parts
decreases-subst_type_parts l = 3 * l.id + 1

abbrev pub decreases-subst_product : goal.decreases-subst_product
decreases-subst_product l = 3 * l.id
