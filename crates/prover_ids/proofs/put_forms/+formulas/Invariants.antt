use Rattle.std.proofs.Common.{◌+◌, ◌*◌, max}
use Rattle.prover_ids.proofs.put_forms.+formulas.Given as goal

abbrev pub decreases-put_form : goal.decreases-put_form
decreases-put_form l = 3 * l.id + 2

abbrev pub decreases-put_form_parts : goal.decreases-put_form_parts
decreases-put_form_parts l = 3 * l.id + 1

abbrev pub decreases-put_joined : goal.decreases-put_joined
decreases-put_joined l = 3 * max l.a l.b + 3

abbrev pub decreases-put_under : goal.decreases-put_under
decreases-put_under l = 3 * l.body + 3
