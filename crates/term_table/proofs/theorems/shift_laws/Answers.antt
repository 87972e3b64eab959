use Rattle.term_table.proofs.Shifts.{shift-shift, shift-over, scoped-over}
use Rattle.term_table.proofs.theorems.shift_laws.Goals as goal

pub returns : goal.returns
returns c = record { adds = shift-shift; over = shift-over; scoped = scoped-over }
