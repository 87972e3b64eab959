use Rattle.x86_machine.proofs.Orders.{after_cmp, after_test, after_sub_one}
use Rattle.x86_machine.proofs.theorems.flag_laws.Goals as goal

pub returns : goal.returns
returns c = record { compares = after_cmp; tests = after_test; counts = after_sub_one }
