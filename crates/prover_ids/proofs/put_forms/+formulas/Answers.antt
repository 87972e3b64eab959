use Rattle.std.proofs.Common.{ℕ, Ok}
use Rattle.prover_ids.proofs.PutRows.{under_put, right_put}
use Rattle.prover_ids.proofs.put_forms.+formulas.Goals as goal

pub put_under-returns-clause-put : goal.put_under-returns-clause-put
put_under-returns-clause-put t c =
    under_put c.args.table.now c.raised.new.table c.put_form.new.table c.intern.new.self c.app1.new.table c.args.quantifier c.args.body c.args.x c.args.arg c.in_ok-under.under c.in_ok-put.put c.in_ok-function.function {E = ℕ} (Ok c.in_ok-app1.field-0)
    c.requires.body c.requires.arg c.in_ok-under.ensures.extends c.in_ok-under.ensures.id c.in_ok-put.ensures.put c.in_ok-function.ensures.id.1 c.in_ok-app1.ensures.id

pub put_form_parts-returns-in_ok-right-in-Right-clause-put :
    goal.put_form_parts-returns-in_ok-right-in-Right-clause-put
put_form_parts-returns-in_ok-right-in-Right-clause-put t c =
    let right = c.in_ok-right-in-Right in
    right_put c.args.table.now c.put_exp-in-Right.new.table c.right.new.table c.in-Right.access c.args.id c.in-Right.a c.args.x c.args.arg c.in_ok-address-in-Right.address right.field-0
    c.in-Right.ensures.is c.in_ok-address-in-Right.ensures.put right.ensures.known right.ensures.exact
