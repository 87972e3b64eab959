use Rattle.std.proofs.Common.{sym, ◌∙◌, arith}
use Rattle.proof_container.proofs.Walking.{found_number}
use Rattle.proof_container.proofs.writing.number.Goals as goal

pub overflow_cast-result : goal.overflow_cast-result
overflow_cast-result c =
    let found = found_number c.args.table.now c.args.walk.now c.args.id c.in-Some.number c.requires.left c.requires.known c.requires.listed (sym c.number.ensures ∙ c.in-Some.is) in
    omega (arith, found.1, c.requires.few)

pub returns-clause-value : goal.returns-clause-value
returns-clause-value c = (found_number c.args.table.now c.args.walk.now c.args.id c.in-Some.number c.requires.left c.requires.known c.requires.listed (sym c.number.ensures ∙ c.in-Some.is)).0

pub returns-clause-small : goal.returns-clause-small
returns-clause-small c =
    let found = found_number c.args.table.now c.args.walk.now c.args.id c.in-Some.number c.requires.left c.requires.known c.requires.listed (sym c.number.ensures ∙ c.in-Some.is) in
    omega (arith, found.1, c.requires.few)
