use Rattle.std.proofs.Common.{◌∙◌, ap}
use Rattle.formula_tree.specs.Formulas.{EVar}
use Rattle.lf_terms.specs.Encoding.{form_encoding}
use Rattle.prover_conditions.proofs.AccessRows.{right_is}
use Rattle.prover_conditions.proofs.access_moves.place_form.Goals as goal

pub returns-clause-id : goal.returns-clause-id
returns-clause-id c =
    let made = c.in_ok-form.ensures.exact (EVar 0) c.in_ok-place.ensures.id.1 in
    record { known = made.known; is = made.is ∙ ap form_encoding (right_is c.args.access (EVar 0)) }
