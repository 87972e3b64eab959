use Rattle.term_table.specs.Table.{tree_at}
use Rattle.lf_truth.proofs.Proved.{formulas-ok}
use Rattle.lf_truth.proofs.proving.proved_formula_with.Goals as goal

pub returns-clause-valid : goal.returns-clause-valid
returns-clause-valid g c =
    let t = c.args.table.now in
    let sig = g.S.Signature.declares c.args.sig.now t in
    let sound = c.truth_laws.ensures.sound sig
    (g.met.S.Signature.well_formed c.args.sig.now t c.requires.holds)
    (g.met.S.Truthful.given c.args.sig.now t c.requires.holds) in
    formulas-ok sig sound c.proved_with.new.table (tree_at t c.args.proof) c.proved_with.result
    c.proved_with.ensures.exact
