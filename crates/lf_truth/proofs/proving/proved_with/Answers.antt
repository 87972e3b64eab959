use Rattle.std.proofs.Common.{[], subst}
use Rattle.term_table.specs.Table.{tree_at}
use Rattle.hereditary_subst.specs.Simples.{IsResult}
use Rattle.lf_signature.specs.Typing.{Synth}
use Rattle.lf_truth.proofs.Proved.{formula-none, formula-is}
use Rattle.lf_truth.proofs.proving.proved_with.Goals as goal

pub returns-in-None-clause-exact : goal.returns-in-None-clause-exact
returns-in-None-clause-exact g c =
    let sig = g.S.Signature.declares c.args.sig.now c.args.table.now in
    let u = c.synth_with.new.table in
    let p = tree_at c.args.table.now c.args.proof in
    formula-none sig p
    (subst (λ z. IsResult u (Synth sig [] p) z) c.in-None.is c.in_ok-synth_with.ensures.derived)

pub returns-in-Some-clause-exact : goal.returns-in-Some-clause-exact
returns-in-Some-clause-exact g c =
    let sig = g.S.Signature.declares c.args.sig.now c.args.table.now in
    let u = c.synth_with.new.table in
    let p = tree_at c.args.table.now c.args.proof in
    let has = subst (λ z. IsResult u (Synth sig [] p) z) c.in-Some.is
    c.in_ok-synth_with.ensures.derived in
    formula-is sig u p c.in-Some.proofs c.formula_of.result has.1 c.formula_of.ensures
