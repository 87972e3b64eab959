use Rattle.lf_check.proofs.Rows.{kept-more}
use Rattle.lf_check.proofs.steps.declared_on.Goals as goal

pub returns-clause-kept : goal.returns-clause-kept
returns-clause-kept g c =
    let t = c.args.table.now in
    let u = c.type_of.new.table in
    let sig = g.S.Signature.declares c.args.sig.now in
    kept-more c.args.kept.now (sig t) (sig u) t u c.requires.kept c.type_of.ensures.extends (g.met.S.Signature.same_types c.args.sig.now t u c.type_of.ensures.extends c.requires.holds)
