use Rattle.std.proofs.Common.{refl}
use Rattle.lf_check.proofs.Rows.{kept-grown}
use Rattle.lf_check.proofs.steps.subst_on.Goals as goal

pub returns-clause-kept : goal.returns-clause-kept
returns-clause-kept g c =
    let t = c.args.table.now in
    let u = c.subst_type_with.new.table in
    let sig = g.S.Signature.declares c.args.sig.now in
    kept-grown c.args.kept.now _ (sig t) (sig u) t u c.requires.kept c.subst_type_with.ensures.extends (g.met.S.Signature.same_types c.args.sig.now t u c.subst_type_with.ensures.extends c.requires.holds) c.subst_type_with.ensures.memo refl
