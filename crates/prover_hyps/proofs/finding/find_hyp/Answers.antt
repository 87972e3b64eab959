use Rattle.std.proofs.Common.{sym, subst, IfSome}
use Rattle.term_table.specs.Table.{IsKnown, Stands}
use Rattle.prover_class.specs.Hypotheses.{find_hyp}
use Rattle.prover_hyps.proofs.Known.{found, found-known}
use Rattle.prover_hyps.proofs.finding.find_hyp.Goals as goal

pub returns-clause-known : goal.returns-clause-known
returns-clause-known c = subst (λ z. IfSome z (IsKnown c.args.table.now)) (sym c.find.ensures) (found-known c.args.table.now c.args.hyps.now c.args.goal c.requires.hyps)

pub returns-clause-exact : goal.returns-clause-exact
returns-clause-exact c = λ Γ A h a.
    subst (λ z. Stands c.args.table.now (find_hyp Γ A) z) (sym c.find.ensures) (found c.args.table.now c.args.hyps.now Γ A c.args.goal c.laws.ensures.different c.requires.hyps c.requires.goal h a)
