use Rattle.std.proofs.Common.{sym, subst}
use Rattle.term_table.specs.Table.{IsKnown}
use Rattle.prover_ids.specs.declared.hypotheses.Hypothesis.{Hypothesis}
use Rattle.prover_bounds.proofs.Scans.{hyp_known}
use Rattle.view_marks.proofs.nearness.form_at.Goals as goal

pub returns-clause-known : goal.returns-clause-known
returns-clause-known c =
    let t = c.args.table.now in
    let x = c.index-hyps-i.result in
    subst (λ (z : Hypothesis). IsKnown t z.form) (sym c.index-hyps-i.is)
    (hyp_known t c.args.hyps.now c.args.i x c.requires.hyps c.requires.within).0
