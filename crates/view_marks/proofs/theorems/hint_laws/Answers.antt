use Rattle.view_marks.proofs.Wholes.{both-hard}
use Rattle.view_marks.proofs.Leading.{missing-hard, bounds-hard, at_most-hard}
use Rattle.view_marks.proofs.Conjuncts.{each-hard, begins}
use Rattle.view_marks.proofs.Opening.{conclusion-grants-none, premise-left}
use Rattle.view_marks.proofs.theorems.hint_laws.Goals as goal

pub returns-clause-missing : goal.returns-clause-missing
returns-clause-missing c = let r = c.round_laws.ensures in missing-hard r.found r.absurd r.shape

pub returns-clause-each : goal.returns-clause-each
returns-clause-each c = each-hard

pub returns-clause-first : goal.returns-clause-first
returns-clause-first c = λ counted Γ.
    let r = c.round_laws.ensures in
    begins counted Γ (both-hard r.found r.absurd r.shape counted 33 Γ)

pub returns-clause-bounds : goal.returns-clause-bounds
returns-clause-bounds c = let r = c.round_laws.ensures in bounds-hard r.found r.absurd r.shape

pub returns-clause-at_most : goal.returns-clause-at_most
returns-clause-at_most c = let r = c.round_laws.ensures in at_most-hard r.found r.absurd r.shape

pub returns-clause-conclusion : goal.returns-clause-conclusion
returns-clause-conclusion c = conclusion-grants-none

pub returns-clause-premise : goal.returns-clause-premise
returns-clause-premise c = let r = c.round_laws.ensures in premise-left r.found r.absurd r.shape
