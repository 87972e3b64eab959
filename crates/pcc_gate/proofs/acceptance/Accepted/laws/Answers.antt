use Rattle.std.proofs.Common.{subst}
use Rattle.term_table.specs.Table.{id_trees}
use Rattle.vcgen.specs.Encoded.{AreForms}
use Rattle.lf_signature.specs.Constants.{Longest}
use Rattle.vcgen.proofs.Encodings.{encoded-annotates}
use Rattle.pcc_gate.specs.Safe.{ReturnsInBound}
use Rattle.pcc_gate.specs.Views.{AcceptedView, IsConditionTrue, AreAnnotations}
use Rattle.pcc_gate.proofs.acceptance.Accepted.laws.Goals as goal

pub returns-clause-forms : goal.returns-clause-forms
returns-clause-forms c =
    subst (λ (v : AcceptedView). AreForms Longest v.bound (id_trees v.table v.invs)) c.self.view_is
    c.self.invariant.forms

pub returns-clause-returns : goal.returns-clause-returns
returns-clause-returns c =
    subst (λ (v : AcceptedView). ReturnsInBound v.policy v.bound v.code) c.self.view_is
    c.self.invariant.returns

pub returns-clause-annotates : goal.returns-clause-annotates
returns-clause-annotates c =
    let a = c.self.inside in
    let i = c.self.invariant in
    subst (λ (v : AcceptedView). AreAnnotations v) c.self.view_is
    (λ fs enc. encoded-annotates a.policy a.bound a.cut.code (id_trees a.table a.invs.items) fs
    a.cut.marks i.policy_is i.fits enc i.code i.flags i.cuts)

pub returns-clause-valid : goal.returns-clause-valid
returns-clause-valid c = subst (λ (v : AcceptedView). IsConditionTrue v) c.self.view_is c.self.invariant.valid
