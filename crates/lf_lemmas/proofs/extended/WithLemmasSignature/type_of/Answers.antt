use Rattle.std.proofs.Common.{sym, ◌∙◌}
use Rattle.lf_lemmas.proofs.LemmaRows.{lemma_known, lemma_none, lemma_some}
use Rattle.lf_lemmas.proofs.extended.WithLemmasSignature.type_of.Goals as goal

pub pf-requires : goal.pf-requires
pf-requires g c =
    lemma_known c.args.table.now c.args.self.now.lemmas.now c.in-Lemma.number c.in-Some.formula
    (sym c.in-Some.is ∙ c.lemma_formula.ensures) c.requires.1.known

pub returns-in-None-clause-tree : goal.returns-in-None-clause-tree
returns-in-None-clause-tree g c =
    let sig = g.S.Signature.declares c.args.self.now.sig.now c.args.table.now in
    lemma_none sig c.args.table.now c.args.self.now.lemmas.now c.in-Lemma.number c.args.constant
    c.in-Lemma.is (sym c.in-None.is ∙ c.lemma_formula.ensures)

pub returns-in_ok-pf-in-Some-clause-tree : goal.returns-in_ok-pf-in-Some-clause-tree
returns-in_ok-pf-in-Some-clause-tree g c =
    let sig = g.S.Signature.declares c.args.self.now.sig.now c.args.table.now in
    lemma_some sig c.args.table.now c.args.self.now.lemmas.now c.in-Lemma.number c.args.constant
    c.in-Lemma.is c.pf.new.table c.in-Some.formula c.in_ok-pf-in-Some.field-0
    (sym c.in-Some.is ∙ c.lemma_formula.ensures) c.in_ok-pf-in-Some.ensures.id
