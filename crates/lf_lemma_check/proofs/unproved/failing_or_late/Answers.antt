use Rattle.std.proofs.Common.{◌≡◌, Some, None, length, sym, ◌∙◌, subst, IfOk}
use Rattle.lf_lemmas.specs.Tables.{lemmas_in}
use Rattle.lf_lemma_check.proofs.Backwards.{none_cites, late_short, late_answer, known_before}
use Rattle.lf_lemma_check.proofs.unproved.failing_or_late.Goals as goal

pub slice_bounds-before-end : goal.slice_bounds-before-end
slice_bounds-before-end g c =
    late_short c.args.table.now c.args.lemmas.now c.in-Some.number
    (sym c.in-Some.is ∙ c.requires.late)

pub first_failing-requires-in-Some-clause-known : goal.first_failing-requires-in-Some-clause-known
first_failing-requires-in-Some-clause-known g c =
    known_before (length c.args.table.now.trees) c.in-Some.number c.args.lemmas.now c.requires.known

pub returns-in-None-clause-exact : goal.returns-in-None-clause-exact
returns-in-None-clause-exact g c =
    let sig = g.S.Signature.declares c.args.sig.now c.args.table.now in
    subst (λ z. IfOk c.first_failing.result (λ found. found ≡ z))
    (none_cites sig (lemmas_in c.args.table.now c.args.lemmas.now)
    (sym c.in-None.is ∙ c.requires.late))
    c.first_failing.ensures.exact

pub returns-in-None-2-clause-exact : goal.returns-in-None-2-clause-exact
returns-in-None-2-clause-exact g c =
    let sig = g.S.Signature.declares c.args.sig.now c.args.table.now in
    late_answer sig c.args.table.now c.args.lemmas.now c.in-Some.number
    (sym c.in-Some.is ∙ c.requires.late) None
    (sym c.in-None-2.is ∙ c.in_ok-first_failing-in-Some.ensures.exact)

pub returns-in-Some-2-clause-exact : goal.returns-in-Some-2-clause-exact
returns-in-Some-2-clause-exact g c =
    let sig = g.S.Signature.declares c.args.sig.now c.args.table.now in
    late_answer sig c.args.table.now c.args.lemmas.now c.in-Some.number
    (sym c.in-Some.is ∙ c.requires.late) (Some c.in-Some-2.earlier)
    (sym c.in-Some-2.is ∙ c.in_ok-first_failing-in-Some.ensures.exact)
