use Rattle.std.proofs.Common.{Option, Some, None, sym, ◌∙◌, ap, subst}
use Rattle.prover_goals.proofs.Kept.{search-more}
use Rattle.view_marks.specs.Halves.{conclusion_alone, half_by, half_with}
use Rattle.view_marks.specs.Inside.Halves.{IsFormOption}
use Rattle.view_marks.proofs.Granting.{form_some}
use Rattle.view_marks.proofs.halves.half_of.Goals as goal

pub is_granted-requires-clause-search : goal.is_granted-requires-clause-search
is_granted-requires-clause-search c =
    search-more c.args.search.now c.args.table.now c.conclusion_alone.new.table c.requires.search
    c.in_ok-conclusion_alone.ensures.extends

pub returns-in-None-clause-search : goal.returns-in-None-clause-search
returns-in-None-clause-search c =
    search-more c.args.search.now c.args.table.now c.conclusion_alone.new.table c.requires.search
    c.in_ok-conclusion_alone.ensures.extends

pub returns-in-None-clause-exact : goal.returns-in-None-clause-exact
returns-in-None-clause-exact c = λ A F qa qf.
    let u = c.conclusion_alone.new.table in
    let none : IsFormOption u (conclusion_alone F) None =
    subst (λ (r : Option _). IsFormOption u (conclusion_alone F) r) c.in-None.is
    (c.in_ok-conclusion_alone.ensures.exact F qf) in
    sym (ap (half_with c.args.counted A) none)

pub returns-in_ok-granted-in-Some-clause-exact : goal.returns-in_ok-granted-in-Some-clause-exact
returns-in_ok-granted-in-Some-clause-exact c = λ A F qa qf.
    let u = c.conclusion_alone.new.table in
    let e = c.in_ok-conclusion_alone.ensures.extends in
    let there : IsFormOption u (conclusion_alone F) (Some c.in-Some.alone) =
    subst (λ (r : Option _). IsFormOption u (conclusion_alone F) r) c.in-Some.is
    (c.in_ok-conclusion_alone.ensures.exact F qf) in
    let y = form_some u (conclusion_alone F) c.in-Some.alone there in
    let granted = c.in_ok-granted-in-Some.ensures.exact A y.0 (e.same c.args.goal c.requires.goal ∙ qa) y.2.is in
    ap Some (c.half_by.ensures ∙ ap half_by granted) ∙ sym (ap (half_with c.args.counted A) y.1)
