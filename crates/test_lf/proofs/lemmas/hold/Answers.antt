use Rattle.std.proofs.Common.{◌≡◌, None, refl, rules, sym, ◌∙◌}
use Rattle.lf_signature.specs.Constants.{declared}
use Rattle.lf_signature.specs.declared.editions.WordSignature.TheVariants.{Sigma2}
use Rattle.test_lf.proofs.lemmas.hold.Goals as goal

pub first_failing-requires-clause-kept : goal.first_failing-requires-clause-kept
first_failing-requires-clause-kept c = c.new-kept.ensures.kept (declared Sigma2) c.args.table.now

pub returns-clause-holds : goal.returns-clause-holds
returns-clause-holds c = λ yes.
    let none : c.in_ok-found.found ≡ None = search rules in
    c.laws.ensures.holds (declared Sigma2) c.args.table.now c.first_failing.new.table c.args.lemmas.now
    (λ n. refl) c.requires.known c.in_ok-found.ensures.extends
    (sym c.in_ok-found.ensures.exact ∙ none)
