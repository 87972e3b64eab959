use Rattle.std.proofs.Common.{◌≡◌, ℕ, false, Option, Some, None, refl, sym, ◌∙◌}
use Rattle.std.specs.Option.{is_some}
use Rattle.lf_signature.specs.Constants.{declared}
use Rattle.lf_signature.specs.declared.editions.WordSignature.TheVariants.{Sigma2}
use Rattle.lf_lemmas.proofs.WordLemmas.{words_admit}
use Rattle.test_lf.proofs.lemmas.unproved.Goals as goal

none_there : (o : Option ℕ) → is_some o ≡ false → o ≡ None
none_there None e = refl
none_there (Some n) e = cc

pub first_failing-requires-clause-kept : goal.first_failing-requires-clause-kept
first_failing-requires-clause-kept c = c.new-kept.ensures.kept (declared Sigma2) c.args.table.now

pub first_unproved-requires-clause-lemmas : goal.first_unproved-requires-clause-lemmas
first_unproved-requires-clause-lemmas c =
    let none =
    none_there c.in_ok-first_failing.field-0 (sym c.is_some.ensures ∙ c.if-is_some.false) in
    c.laws.ensures.holds (declared Sigma2) c.args.table.now c.first_failing.new.table
    c.args.lemmas.now (words_admit Sigma2).free c.requires.known c.first_failing.ensures.extends
    (sym c.in_ok-first_failing.ensures.exact ∙ none)
