use Rattle.std.proofs.Common.{◌∙◌, sym, refl, subst}
use Rattle.lf_signature.specs.Constants.{declared}
use Rattle.lf_signature.specs.declared.editions.WordSignature.TheVariants.{Sigma3}
use Rattle.lf_lemmas.specs.Checking.{LemmasCheck}
use Rattle.lf_lemmas.specs.Tables.{lemmas_in}
use Rattle.lf_lemmas.specs.Laws.Lawful.{lemmas_stay, lemmas_hold}
use Rattle.test_layers.proofs.rules.are_proofs.Goals as goal

pub first_unproved-requires-clause-kept : goal.first_unproved-requires-clause-kept
first_unproved-requires-clause-kept c = c.new-kept.ensures.kept (declared Sigma3) c.args.table.now

pub returns-in-Ok-None-clause-holds : goal.returns-in-Ok-None-clause-holds
returns-in-Ok-None-clause-holds c =
    let sig = declared Sigma3 in
    let ids = c.args.lemmas.now in
    let t₀ = c.args.table.now in
    let t₁ = c.first_unproved.new.table in
    let longer = c.in-Ok-None.ensures.extends in
    let same = lemmas_stay ids t₀ t₁ c.requires.holds.known longer in
    let proved : LemmasCheck sig (lemmas_in t₀ ids) =
    (c.laws.ensures.unproved sig (lemmas_in t₀ ids)).0
    (sym c.in-Ok-None.ensures.exact ∙ c.in-Ok-None.field-0-is) in record {
      lemmas = lemmas_hold sig sig ids t₀ t₁ refl longer c.requires.holds;
      proved = subst (λ z. LemmasCheck sig z) (sym same) proved;
    }
