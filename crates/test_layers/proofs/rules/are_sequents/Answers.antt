use Rattle.std.proofs.Common.{refl, sym, subst}
use Rattle.lf_signature.specs.Constants.{declared}
use Rattle.lf_signature.specs.declared.editions.WordSignature.TheVariants.{Sigma3}
use Rattle.lf_lemmas.specs.Lemmas.{formulas_of, with_lemmas}
use Rattle.lf_lemmas.specs.Tables.{lemmas_in}
use Rattle.lf_lemmas.specs.Laws.Lawful.{lemmas_same}
use Rattle.lf_sequents.specs.Sequents.{IsSequent}
use Rattle.lf_sequents.proofs.Fitting.{sequent-more}
use Rattle.test_layers.proofs.rules.are_sequents.Goals as goal

pub returns-clause-sequents : goal.returns-clause-sequents
returns-clause-sequents c =
    let sig = declared Sigma3 in
    let ids = c.args.lemmas.now in
    let t₁ = c.is_sequent.new.table in
    let t₂ = c.is_sequent-2.new.table in
    let x = c.in_ok-is_sequent-2.ensures.extends in
    let same = lemmas_same sig sig ids t₁ t₂ refl c.in_ok-is_sequent.ensures.holds.lemmas x in
    let p =
    sequent-more (with_lemmas sig (formulas_of (lemmas_in t₁ ids))) t₁ t₂ c.args.p.now
    c.in_ok-is_sequent.ensures.sequent x in
    (subst (λ z. IsSequent z t₂ c.args.p.now) (sym same) p, (c.in_ok-is_sequent-2.ensures.sequent, tt))
