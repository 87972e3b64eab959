use Rattle.std.proofs.Common.{◌≡◌, ◌∷◌, ◌-◌, ◌↔◌, length, take, drop, map, sym, ap, subst, IfOk, IsTrue, arith}
use Rattle.term_table.specs.Table.{Extends}
use Rattle.lf_signature.specs.Schemas.{premise_of}
use Rattle.lf_terms.specs.Instance.{nth_arg}
use Rattle.lf_terms.specs.Instance.{trees_of}
use Rattle.lf_sequents.specs.Sequents.{AreOfTable}
use Rattle.lf_sequents.specs.Answers.{FitPremises}
use Rattle.lf_sequents.specs.Room.{sequents_of}
use Rattle.lf_terms.proofs.Grown.{known-more, trees-same}
use Rattle.lf_sequents.proofs.Fitting.{placeds-more, fit_next}
use Rattle.lf_terms.proofs.Slices.{parted}
use Rattle.lf_sequents.proofs.premises.+do_fit.Goals as goal

pub do_fit-requires : goal.do_fit-requires
do_fit-requires t c =
    let t₀ = c.args.table.now in
    let t₁ = c.fits.new.table in
    let rows : c.args.rows.now ≡ c.row-item.result ∷ take (length c.args.rows.now - 1) (drop 1 c.args.rows.now) = parted c.args.rows.now c.row-item.result c.row-item.result c.in-len1-up.len_at_least c.row-item.is in
    let parts : c.args.premises.now ≡ c.premise-item.result ∷ take (length c.args.premises.now - 1) (drop 1 c.args.premises.now) = parted c.args.premises.now c.premise-item.result c.premise-item.result c.in-len1-up-premises.len_at_least c.premise-item.is in
    let known = subst (λ l. AreOfTable t₀ (sequents_of l)) parts c.requires.premises in
    let x : Extends t₀ t₁ = c.in_ok-fits-in-len1-up-premises.ensures.extends in
    (omega (arith, ap length rows, c.decreases), (known-more t₀ t₁ c.args.params.now c.requires.params x, (placeds-more t₀ t₁ _ known.1 x, (c.in_ok-fits-in-len1-up-premises.ensures.kept, c.in_ok-fits-in-len1-up-premises.ensures.unlimited))))

pub returns-else-not-branch-clause-answer : goal.returns-else-not-branch-clause-answer
returns-else-not-branch-clause-answer t c =
    let t₀ = c.args.table.now in
    let t₁ = c.fits.new.table in
    let hyps = c.args.hyps.now in
    let rows-rest = take (length c.args.rows.now - 1) (drop 1 c.args.rows.now) in
    let rest = take (length c.args.premises.now - 1) (drop 1 c.args.premises.now) in
    let rows : c.args.rows.now ≡ c.row-item.result ∷ rows-rest = parted c.args.rows.now c.row-item.result c.row-item.result c.in-len1-up.len_at_least c.row-item.is in
    let parts : c.args.premises.now ≡ c.premise-item.result ∷ rest = parted c.args.premises.now c.premise-item.result c.premise-item.result c.in-len1-up-premises.len_at_least c.premise-item.is in
    let known = subst (λ l. AreOfTable t₀ (sequents_of l)) parts c.requires.premises in
    let x : Extends t₀ t₁ = c.in_ok-fits-in-len1-up-premises.ensures.extends in
    let args = nth_arg (trees_of t₀ c.args.params.now) in
    let first = c.in_ok-fits-in-len1-up-premises.ensures.answer.0 c.if-not-branch.false in
    let later : IfOk c.do_fit.result (λ b. IsTrue b ↔ FitPremises t₁ hyps args (map premise_of rows-rest) (sequents_of rest)) =
    subst (λ (z : Type 0). IfOk c.do_fit.result (λ b. IsTrue b ↔ z)) (λ i. FitPremises t₁ hyps (nth_arg (trees-same t₀ t₁ c.args.params.now c.requires.params x i)) (map premise_of rows-rest) (sequents_of rest)) c.do_fit.ensures.answer in
    subst (λ (z : Type 0). IfOk c.do_fit.result (λ b. IsTrue b ↔ z)) (λ i. FitPremises t₀ hyps args (map premise_of (sym rows i)) (sequents_of (sym parts i)))
    (fit_next c.do_fit.result t₀ t₁ hyps args (premise_of c.row-item.result) (map premise_of rows-rest) c.premise-item.result.now (sequents_of rest) first known.1 x later)
