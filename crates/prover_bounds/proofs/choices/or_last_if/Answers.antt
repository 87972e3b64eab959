use Rattle.std.proofs.Common.{Bool, [], ◌∷◌, cond, sym, subst}
use Rattle.prover_class.specs.Bounds.{WordBound}
use Rattle.prover_bounds.specs.Choices.{best, chosen, IsChoice}
use Rattle.prover_bounds.proofs.Scans.{best_one, best_none}
use Rattle.prover_bounds.proofs.choices.or_last_if.Goals as goal

pub returns-then-fits : goal.returns-then-fits
returns-then-fits c = λ Γ x w q k.
    let s = c.args.side in
    let b = chosen s Γ x c.args.by in
    let r = c.or_last.result in
    subst (λ (z : Bool). IsChoice s Γ x (best s (cond z (b ∷ []) []) w) r) (sym c.if-fits.true)
    (subst (λ (v : WordBound). IsChoice s Γ x v r) (sym (best_one s b w))
    (c.or_last.ensures Γ x w q k))

pub returns-else-fits : goal.returns-else-fits
returns-else-fits c = λ Γ x w q k.
    let s = c.args.side in
    let b = chosen s Γ x c.args.by in
    let r = c.args.last in
    subst (λ (z : Bool). IsChoice s Γ x (best s (cond z (b ∷ []) []) w) r) (sym c.if-fits.false)
    (subst (λ (v : WordBound). IsChoice s Γ x v r) (sym (best_none s w)) k)
