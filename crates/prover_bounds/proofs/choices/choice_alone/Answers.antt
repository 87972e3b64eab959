use Rattle.std.proofs.Common.{◌≡◌, ◌++◌, sym, ◌∙◌, ap, subst, refl}
use Rattle.formula_tree.specs.Formulas.{Exp, ELit}
use Rattle.lf_terms.specs.Encoding.{exp_encoding}
use Rattle.prover_class.specs.Bounds.{WordBound, own_bounds}
use Rattle.prover_bounds.specs.Candidates.{limit, by_word}
use Rattle.prover_bounds.specs.Choices.{best, better, all_say, IsChoice}
use Rattle.prover_bounds.proofs.Scans.{best-append, best_one}
use Rattle.prover_bounds.proofs.choices.choice_alone.Goals as goal

pub returns-in-Some : goal.returns-in-Some
returns-in-Some c = λ Γ x g q.
    let s = c.args.side in
    let n = c.in-Some.word in
    let is : x ≡ ELit n = c.in-Some.ensures x q in
    let rest = best s (all_say s (ELit n) Γ) (limit s (ELit n)) in
    let last = c.by_hyps-best.ensures Γ (ELit n) (limit s (ELit n)) g (q ∙ ap exp_encoding is) (c.limited.ensures Γ (ELit n)) in
    let whole : best s (own_bounds (ELit n) ++ all_say s (ELit n) Γ) (limit s (ELit n)) ≡ better s (by_word n) rest = best-append s (own_bounds (ELit n)) (all_say s (ELit n) Γ) (limit s (ELit n)) ∙ best_one s (by_word n) rest in
    subst (λ (z : Exp). IsChoice s Γ z (best s (own_bounds z ++ all_say s z Γ) (limit s z)) c.or_last.result) (sym is)
    (subst (λ (v : WordBound). IsChoice s Γ (ELit n) v c.or_last.result) (sym whole) (c.or_last.ensures Γ (ELit n) rest refl last))
