use Rattle.std.proofs.Common.{◌≡◌, ◌-◌, ◌+◌, ℕ, suc, length, drop, [], sym, ◌∙◌, ap, subst, arith}
use Rattle.prover_class.specs.Bounds.{WordBound}
use Rattle.prover_bounds.specs.Choices.{best, all_say, IsChoice}
use Rattle.prover_bounds.proofs.Scans.{dropped, none_say}
use Rattle.prover_bounds.proofs.choices.by_hyps.Goals as goal

pub loop-i-init : goal.loop-i-init
loop-i-init c = λ Γ x w g q k.
    let a = c.args in
    let s = a.side in
    let none : drop (length a.hyps.now - 0) Γ ≡ [] = dropped a.table.now a.hyps.now Γ (length a.hyps.now - 0) g (omega arith) in
    subst (λ (v : WordBound). IsChoice s Γ x v a.last) (sym (ap (λ l. best s (all_say s x l) w) none ∙ none_say s x w)) k

pub loop-i-preserved : goal.loop-i-preserved
loop-i-preserved c = λ Γ x w g q k.
    let a = c.args in
    let s = a.side in
    let i = c.loop-i.i in
    let n = length a.hyps.now in
    let before : n - i ≡ suc (n - 1 - i) = omega arith in
    let after : n - 1 - i ≡ n - (i + 1) = omega arith in
    let one = subst (λ (z : ℕ). IsChoice s Γ x (best s (all_say s x (drop z Γ)) w) c.loop-i.best) before (c.loop-i.invariant Γ x w g q k) in
    subst (λ (z : ℕ). IsChoice s Γ x (best s (all_say s x (drop z Γ)) w) c.with_hyp-best.result) after (c.with_hyp-best.ensures Γ x w g q one)

pub returns : goal.returns
returns c = λ Γ x w g q k.
    let s = c.args.side in
    let none : length c.args.hyps.now - c.loop-i.i ≡ 0 = omega arith in
    subst (λ (z : ℕ). IsChoice s Γ x (best s (all_say s x (drop z Γ)) w) c.loop-i.best) none (c.loop-i.invariant Γ x w g q k)
