use Rattle.std.proofs.Common.{◌≡◌, suc, drop, get_or, [], ◌∷◌, sym, ◌∙◌, ap, subst}
use Rattle.prover_class.specs.Bounds.{WordBound}
use Rattle.prover_bounds.specs.Candidates.{by_relation}
use Rattle.prover_bounds.specs.Choices.{best, better, all_say, by_first, IsChoice, IsRelated}
use Rattle.prover_bounds.proofs.Scans.{IsHypAt, hyp_at, hyp_known, says_none, says_one, first_is}
use Rattle.prover_bounds.proofs.choices.with_hyp.Goals as goal

pub relation_of-requires-clause-form : goal.relation_of-requires-clause-form
relation_of-requires-clause-form c =
    let t = c.args.table.now in
    (hyp_known t c.args.hyps.now c.args.at c.index-hyps-at.result c.requires.hyps c.requires.at).0

pub returns-in-None : goal.returns-in-None
returns-in-None c = λ Γ x w g q k.
    let t = c.args.table.now in
    let s = c.args.side in
    let j = c.args.at in
    let d = c.index-hyps-at.result in
    let h = get_or c.args.hyps.now j d in
    let i : IsHypAt t Γ j h = hyp_at t c.args.hyps.now Γ j d g c.requires.at in
    let none = subst (IsRelated s x i.now.0) c.in-None.is (c.relation_of.ensures x i.now.0 q i.form) in
    subst (λ (v : WordBound). IsChoice s Γ x v c.args.later) (sym (says_none t s Γ j h x w i (none i.now.1))) k

pub returns-in-Some : goal.returns-in-Some
returns-in-Some c = λ Γ x w g q k.
    let t = c.args.table.now in
    let s = c.args.side in
    let j = c.args.at in
    let r = c.in-Some.r in
    let d = c.index-hyps-at.result in
    let h = get_or c.args.hyps.now j d in
    let i : IsHypAt t Γ j h = hyp_at t c.args.hyps.now Γ j d g c.requires.at in
    let told = subst (IsRelated s x i.now.0) c.in-Some.is (c.relation_of.ensures x i.now.0 q i.form) in
    let b = by_relation s r.kind x r.value i.now.1 in
    let rest = best s (all_say s x (drop (suc j) Γ)) w in
    let first : by_first s x (drop j Γ) ≡ b = first_is t s Γ j h x (b ∷ []) i (told i.now.1) in
    let value = c.bound_word.ensures x i.now.1 ∙ ap (λ (v : WordBound). v.value) (sym first) in
    subst (λ (v : WordBound). IsChoice s Γ x v c.or_last.result) (ap (λ v. better s v rest) first ∙ sym (says_one t s Γ j h x w b i (told i.now.1))) (c.or_last.ensures Γ x rest value k)
