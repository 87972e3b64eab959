use Rattle.std.proofs.Common.{◌≡◌, IfOk, ℕ, ◌<◌, length, get_or, List, drop, [], ◌∷◌, sym, ◌∙◌, ap, subst, arith, refl}
use Rattle.term_table.specs.Table.{TableView, IsKnown, tree_at}
use Rattle.prover_ids.specs.declared.hypotheses.Hypothesis.{Hypothesis}
use Rattle.prover_ids.specs.Hypotheses.{AreKnownHyps}
use Rattle.prover_class.specs.Bounds.{WordBound}
use Rattle.prover_bounds.specs.BoundIds.{IsWordBound}
use Rattle.prover_bounds.specs.Candidates.{by_relation}
use Rattle.prover_bounds.specs.Choices.{by_first, IsRelated}
use Rattle.prover_bounds.proofs.Scans.{IsHypAt, hyp_at, hyp_known, dropped, first_is}
use Rattle.hereditary_subst.proofs.Limits.{never-spent}
use Rattle.prover_bounds.proofs.relations.by_hypothesis.Goals as goal

pub returns-then-hyps-at-clause-is : goal.returns-then-hyps-at-clause-is
returns-then-hyps-at-clause-is c = λ Γ x g q.
    let a = c.args in
    let none : drop a.at Γ ≡ [] = dropped a.table.now a.hyps.now Γ a.at g c.if-hyps-at.true in
    subst (λ (w : WordBound). IfOk c.limit.result (IsWordBound c.limit.new.table w)) (sym (ap (by_first a.side x) none)) (c.limit.ensures.is x q)

known : (t : TableView) (l : List Hypothesis) (j : ℕ) (h : Hypothesis) → AreKnownHyps t l → j < length l → h ≡ get_or l j h → IsKnown t h.form × IsKnown t h.proof
known t l j h k low e = subst (λ (z : Hypothesis). IsKnown t z.form × IsKnown t z.proof) (sym e) (hyp_known t l j h k low)

pub relation_of-requires-clause-form : goal.relation_of-requires-clause-form
relation_of-requires-clause-form c = (known c.args.table.now c.args.hyps.now c.args.at c.index-hyps-at.result c.requires.hyps (omega arith) c.index-hyps-at.is).0

pub by_relation-requires-clause-proof : goal.by_relation-requires-clause-proof
by_relation-requires-clause-proof c =
    let old = (known c.args.table.now c.args.hyps.now c.args.at c.index-hyps-at.result c.requires.hyps (omega arith) c.index-hyps-at.is).1 in
    omega (arith, old, c.in_ok-word-in-Some.ensures.extends.longer)

pub returns-in-None-clause-is : goal.returns-in-None-clause-is
returns-in-None-clause-is c = λ Γ x g q.
    let t = c.args.table.now in
    let s = c.args.side in
    let h = c.index-hyps-at.result in
    let i : IsHypAt t Γ c.args.at h = subst (λ (z : Hypothesis). IsHypAt t Γ c.args.at z) (sym c.index-hyps-at.is) (hyp_at t c.args.hyps.now Γ c.args.at h g (omega arith)) in
    let told = subst (IsRelated s x i.now.0) c.in-None.is (c.relation_of.ensures x i.now.0 q i.form) in
    let first = first_is t s Γ c.args.at h x [] i (told i.now.1) in
    subst (λ (w : WordBound). IfOk c.limit-in-None.result (IsWordBound c.limit-in-None.new.table w)) (sym first) (c.limit-in-None.ensures.is x q)

pub returns-in_ok-word-in-Some-clause-is : goal.returns-in_ok-word-in-Some-clause-is
returns-in_ok-word-in-Some-clause-is c = λ Γ x g q.
    let t = c.args.table.now in
    let s = c.args.side in
    let h = c.index-hyps-at.result in
    let r = c.in-Some.r in
    let e = c.in_ok-word-in-Some.ensures.extends in
    let i : IsHypAt t Γ c.args.at h = subst (λ (z : Hypothesis). IsHypAt t Γ c.args.at z) (sym c.index-hyps-at.is) (hyp_at t c.args.hyps.now Γ c.args.at h g (omega arith)) in
    let told = subst (IsRelated s x i.now.0) c.in-Some.is (c.relation_of.ensures x i.now.0 q i.form) in
    let first = first_is t s Γ c.args.at h x (by_relation s r.kind x r.value i.now.1 ∷ []) i (told i.now.1) in
    let old = (known t c.args.hyps.now c.args.at h c.requires.hyps (omega arith) c.index-hyps-at.is).1 in
    let proof : tree_at c.word.new.table h.proof ≡ i.now.1 = e.same h.proof old ∙ i.proof in
    subst (λ (w : WordBound). IfOk c.by_relation.result (IsWordBound c.by_relation.new.table w)) (ap (by_relation s r.kind x r.value) proof ∙ sym first)
    (c.by_relation.ensures.is x (e.same c.args.e c.requires.e ∙ q) c.in_ok-word-in-Some.ensures.known.is)

pub returns-then-hyps-at-clause-spends : goal.returns-then-hyps-at-clause-spends
returns-then-hyps-at-clause-spends c = (refl, omega arith, never-spent c.limit.new.table c.args.memo.now c.limit.result c.limit.ensures.memory)

pub returns-in-None-clause-spends : goal.returns-in-None-clause-spends
returns-in-None-clause-spends c =
    (refl, omega arith, never-spent c.limit-in-None.new.table c.args.memo.now c.limit-in-None.result c.limit-in-None.ensures.memory)
