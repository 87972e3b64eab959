-- Where steps are counted, some are left wherever what has to hold does: so a run of as many
-- returns.
use Rattle.std.proofs.Common.{◌≡◌, ℕ, ◌+◌, ◌<◌, ◌≤◌, eqb, List, [], ◌∷◌, slice_get, Option, Some, None, IsSome, is_some, refl, ap, subst, arith, inl, inr}
use Rattle.std.proofs.lemmas.Bool.{cases_Bool, eqb-true, ltb-true}
use Rattle.std.proofs.lemmas.Option.{none-some, same_Some}
use Rattle.word_ops.specs.Rights.{Rights}
use Rattle.alpha_words.specs.declared.insn.Insn.{Insn}
use Rattle.alpha_cfg.specs.Machine.{State}
use Rattle.alpha_cfg.specs.declared.outcome.Outcome.{Outcome}
use Rattle.alpha_cfg.specs.declared.outcome.Outcome.TheVariants as outcomes
use Rattle.formula_tree.specs.Formulas.{Form, FImp}
use Rattle.formula_tree.specs.Truth.{IsTrueIn, nowhere, IsValid}
use Rattle.vcgen.specs.Conditions.{AnnotatedCode, condition_at, invariant_at, wp, body, close, inv_parts, condition}
use Rattle.vcgen.specs.Safety.{IsAnnotated, IsReturn, Holds, all_steps, steps_after, IsGoodRun}
use Rattle.vcgen.proofs.Conditions.{inv_cases, wp-other, wp-annotated}
use Rattle.vcgen.proofs.BoundValues.{IgnoresBound, ignores-closed, ignores-imp, ignores-body}
use Rattle.vcgen.proofs.Closing.{close-true}
use Rattle.vcgen.proofs.Outcomes.{IsTrueOf}
use Rattle.host_steps.specs.declared.ended.Ended.{Ended}
use Rattle.host_steps.specs.RunEnds.{outcome_of}
use Rattle.host_steps.specs.Parts.{ReturnedInBound}

-- ---- numbers of steps

pub steps_after-none : (bound : Option ℕ) (left : ℕ) → steps_after bound 0 left ≡ left
steps_after-none None left = refl
steps_after-none (Some b) left = omega arith

pub steps_after-more : (bound : Option ℕ) (n k left : ℕ)
    → steps_after bound k (steps_after bound n left) ≡ steps_after bound (n + k) left
steps_after-more None n k left = refl
steps_after-more (Some b) n k left = omega arith

-- no more steps are left than before
pub few-after : (bound : Option ℕ) (n left most : ℕ) → left ≤ most
    → steps_after bound n left ≤ most
few-after None n left most few = few
few-after (Some b) n left most few = omega (arith, few)

-- what is left of a bound behind so many steps is made by as many as remain
pub rest-after : (bound : Option ℕ) (n k left : ℕ) → IsSome bound → left ≤ n + k
    → steps_after bound n left ≤ k
rest-after None n k left counted enough = absurd (cc)
rest-after (Some b) n k left counted enough = omega (arith, enough)

-- ---- what has to hold before an instruction

-- where steps are counted, it asks that one is left
asks-one : (bound : Option ℕ) (next : ℕ → Form) (post : Form) (i left : ℕ) (s : State)
    (o : Option Insn) → IsSome bound → IsTrueOf (condition_at bound next post i o) left s → 0 < left
asks-one None next post i left s o counted t = absurd (cc)
asks-one (Some b) next post i left s None counted t = absurd t
asks-one (Some b) next post i left s (Some insn) counted t = ltb-true 0 left t.0

-- the part of an annotated index
part-at : (c : AnnotatedCode) (R : Rights) (ps : List (ℕ × Form)) (i : ℕ) (F : Form)
    → invariant_at ps i ≡ Some F → IsTrueIn R (inv_parts c ps) nowhere []
    → IsTrueIn R (close c.bound (FImp F (body c i))) nowhere []
part-at c R [] i F at t = absurd (none-some F at)
part-at c R (p ∷ ps) i F at t =
    elim (cases_Bool (eqb p.0 i)) [
      | inl e ↦
          let same : p.1 ≡ F = same_Some p.1 F (rw e at at) in
          let here : p.0 ≡ i = eqb-true p.0 i e in
          subst (λ j. IsTrueIn R (close c.bound (FImp F (body c j))) nowhere []) here
          (subst (λ G. IsTrueIn R (close c.bound (FImp G (body c p.0))) nowhere []) same t.0)
      | inr e ↦ part-at c R ps i F (rw e at at) t.1
    ]

module _ (c : AnnotatedCode) (is : IsAnnotated c) (valid : IsValid (condition c)) where
  -- it is true wherever what has to hold at the index is, annotated or not
  body-true : (s : State) (left : ℕ) → Holds c s left → IsTrueOf (body c s.index) left s
  body-true s left h =
      elim (inv_cases c.invs s.index) [
        | inl free ↦
            subst (λ F. IsTrueOf F left s) (wp-other c is s.index h.within free) h.here
        | inr kept ↦
            let F : Form = kept.0 in
            let ignores : IgnoresBound (FImp F (body c s.index)) =
            ignores-imp F (body c s.index) (ignores-closed F (is.invs s.index F kept.1))
            (ignores-body c is s.index) in
            close-true s.rights c.bound (FImp F (body c s.index))
            (record { regs = s.regs; memory = s.memory; left = left }) ignores h.state.regs
            h.state.memory h.few
            (part-at c s.rights c.invs s.index F kept.1 (valid s.rights h.state.rights).1)
            (subst (λ G. IsTrueOf G left s) (wp-annotated c is s.index F kept.1) h.here)
      ]

  pub some-left : IsSome c.bound → (s : State) (left : ℕ) → Holds c s left → 0 < left
  some-left counted s left h =
      asks-one c.bound (wp c) c.post s.index left s (slice_get c.code s.index) counted
      (body-true s left h)

  -- ---- runs

  -- a good run that might make all steps that were left has returned
  pub good-returns : (n : ℕ) (s : State) (left : ℕ) → IsSome c.bound → left ≤ n
      → (q : Outcome × State) → IsGoodRun c s n left q → IsReturn q.0
  good-returns n s left counted enough (outcomes.OutOfSteps, t) h =
      let more : ℕ = steps_after c.bound n left in
      let some : 0 < more = some-left counted t more h.0 in
      let none : more ≤ 0 = rest-after c.bound n 0 left counted (omega (arith, enough)) in
      absurd (omega (arith, some, none))
  good-returns n s left counted enough (outcomes.Returned word, t) h = tt
  good-returns n s left counted enough (outcomes.Blocked index kind a, t) h = absurd h

-- a run under rights that fit with so many steps left
pub returned-in-bound : (bound : Option ℕ) (n left : ℕ) (result : Ended) → left ≤ all_steps bound
    → (IsSome bound → left ≤ n → IsReturn (outcome_of result)) → ReturnedInBound bound n result
returned-in-bound bound n left result few returns most is enough =
    let all : all_steps bound ≡ most = ap all_steps is in
    returns (ap is_some is) (omega (arith, few, all, enough))
