-- Parts of an arena under rights that fit: at a start, and through a run.
use Rattle.std.proofs.Common.{◌≡◌, ℕ, ◌+◌, ◌-◌, ◌*◌, ◌/◌, ◌<◌, ◌≤◌, IsSome, false, refl, sym, ◌∙◌, ap, subst, arith}
use Rattle.word_ops.specs.Memory.{read}
use Rattle.word_ops.specs.Rights.{Rights, allowed}
use Rattle.alpha_cfg.specs.Machine.{State, IsState, run_of}
use Rattle.alpha_cfg.specs.declared.outcome.Outcome.{Outcome}
use Rattle.alpha_cfg.specs.declared.outcome.Outcome.TheVariants as outcomes
use Rattle.formula_tree.specs.Truth.{IsValid}
use Rattle.policy_set.specs.Satisfies.{Satisfies}
use Rattle.reference_machine.specs.Agents.{AreInArena, EndBy}
use Rattle.reference_machine.specs.Arena.{IsZeroFrom}
use Rattle.reference_machine.specs.Starts.{StartView, Fits, start_regs, start_state}
use Rattle.reference_machine.proofs.ArenaWords.{read-map_of}
use Rattle.reference_machine.proofs.Places.{past-not_allowed}
use Rattle.vcgen.specs.Conditions.{AnnotatedCode, condition}
use Rattle.vcgen.specs.Safety.{IsAnnotated, IsReturn, Holds, IsGoodRun, all_steps, steps_after}
use Rattle.vcgen.proofs.Steps.{holds-start, runs-good}
use Rattle.host_steps.specs.declared.ended.Ended.{Ended}
use Rattle.host_steps.specs.declared.ended.Ended.TheVariants as ended
use Rattle.host_steps.specs.Stepping.{EndsUnblocked}
use Rattle.host_steps.specs.RunEnds.{outcome_of}
use Rattle.host_steps.proofs.Unblocked.{under, run-same}
use Rattle.host_steps.proofs.Unwritten.{run-left}
use Rattle.host_steps.specs.Parts.{PartView, part_state, open_state, part_at_start, rights_of, PartFits, IsPartRun, IsPartRunUnder}
use Rattle.host_steps.proofs.Counted.{some-left, good-returns, few-after}

-- ---- at a start

pub start-part-fits : (c : AnnotatedCode) (base : ℕ) (setup : StartView) → IsAnnotated c
    → IsValid (condition c) → Fits base setup → IsState (start_state base setup)
    → Satisfies (rights_of setup) (start_regs setup) (start_state base setup).memory c.pre
    → PartFits c (all_steps c.bound) (part_at_start base setup) (rights_of setup)
start-part-fits c base setup is valid fits state meets = record {
  reads = fits.reads_in;
  writes = fits.writes_in;
  few = omega arith;
  holds = holds-start c is valid (start_state base setup) state refl meets;
}

-- ---- through a run

good-unblocked : (c : AnnotatedCode) (s : State) (n left : ℕ) (q : Outcome × State)
    → IsGoodRun c s n left q → EndsUnblocked q.0
good-unblocked c s n left (outcomes.OutOfSteps, t) h = tt
good-unblocked c s n left (outcomes.Returned word, t) h = tt
good-unblocked c s n left (outcomes.Blocked index kind a, t) h = absurd h

module _ (c : AnnotatedCode) (is : IsAnnotated c) (valid : IsValid (condition c)) (p : PartView)
    (n left : ℕ) (r : Rights) (f : PartFits c left p r) where
  good : IsGoodRun c (part_state p r) n left (run_of c.code n (part_state p r))
  good = runs-good c is valid n (part_state p r) left f.holds

  ends-well : EndsUnblocked (run_of c.code n (part_state p r)).0
  ends-well = good-unblocked c (part_state p r) n left (run_of c.code n (part_state p r)) good

  -- where steps are bounded, some are left
  pub part-left : IsSome c.bound → 0 < left
  part-left counted = some-left c is valid counted (part_state p r) left f.holds

  same : run_of c.code n (part_state p r) ≡ under r (run_of c.code n (open_state p))
  same = run-same p.base r f.reads f.writes c.code n (open_state p) ends-well

  pub part-unblocked : EndsUnblocked (run_of c.code n (open_state p)).0
  part-unblocked = subst (λ (q : Outcome × State). EndsUnblocked q.0) same ends-well

  module _ (result : Ended) (q : PartView) (ran : IsPartRun c p n result q) where
    run-is : run_of c.code n (part_state p r) ≡ (outcome_of result, part_state q r)
    run-is = same ∙ sym (ap (under r) ran.run)

    out-holds : result ≡ ended.OutOfSteps → Holds c (part_state q r) (steps_after c.bound n left)
    out-holds out =
        let goes : IsGoodRun c (part_state p r) n left (outcome_of result, part_state q r) =
        subst (IsGoodRun c (part_state p r) n left) run-is good in
        (subst (λ (e : Ended). IsGoodRun c (part_state p r) n left (outcome_of e, part_state q r))
        out goes).0

    has-returned : IsSome c.bound → left ≤ n → IsReturn (outcome_of result)
    has-returned counted enough =
        subst (λ (o : Outcome × State). IsReturn o.0) run-is
        (good-returns c is valid n (part_state p r) left counted enough
        (run_of c.code n (part_state p r)) good)

    pub part-run : IsPartRunUnder c p n left result q r
    part-run = record {
      same = run-is;
      fits = λ out. record {
        reads = subst (λ b. AreInArena b r.reads) (sym ran.base) f.reads;
        writes = subst (λ b. AreInArena b r.writes) (sym ran.base) f.writes;
        few = few-after c.bound n left (all_steps c.bound) f.few;
        holds = out-holds out;
      };
      returns = has-returned;
    }

    -- from the place on where the stores end, words are 0 as before
    pub part-unwritten : (end : ℕ) → EndBy p.base end r.writes → IsZeroFrom end p.words
        → IsZeroFrom end q.words
    part-unwritten end by zero place past =
        let a : ℕ = p.base + 8 * place in
        let behind : end ≤ (a - p.base) / 8 = omega (arith, past) in
        let closed : allowed r.writes a ≡ false =
        past-not_allowed p.base end r.writes a f.writes by behind in
        sym (read-map_of q.words p.base place)
        ∙ ap (λ b. read (part_state (record q { base = b }) r).memory a) (sym ran.base)
        ∙ ap (λ (e : Outcome × State). read e.1.memory a) (sym run-is)
        ∙ run-left a c.code n (part_state p r) closed
        ∙ read-map_of p.words p.base place
        ∙ zero place past
