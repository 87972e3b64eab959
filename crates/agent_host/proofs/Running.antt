-- Agents with rights that fit: at a start, and after a run.
use Rattle.std.proofs.Common.{◌≡◌, ℕ, ◌-◌, ◌/◌, List, refl, sym, ◌∙◌, ap, subst}
use Rattle.word_ops.specs.Rights.{Rights}
use Rattle.alpha_words.specs.declared.insn.Insn.{Insn}
use Rattle.alpha_cfg.specs.Machine.{IsState, run_of}
use Rattle.formula_tree.specs.Truth.{IsValid}
use Rattle.policy_set.specs.Views.{PolicyView}
use Rattle.reference_machine.specs.Arena.{placed_words}
use Rattle.reference_machine.specs.Starts.{StartView, Fits, start_regs, start_state}
use Rattle.packet_store.specs.StartMeets.{StartMeetsIn}
use Rattle.vcgen.specs.Conditions.{condition}
use Rattle.term_table.specs.Table.{id_trees}
use Rattle.lf_signature.specs.Constants.{Longest}
use Rattle.vcgen.specs.Encoded.{AreForms, AreEncodings}
use Rattle.vcgen.specs.Safety.{IsAnnotated, all_steps, steps_after}
use Rattle.pcc_gate.specs.First.{formulas}
use Rattle.pcc_gate.specs.Views.{AcceptedView, AreAnnotations, IsConditionTrue}
use Rattle.pcc_gate.proofs.Conditions.{formulas-encoded}
use Rattle.host_steps.specs.declared.ended.Ended.{Ended}
use Rattle.host_steps.specs.declared.ended.Ended.TheVariants as ended
use Rattle.host_steps.specs.Stepping.{arena_state, EndsUnblocked}
use Rattle.host_steps.specs.RunEnds.{outcome_of}
use Rattle.host_steps.specs.Parts.{rights_of, PartFits}
use Rattle.host_steps.specs.Parts.{IsPartRun, IsPartRunUnder, ReturnedInBound}
use Rattle.host_steps.proofs.Counted.{returned-in-bound}
use Rattle.host_steps.proofs.Fitting.{start-part-fits, part-unblocked, part-run}
use Rattle.agent_host.specs.declared.phase.Phase.TheVariants as phases
use Rattle.agent_host.specs.Agents.{HostedView, annotated_code, part_of, RightsFitAgent}
use Rattle.agent_host.specs.Agents.{SomeRightsFit, agent_at}
use Rattle.agent_host.specs.Turns.{phase_after}

-- an agent that may go on is out of steps
pub goes-on : (result : Ended) → phase_after result ≡ phases.Ready → result ≡ ended.OutOfSteps
goes-on ended.OutOfSteps e = refl
goes-on (ended.Returned word) e = absurd (cc)

-- an agent at a start, whose rights fit
pub record HasBegun (was : HostedView) (setup : StartView) (is : HostedView) : Type 0 where
  pub is_at : is ≡ agent_at was setup
  pub meets : StartMeetsIn was.base setup was.accepted.policy.pre
  pub fits : RightsFitAgent is (all_steps was.accepted.bound) (rights_of setup)

module _ (m : HostedView)
    (forms : AreForms Longest m.accepted.bound (id_trees m.accepted.table m.accepted.invs))
    (annotates : AreAnnotations m.accepted) (valid : IsConditionTrue m.accepted) where
  encoded : AreEncodings m.accepted.bound (id_trees m.accepted.table m.accepted.invs)
      (formulas (id_trees m.accepted.table m.accepted.invs))
  encoded = formulas-encoded Longest m.accepted.bound (id_trees m.accepted.table m.accepted.invs)
      forms

  is-annotated : IsAnnotated (annotated_code m.accepted)
  is-annotated = annotates (formulas (id_trees m.accepted.table m.accepted.invs)) encoded

  is-valid : IsValid (condition (annotated_code m.accepted))
  is-valid = valid (formulas (id_trees m.accepted.table m.accepted.invs)) encoded

  start-fits : (setup : StartView) → Fits m.base setup → IsState (start_state m.base setup)
      → StartMeetsIn m.base setup m.accepted.policy.pre
      → RightsFitAgent (agent_at m setup) (all_steps m.accepted.bound) (rights_of setup)
  start-fits setup fits state meets =
      let f = start-part-fits (annotated_code m.accepted) m.base setup is-annotated is-valid fits
      state meets in
      record { reads = f.reads; writes = f.writes; few = f.few; holds = f.holds }

  -- the bytes of a start that meets the precondition stand in the part
  pub begins : (policy : PolicyView) (setup : StartView) (regs words : List ℕ)
      → regs ≡ start_regs setup → policy ≡ m.accepted.policy
      → Fits m.base setup → IsState (start_state m.base setup)
      → StartMeetsIn m.base setup policy.pre
      → words ≡ placed_words ((setup.at - m.base) / 8) setup.bytes
      → HasBegun m setup (record (agent_at m setup) { regs = regs; words = words })
  begins policy setup regs words set same fits state meets placed =
      let is : record (agent_at m setup) { regs = regs; words = words } ≡ agent_at m setup =
      ap (λ (l : List ℕ). record (agent_at m setup) { regs = regs; words = l }) placed
      ∙ ap (λ (l : List ℕ). record (agent_at m setup) { regs = l }) set in
      let start : StartMeetsIn m.base setup m.accepted.policy.pre =
      subst (λ (p : PolicyView). StartMeetsIn m.base setup p.pre) same meets in
      record {
        is_at = is;
        meets = start;
        fits =
            subst (λ (h : HostedView).
            RightsFitAgent h (all_steps m.accepted.bound) (rights_of setup)) (sym is)
            (start-fits setup fits state start);
      }

  module _ (n : ℕ) where
    -- no access of its run is blocked
    pub runs-unblocked : (code : List Insn) → code ≡ m.accepted.code → SomeRightsFit m
        → EndsUnblocked (run_of code n (arena_state m.base m.index m.regs m.words)).0
    runs-unblocked code is f =
        subst (λ (l : List Insn). EndsUnblocked
        (run_of l n (arena_state m.base m.index m.regs m.words)).0) (sym is)
        (part-unblocked (annotated_code m.accepted) is-annotated is-valid (part_of m) n f.0 f.1
        f.2)

    module _
        (code : List Insn)
        (is : code ≡ m.accepted.code)
        (result : Ended)
        (new : HostedView)
        (base : new.base ≡ m.base)
        (ran : (outcome_of result, arena_state new.base new.index new.regs new.words) ≡ run_of code
        n (arena_state m.base m.index m.regs m.words))
      where
        ran-part : IsPartRun (annotated_code m.accepted) (part_of m) n result (part_of new)
        ran-part = record {
          base = base;
          run = ran
              ∙ ap (λ (l : List Insn). run_of l n (arena_state m.base m.index m.regs m.words)) is;
        }

        -- under rights that fit, the run is that of the machine that tests
        pub ran-under : (left : ℕ) (r : Rights) → RightsFitAgent m left r
            → IsPartRunUnder (annotated_code m.accepted) (part_of m) n left result (part_of new) r
        ran-under left r f =
            part-run (annotated_code m.accepted) is-annotated is-valid (part_of m) n left r f
            result (part_of new) ran-part

        -- a budget of at least the bound ends by a return, since some rights fit
        pub run-returns : SomeRightsFit m → ReturnedInBound m.accepted.bound n result
        run-returns f =
            returned-in-bound m.accepted.bound n f.0 result f.2.few (ran-under f.0 f.1 f.2).returns

        -- where it may go on, some fit
        pub still-fits : new.accepted ≡ m.accepted → SomeRightsFit m
            → phase_after result ≡ phases.Ready → SomeRightsFit new
        still-fits kept f on =
            let then_left : ℕ = steps_after m.accepted.bound n f.0 in (
              then_left,
              f.1,
              subst (λ (a : AcceptedView).
                  PartFits (annotated_code a) then_left (part_of new) f.1) (sym kept)
                  ((ran-under f.0 f.1 f.2).fits (goes-on result on)),
            )
