-- Hosts with rights that fit: at a start, and after a run.
use Rattle.std.proofs.Common.{◌-◌, ◌/◌, ◌≡◌, ◌≤◌, ℕ, List, true, refl, sym, ◌∙◌, ap, subst, arith}
use Rattle.word_ops.specs.Rights.{Rights}
use Rattle.alpha_words.specs.declared.insn.Insn.{Insn}
use Rattle.alpha_cfg.specs.Machine.{IsState, run_of}
use Rattle.formula_tree.specs.Truth.{IsValid}
use Rattle.policy_set.specs.Views.{PolicyView}
use Rattle.reference_machine.specs.Arena.{placed_words, IsZeroFrom}
use Rattle.reference_machine.specs.Starts.{StartView, Fits, HasWords, start_regs, start_state}
use Rattle.reference_machine.proofs.Starting.{start_state-is}
use Rattle.packet_store.specs.StartMeets.{StartMeets}
use Rattle.vcgen.specs.Conditions.{condition}
use Rattle.term_table.specs.Table.{id_trees}
use Rattle.lf_signature.specs.Constants.{Longest}
use Rattle.vcgen.specs.Encoded.{AreForms, AreEncodings}
use Rattle.vcgen.specs.Safety.{IsAnnotated, Holds, all_steps, steps_after}
use Rattle.pcc_gate.specs.Views.{AcceptedView, AreAnnotations, IsConditionTrue}
use Rattle.pcc_gate.proofs.Conditions.{formulas-encoded}
use Rattle.host_steps.specs.declared.ended.Ended.{Ended}
use Rattle.host_steps.specs.declared.ended.Ended.TheVariants as ended
use Rattle.safe_host.specs.Hosts.{HostView, shown_formulas, shown_code, state_under, RightsFit, HasRights, FitWhileLeft, host_at, start_rights}
use Rattle.safe_host.specs.Inside.Fields.{HasRightsBefore}
use Rattle.safe_host.specs.Runs.{IsRun, outcome_of, goes_on_after}
use Rattle.host_steps.specs.Stepping.{arena_state, EndsUnblocked}
use Rattle.host_steps.specs.Parts.{PartView, PartFits, IsPartRun, IsPartRunUnder, ReturnedInBound}
use Rattle.host_steps.proofs.Counted.{returned-in-bound}
use Rattle.host_steps.proofs.Fitting.{start-part-fits, part-unblocked, part-left, part-run, part-unwritten}

-- a host as a part of an arena
abbrev part_of : HostView → PartView
part_of h = record { base = 65536; index = h.index; regs = h.regs; words = h.words }

pub goes-on : (result : Ended) → goes_on_after result ≡ true → result ≡ ended.OutOfSteps
goes-on ended.OutOfSteps e = refl
goes-on (ended.Returned word) e = absurd (cc)

-- a host at a start, whose rights fit
pub record HasBegun (a : AcceptedView) (setup : StartView) (h : HostView) : Type 0 where
  pub is : h ≡ host_at a setup
  pub meets : StartMeets setup a.policy.pre
  pub fits : RightsFit h (all_steps a.bound) (start_rights setup)

module _ (a : AcceptedView) (forms : AreForms Longest a.bound (id_trees a.table a.invs))
    (annotates : AreAnnotations a) (valid : IsConditionTrue a) where
  encoded : AreEncodings a.bound (id_trees a.table a.invs) (shown_formulas a)
  encoded = formulas-encoded Longest a.bound (id_trees a.table a.invs) forms

  is-annotated : IsAnnotated (shown_code a)
  is-annotated = annotates (shown_formulas a) encoded

  is-valid : IsValid (condition (shown_code a))
  is-valid = valid (shown_formulas a) encoded

  start-fits : (setup : StartView) → Fits 65536 setup → HasWords setup
      → StartMeets setup a.policy.pre
      → RightsFit (host_at a setup) (all_steps a.bound) (start_rights setup)
  start-fits setup fits words meets =
      let state : IsState (start_state 65536 setup) =
      start_state-is 65536 setup refl (omega arith) fits words in
      let f = start-part-fits (shown_code a) 65536 setup is-annotated is-valid fits state meets in
      record { reads = f.reads; writes = f.writes; few = f.few; holds = f.holds }

  -- the bytes of a start that meets the precondition stand in the arena
  pub begins : (policy : PolicyView) (setup : StartView) (regs words : List ℕ) → regs
      ≡ start_regs setup → policy ≡ a.policy →
      Fits 65536 setup → HasWords setup → StartMeets setup policy.pre →
      words ≡ placed_words ((setup.at - 65536) / 8) setup.bytes →
      HasBegun a setup (record (host_at a setup) { regs = regs; words = words })
  begins policy setup regs words set same fits are meets placed =
      let is : record (host_at a setup) { regs = regs; words = words } ≡ host_at a setup =
      ap (λ (l : List ℕ). record (host_at a setup) { regs = regs; words = l }) placed
      ∙ ap (λ (l : List ℕ). record (host_at a setup) { regs = l }) set in
      let start : StartMeets setup a.policy.pre =
      subst (λ (p : PolicyView). StartMeets setup p.pre) same meets in
      record {
        is = is;
        meets = start;
        fits =
            subst (λ (h : HostView). RightsFit h (all_steps a.bound) (start_rights setup)) (sym is)
            (start-fits setup fits are start);
      }

-- a host's accepted code has these laws
module _ (h : HostView)
    (forms : AreForms Longest h.accepted.bound (id_trees h.accepted.table h.accepted.invs))
    (annotates : AreAnnotations h.accepted) (valid : IsConditionTrue h.accepted) where
  host-annotated : IsAnnotated (shown_code h.accepted)
  host-annotated = is-annotated h.accepted forms annotates valid

  host-valid : IsValid (condition (shown_code h.accepted))
  host-valid = is-valid h.accepted forms annotates valid

  fits : (left : ℕ) (r : Rights) → RightsFit h left r
      → PartFits (shown_code h.accepted) left (part_of h) r
  fits left r f = record { reads = f.reads; writes = f.writes; few = f.few; holds = f.holds }

  -- where its steps are bounded, rights fit only while some are left
  pub fit-while-left : FitWhileLeft h
  fit-while-left counted left r f =
      part-left (shown_code h.accepted) host-annotated host-valid (part_of h) 0 left r
      (fits left r f) counted

  module _ (n : ℕ) where
    -- no access of its run is blocked
    pub runs-unblocked : (code : List Insn) → code ≡ h.accepted.code → (end : ℕ)
        → HasRightsBefore end h
        → EndsUnblocked (run_of code n (arena_state 65536 h.index h.regs h.words)).0
    runs-unblocked code is end f =
        subst (λ (l : List Insn). EndsUnblocked
        (run_of l n (arena_state 65536 h.index h.regs h.words)).0) (sym is)
        (part-unblocked (shown_code h.accepted) host-annotated host-valid (part_of h) n f.0 f.1
        (fits f.0 f.1 f.2))

    module _
        (code : List Insn)
        (is : code ≡ h.accepted.code)
        (result : Ended)
        (new : HostView)
        (kept : new.accepted ≡ h.accepted)
        (ran : (outcome_of result, arena_state 65536 new.index new.regs new.words) ≡ run_of code n
        (arena_state 65536 h.index h.regs h.words))
      where
        ran-part : IsPartRun (shown_code h.accepted) (part_of h) n result (part_of new)
        ran-part = record {
          base = refl;
          run = ran
              ∙ ap (λ (l : List Insn). run_of l n (arena_state 65536 h.index h.regs h.words)) is;
        }

        ran-under : (left : ℕ) (r : Rights) → RightsFit h left r
            → IsPartRunUnder (shown_code h.accepted) (part_of h) n left result (part_of new) r
        ran-under left r f =
            part-run (shown_code h.accepted) host-annotated host-valid (part_of h) n left r
            (fits left r f) result (part_of new) ran-part

        -- what fits the part that a run led to fits the host
        fits-again : (left : ℕ) (r : Rights)
            → PartFits (shown_code h.accepted) left (part_of new) r → RightsFit new left r
        fits-again left r g = record {
          reads = g.reads;
          writes = g.writes;
          few = subst (λ (a : AcceptedView). left ≤ all_steps a.bound) (sym kept) g.few;
          holds =
              subst (λ (a : AcceptedView). Holds (shown_code a) (state_under new r) left) (sym kept)
              g.holds;
        }

        -- under rights that fit, the run is that of the machine that tests
        pub is-run : IsRun h n result new
        is-run left r f =
            let under = ran-under left r f in
            record {
              same = under.same;
              fits = λ out.
                  fits-again (steps_after h.accepted.bound n left) r (under.fits out);
              returns = under.returns;
            }

        -- where it may go on, some fit
        pub still-fits : (end : ℕ) → HasRightsBefore end h → goes_on_after result ≡ true
            → HasRightsBefore end new
        still-fits end f on = (
          steps_after h.accepted.bound n f.0,
          f.1,
          (is-run f.0 f.1 f.2).fits (goes-on result on),
          f.3,
        )

        -- from the place on where the stores end, words are 0 as before
        pub still-zero : (end : ℕ) → HasRightsBefore end h → IsZeroFrom end h.words
            → IsZeroFrom end new.words
        still-zero end f zero =
            part-unwritten (shown_code h.accepted) host-annotated host-valid (part_of h) n f.0 f.1
            (fits f.0 f.1 f.2) result (part_of new) ran-part end f.3 zero

-- a budget of at least the bound ends by a return, since some rights fit
pub run-returns : (h : HostView) (n : ℕ) (result : Ended) (new : HostView) → HasRights h
    → IsRun h n result new → ReturnedInBound h.accepted.bound n result
run-returns h n result new f run =
    returned-in-bound h.accepted.bound n f.0 result f.2.few (run f.0 f.1 f.2).returns
