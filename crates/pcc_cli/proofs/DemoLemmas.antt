-- `demo`: its source is assembled and proved, and its lines tell of what is accepted.
use Rattle.std.proofs.Common.{◌≡◌, ◌⊎◌, inl, inr, ℕ, List, [], length, Option, Some, None, IfSome, refl, sym, ap, ◌∙◌, subst}
use Rattle.file_port.specs.Events.{Event}
use Rattle.policy_set.specs.declared.kind.PolicyKind.TheVariants.{Filter}
use Rattle.policy_set.specs.Views.{PolicyView, IsPolicy, built_in}
use Rattle.policy_set.specs.Names.{policy_of}
use Rattle.policy_set.proofs.Closed.{policy_of-is}
use Rattle.proof_container.specs.Encoding.{encoding_of}
use Rattle.pcc_asm.specs.Assembling.{plain_contents}
use Rattle.pcc_gate.specs.Accepted.{IsAccepted}
use Rattle.pcc_gate.proofs.Exactly.{accepted-none}
use Rattle.pcc_demo.specs.Sources.{demo_source}
use Rattle.pcc_lines.specs.Demo.{demo_lines}
use Rattle.pcc_stages.specs.Exits.{Exit}
use Rattle.pcc_stages.specs.Runs.{Effect, done_exit, Comes, printed, stopped}
use Rattle.pcc_stages.specs.Stage.{Stage, stops, gives, ◌>>=◌}
use Rattle.pcc_stages.specs.Texts.{texts}
use Rattle.pcc_stages.specs.Stages.Common.{policy_found, printing}
use Rattle.pcc_commands.specs.Stages.Assembling.{assembled_in}
use Rattle.pcc_commands.specs.Stages.Judging.{Shown, shown_in}
use Rattle.pcc_commands.specs.Stages.Proving.{proved_in}
use Rattle.pcc_commands.specs.Commands.Demo.{summary_of, demo_container, demo_told, demo_effect, demo_policy, demo_command}
use Rattle.pcc_commands.proofs.RunLemmas.{shown_of_bytes}
use Rattle.pcc_cli.specs.Headline.{AssemblesTo, Proves, ProvesExactly, IsUnproved, IsUnprovedExactly, IsDemo, Demonstrates}
use Rattle.pcc_cli.specs.Headline.{demonstrated, not_assembled, not_proved}
use Rattle.pcc_cli.proofs.EndLemmas.{Ended, ended_at_once, shape, asks_nothing}
use Rattle.pcc_cli.proofs.TaskLemmas.{proved_in-ends}
use Rattle.bounds_prover.specs.ProvedLaws.{ProvedAccepted}
use Rattle.pcc_cli.proofs.ProveLemmas.{proves_of_stage, unproved_of_stage, unproved_some, proves_back, unproved_back}
use Rattle.pcc_cli.proofs.SourceLemmas.{AssemblerLaws, Assembled, made_of, stopped_at, assembled_or_not, plain_assembled, assembled-bytes}
use Rattle.pcc_cli.proofs.SourceLemmas.{assembles_back, no_source_back}

-- the policy of `demo`
abbrev pub filter_policy : PolicyView
filter_policy = built_in Filter

filter-named : policy_of demo_policy ≡ Some filter_policy
filter-named = refl

filter-kept : IsPolicy filter_policy
filter-kept = subst (λ (o : Option PolicyView). IfSome o IsPolicy) filter-named (policy_of-is demo_policy)

-- what it may do, exactly
abbrev pub DemoExactly : ℕ → List Event → Exit → Type 0
DemoExactly = Demonstrates (ProvesExactly filter_policy) (IsUnprovedExactly filter_policy)

-- what is told of accepted bytes
abbrev shown_as : (out : List ℕ) → IsAccepted filter_policy out → Shown
shown_as out a = record { code = a.code; invariants = length a.contents.invs }

abbrev text_of : (n : ℕ) (out : List ℕ) → IsAccepted filter_policy out → List ℕ
text_of n out a = demo_lines (summary_of filter_policy n (shown_as out a))

module _ (n : ℕ) where
  -- what is told behind the proof
  abbrev told_behind : Stage (List ℕ) → Stage Effect
  told_behind s =
      (s >>= λ container. shown_in filter_policy container >>= λ shown. gives (summary_of filter_policy n shown))
      >>= λ told. printing (demo_lines told)

  effect_by : (s : Stage (List ℕ)) → demo_container filter_policy n ≡ s → demo_effect filter_policy n ≡ told_behind s
  unfolding demo_effect demo_told
  effect_by s e = ap told_behind e

  container_by : (s : Stage (List ℕ)) → assembled_in 1 None filter_policy (demo_source n) ≡ s
      → demo_container filter_policy n ≡ (s >>= λ container. proved_in filter_policy container)
  unfolding demo_container
  container_by s e = ap (λ x. x >>= λ container. proved_in filter_policy container) e

  -- where nothing is assembled
  effect_unmade : (exit : Exit) → assembled_in 1 None filter_policy (demo_source n) ≡ stops exit → demo_effect filter_policy n ≡ stops exit
  effect_unmade exit e = effect_by (stops exit) (container_by (stops exit) e)

  module _ (bare : List ℕ) (made : assembled_in 1 None filter_policy (demo_source n) ≡ gives bare) where
    effect_unproved : (exit : Exit) → proved_in filter_policy bare ≡ stops exit → demo_effect filter_policy n ≡ stops exit
    effect_unproved exit e = effect_by (stops exit) (container_by (gives bare) made ∙ e)

    effect_proved : (out : List ℕ) (a : IsAccepted filter_policy out) → proved_in filter_policy bare ≡ gives out
        → demo_effect filter_policy n ≡ printing (text_of n out a)
    effect_proved out a e =
        effect_by (gives out) (container_by (gives bare) made ∙ e)
        ∙ ap (λ (s : Stage Shown). (s >>= λ shown. gives (summary_of filter_policy n shown)) >>= λ told. printing (demo_lines told))
        (shown_of_bytes filter_policy out a.contents a.code a.marks a.accepts.passes (accepted-none filter_policy out a))

-- what its effect is, with what that means
data Demo (n : ℕ) : Type 0 where
  shows : (text : List ℕ) → IsDemo (ProvesExactly filter_policy) n (done_exit text) → demo_effect filter_policy n ≡ printing text → Demo n
  halts : (exit : Exit) → ((events : List Event) → events ≡ [] → DemoExactly n events exit) → demo_effect filter_policy n ≡ stops exit → Demo n

module _ (assembler : AssemblerLaws) (prover : ProvedAccepted) (n : ℕ) where
  module _ (bare : List ℕ) (is : AssemblesTo 1 None filter_policy (demo_source n) bare)
      (at : assembled_in 1 None filter_policy (demo_source n) ≡ gives bare) where
    demo_proved : ((out : List ℕ) × (proved_in filter_policy bare ≡ gives out)) ⊎ ((exit : Exit) × (proved_in filter_policy bare ≡ stops exit)) → Demo n
    demo_proved (inl (out, e)) =
        let p = proves_of_stage prover filter_policy filter-kept bare out (assembled-bytes (demo_source n) bare is) e in
        let a : IsAccepted filter_policy out = p.proves.accepted in
        shows (text_of n out a)
        (record { bare = bare; out = out; assembled = is; proved = p; accepted = a; lines = refl })
        (effect_proved n bare at out a e)
    demo_proved (inr (exit, e)) =
        halts exit
        (λ events none. not_proved bare none is
        (unproved_of_stage filter_policy bare exit (assembled-bytes (demo_source n) bare is) e))
        (effect_unproved n bare at exit e)

  demo_from : Assembled 1 None filter_policy (demo_source n) → Demo n
  demo_from (made_of s insns spells is at) =
      let bare : List ℕ = encoding_of (plain_contents 1 None filter_policy s.invs insns) in
      demo_proved bare (plain_assembled assembler 1 None filter_policy (demo_source n) s insns spells is) at
      (shape (proved_in filter_policy bare) (proved_in-ends filter_policy bare))
  demo_from (stopped_at exit none at) =
      halts exit (λ events is. not_assembled is none) (effect_unmade n exit at)

  demo_told_by : (events : List Event) (exit : Exit) → Demo n → Ended (demo_effect filter_policy n) events exit → DemoExactly n events exit
  demo_told_by events exit (shows text is at) e =
      let r = asks_nothing (printing text) refl refl events exit (subst (λ s. Ended s events exit) at e) in
      demonstrated r.0 (subst (IsDemo (ProvesExactly filter_policy) n) (sym r.1) is)
  demo_told_by events exit (halts other is at) e =
      let r = ended_at_once other events exit (subst (λ s. Ended s events exit) at e) in
      subst (DemoExactly n events) (sym r.1) (is events r.0)

  pub demonstrates : (events : List Event) (exit : Exit)
      → Ended (policy_found (policy_of demo_policy) >>= λ under. demo_effect under n) events exit → DemoExactly n events exit
  demonstrates events exit e =
      demo_told_by events exit (demo_from (assembled_or_not assembler 1 None filter_policy (demo_source n)))
      (subst (λ (o : Option PolicyView). Ended (policy_found o >>= λ under. demo_effect under n) events exit) filter-named e)

-- less exactly
demo_roughly : (n : ℕ) (exit : Exit) → IsDemo (ProvesExactly filter_policy) n exit → IsDemo (Proves filter_policy) n exit
demo_roughly n exit d = record {
  bare = d.bare;
  out = d.out;
  assembled = d.assembled;
  proved = d.proved.proves;
  accepted = d.accepted;
  lines = d.lines;
}

pub demonstrates_some : (n : ℕ) (events : List Event) (exit : Exit) → DemoExactly n events exit
    → Demonstrates (Proves filter_policy) IsUnproved n events exit
demonstrates_some n events exit (demonstrated none d) = demonstrated none (demo_roughly n exit d)
demonstrates_some n events exit (not_assembled none why) = not_assembled none why
demonstrates_some n events exit (not_proved bare none is told) = not_proved bare none is (unproved_some filter_policy bare exit told)

-- ---- back to the stage

module _ (assembler : AssemblerLaws) (n : ℕ) (events : List Event) (exit : Exit) where
  -- the stage, by what its effect is
  comes_at : (s : Stage Effect) → events ≡ [] → demo_effect filter_policy n ≡ s → Comes texts s [] exit → Comes texts (demo_command n) events exit
  unfolding demo_command
  comes_at s none at comes =
      subst (λ es. Comes texts (demo_command n) es exit) (sym none)
      (subst (λ (o : Option PolicyView). Comes texts (policy_found o >>= λ under. demo_effect under n) [] exit) (sym filter-named)
      (subst (λ x. Comes texts x [] exit) (sym at) comes))

  pub demo_comes : DemoExactly n events exit → Comes texts (demo_command n) events exit
  demo_comes (demonstrated none d) =
      comes_at (printing (text_of n d.out d.accepted)) none
      (effect_proved n d.bare (assembles_back assembler 1 None filter_policy (demo_source n) d.bare d.assembled) d.out d.accepted
      (proves_back filter_policy d.bare d.out d.proved.exactly))
      (printed (text_of n d.out d.accepted) refl d.lines)
  demo_comes (not_assembled none why) =
      comes_at (stops exit) none (effect_unmade n exit (no_source_back assembler 1 None filter_policy (demo_source n) exit why))
      (stopped refl)
  demo_comes (not_proved bare none is told) =
      comes_at (stops exit) none
      (effect_unproved n bare (assembles_back assembler 1 None filter_policy (demo_source n) bare is) exit
      (unproved_back filter_policy bare exit (assembled-bytes (demo_source n) bare is) told))
      (stopped refl)
