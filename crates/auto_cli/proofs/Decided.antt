-- How a decision comes to be behind the reads of a draft.
use Rattle.std.proofs.Common.{◌≡◌, ℕ, Bool, true, if◌then◌else◌, List, [], ◌∷◌, ◌++◌, length, Option, Some, None, IsSome, IfSome}
use Rattle.std.proofs.Common.{Result, Ok, Err, refl, sym, ap, ◌∙◌, subst, append_assoc}
use Rattle.std.proofs.lemmas.Bool.{false≢true}
use Rattle.std.specs.Result.{IsErrAnd}
use Rattle.std.proofs.lemmas.List.{append-nil, append_cancel_left}
use Rattle.file_port.specs.Events.{Event, was_written}
use Rattle.file_port.specs.Files.{FilesState}
use Rattle.file_port.specs.declared.port.Put.{Put}
use Rattle.file_port.specs.declared.port.Put.TheVariants as put
use Rattle.policy_set.specs.Views.{PolicyView}
use Rattle.pcc_gate.specs.declared.refusal.Refusal.{Refusal}
use Rattle.view_goal_text.specs.Listing.{goals_of_bytes}
use Rattle.view_goal_text.specs.Styles.{StyleView}
use Rattle.pcc_stages.specs.Exits.{Exit}
use Rattle.pcc_stages.specs.Requests.{usage_exit}
use Rattle.pcc_stages.specs.Stage.{Stage, stops, gives, ◌>>=◌, Follows}
use Rattle.pcc_stages.specs.Runs.{Effect, Happens, NoneFailed, Comes, stopped, printed, wrote, done_exit, written_exit}
use Rattle.pcc_stages.specs.Texts.{texts}
use Rattle.pcc_stages.specs.Stages.Common.{refused}
use Rattle.pcc_stages.specs.Stops.{end_of}
use Rattle.pcc_stages.specs.Answers.{StopsAs, GivesPure, Gives}
use Rattle.pcc_stages.specs.Decisions.{end_of_decision, EndsWith, Decides}
use Rattle.pcc_stages.specs.declared.stops.Stop.{Stop}
use Rattle.pcc_stages.specs.declared.stops.Stop.TheVariants as stop
use Rattle.pcc_stages.proofs.RunLemmas.{no_stop}
use Rattle.pcc_stages.proofs.StageLemmas.{follows-join, happens-join, none_failed-join, follows-bind, stops_first, lifted}
use Rattle.pcc_stages.proofs.DecisionLemmas.{decides_text}
use Rattle.auto_search.specs.Outcomes.{OutcomeView, found, unfound, IsOutcome}
use Rattle.auto_cli.specs.Arguments.{AutoArgs}
use Rattle.auto_cli.specs.Drafts.{DraftView, draft_in, draft_of, has_vain_flags, container_from, draft_from}
use Rattle.auto_cli.specs.Reports.{auto_exit}
use Rattle.auto_cli.specs.Tasks.{left_style, left_exit, left_goals, settled, settled_draft}
use Rattle.auto_cli.specs.Texts.{auto_texts, flags_line, found_line}
use Rattle.auto_cli.specs.Inside.Finds.{FindsDraft, FindsIfTold, TellsFound, WroteFound, LeavesGoals}
use Rattle.auto_cli.specs.declared.report.Report.{Report}
use Rattle.auto_cli.specs.declared.report.Report.TheVariants as report
use Rattle.auto_cli.proofs.Reading.{one_gift, gift_is_last, no_gift, IsBehind, behind_gift}

-- ---- decisions behind reads

module _ (first : List Event) (stage mid : Stage Effect) (h : Follows texts first stage mid) where
  comes_behind : (k : List Event) (exit : Exit) → Comes texts mid k exit
      → Comes texts stage (first ++ k) exit
  comes_behind k exit (stopped follows) = stopped (follows-join first k stage mid (stops exit) h follows)
  comes_behind k exit (printed text follows is) =
      printed text (follows-join first k stage mid _ h follows) is
  comes_behind k exit (wrote asked text name bytes answer all follows is) =
      wrote (first ++ asked) text name bytes answer
      (ap (λ l. first ++ l) all ∙ sym (append_assoc first asked (was_written name bytes answer ∷ [])))
      (follows-join first asked stage mid _ h follows) is

  ends_behind : NoneFailed first → (k : List Event) (end : Option Exit) → EndsWith mid k end
      → EndsWith stage (first ++ k) end
  ends_behind clean k (Some exit) comes = comes_behind k exit comes
  ends_behind clean k None (later, follows, quiet) =
      (later, follows-join first k stage mid later h follows, none_failed-join first k clean quiet)

  pub decides_behind : (e m e' : List Event) (f n g : FilesState) (d : Result Report Stop)
      → NoneFailed first → m ≡ e ++ first → Happens first f n
      → Decides auto_exit mid m e' n g d → Decides auto_exit stage e e' f g d
  decides_behind e m e' f n g d clean logged happened k = record {
    events = first ++ k.events;
    logged = k.logged ∙ ap (λ l. l ++ k.events) logged ∙ append_assoc e first k.events;
    happened = happens-join first k.events f n g happened k.happened;
    ends = ends_behind clean k.events (end_of_decision auto_exit d) k.ends;
  }

-- a decision at once
pub decides_exit : (stage : Stage Effect) (exit : Exit) (e : List Event) (f : FilesState)
    (d : Result Report Stop) → stage ≡ stops exit → end_of_decision auto_exit d ≡ Some exit
    → Decides auto_exit stage e e f f d
decides_exit stage exit e f d is end = record {
  events = [];
  logged = sym (append-nil e);
  happened = refl;
  ends = subst (λ o. EndsWith stage [] o) (sym end) (stopped (sym is));
}

-- memory ran out before anything was asked
pub decides_nothing : (stage : Stage Effect) (e : List Event) (f : FilesState)
    → Decides auto_exit stage e e f f (Err stop.Memory)
decides_nothing stage e f = record {
  events = [];
  logged = sym (append-nil e);
  happened = refl;
  ends = (stage, refl, tt);
}

-- how the goals that are left end a run
pub left_goals_are : (policy : PolicyView) (kept : List ℕ) (style : StyleView)
    (r : Result (List ℕ) Refusal) → style ≡ left_style → goals_of_bytes style policy kept ≡ r
    → left_goals policy kept ≡ left_exit r
unfolding left_goals
left_goals_are policy kept style r same is =
    ap (λ s. left_exit (goals_of_bytes s policy kept)) (sym same) ∙ ap left_exit is

-- the goals that are left are printed
pub decides_left : (policy : PolicyView) (kept : List ℕ) (e : List Event) (f : FilesState)
    (d : Result Report Stop) → LeavesGoals policy kept d
    → Decides auto_exit (stops (left_goals policy kept)) e e f f d
decides_left policy kept e f d leaves = record {
  events = [];
  logged = sym (append-nil e);
  happened = refl;
  ends = go (end_of_decision auto_exit d) leaves;
}
  where
    go : (end : Option Exit) → IfSome end (λ exit. left_goals policy kept ≡ exit)
        → EndsWith (stops (left_goals policy kept)) [] end
    go (Some exit) is = stopped (ap stops (sym is))
    go None is = (stops (left_goals policy kept), refl, tt)

-- what was found is written
found_ends : (name bytes : List ℕ) (invariants : ℕ) (answer : Put) (d : Result Report Stop)
    → (stage : Stage Effect)
    → stage ≡ gives (record { text = found_line (length bytes) invariants; change = Some (name, bytes) })
    → TellsFound name bytes invariants answer d
    → EndsWith stage (was_written name bytes answer ∷ []) (end_of_decision auto_exit d)
found_ends name bytes invariants put.Done (Ok (report.Found count k)) stage is tells =
    wrote [] (found_line (length bytes) invariants) name bytes put.Done refl (sym is)
    ((λ i. done_exit (found_line (tells.0 i) (tells.1 i))))
found_ends name bytes invariants put.Failed (Err (stop.WriteFault other)) stage is tells =
    wrote [] (found_line (length bytes) invariants) name bytes put.Failed refl (sym is)
    (ap (λ n. written_exit texts n (found_line (length bytes) invariants) put.Failed) tells)
found_ends name bytes invariants answer d stage is tells = absurd tells

pub decides_found : (policy : PolicyView) (name bytes : List ℕ) (invariants : ℕ) (e e' : List Event)
    (f g : FilesState) (d : Result Report Stop) → WroteFound name bytes invariants e e' f g d
    → Decides auto_exit (settled name policy (found bytes invariants)) e e' f g d
unfolding settled
decides_found policy name bytes invariants e e' f g d w = record {
  events = was_written name bytes w.answer ∷ [];
  logged = w.logged;
  happened = (g, w.writes, refl);
  ends = found_ends name bytes invariants w.answer d _ refl w.tells;
}

-- ---- what is found behind the reads

-- a stage that stops gives no draft
stopped_gives : (l : Stage DraftView) (x : DraftView) (end : Option Exit) → StopsAs l end → IsSome end
    → l ≡ gives x → ⊥
stopped_gives l x (Some exit) is some last = no_stop x exit (sym last ∙ is)
stopped_gives l x None is some last = false≢true some

module _ (output : List ℕ) where
  -- where the reads of a draft stop
  finds_stop : {C : Type 0} (view : C → DraftView) (drafts : Stage DraftView) (e e' : List Event)
      (f g : FilesState) (why : Stop) → Gives view drafts e e' f g (Err why)
      → FindsDraft drafts output e e' f g (Err why)
  finds_stop view drafts e e' f g why h =
      let next : DraftView → Stage Effect = settled_draft output (unfound []) in
      let stopped_so = stops_first next view (λ (r : Report). record { text = []; change = None }) drafts
      e e' f g why (Err why) h refl in
      let decides = decides_text (drafts >>= next) e e' f g (λ (r : Report). []) (Err why) stopped_so in
      record {
        outcome = unfound [];
        decides = record {
          events = decides.events;
          logged = decides.logged;
          happened = decides.happened;
          ends = decides.ends;
        };
        fits = λ asked rest draft some logged follows.
            let all : h.events ≡ asked ++ rest =
            append_cancel_left e h.events (asked ++ rest) (sym h.logged ∙ logged) in
            absurd (stopped_gives h.later draft (end_of why) h.is some
            (gift_is_last asked rest h.events drafts h.later draft h.follows follows all));
      }

  -- where a stage before a draft stops
  pub finds_stop_first : {A C : Type 0} (view : C → A) (s : Stage A) (b : A → Stage DraftView)
      (e e' : List Event) (f g : FilesState) (why : Stop) (d : Result Report Stop)
      → Gives view s e e' f g (Err why) → IsErrAnd d (λ y. y ≡ why)
      → FindsDraft (s >>= b) output e e' f g d
  finds_stop_first view s b e e' f g why (Ok report) h is = absurd is
  finds_stop_first view s b e e' f g why (Err other) h is =
      subst (λ y. FindsDraft (s >>= b) output e e' f g (Err y)) (sym is)
      (finds_stop (λ (x : DraftView). x) (s >>= b) e e' f g why
      (stops_first b view (λ (x : DraftView). x) s e e' f g why (Err why) h refl))

  -- where a stage that reads nothing stops
  pub finds_stop_pure : {C : Type 0} (view : C → DraftView) (drafts : Stage DraftView) (e : List Event)
      (f : FilesState) (why : Stop) (d : Result Report Stop) → GivesPure view drafts (Err why)
      → IsErrAnd d (λ y. y ≡ why) → FindsDraft drafts output e e f f d
  finds_stop_pure view drafts e f why (Ok report) h is = absurd is
  finds_stop_pure view drafts e f why (Err other) h is =
      subst (λ y. FindsDraft drafts output e e f f (Err y)) (sym is)
      (finds_stop view drafts e e f f why (lifted view drafts e f (Err why) h))

  -- behind a stage that gives a value
  pub finds_then : {A C : Type 0} (view : C → A) (s : Stage A) (b : A → Stage DraftView)
      (e m e' : List Event) (f n g : FilesState) (x : C) (d : Result Report Stop)
      → Gives view s e m f n (Ok x) → FindsDraft (b (view x)) output m e' n g d
      → FindsDraft (s >>= b) output e e' f g d
  finds_then view s b e m e' f n g x d h k =
      let next : DraftView → Stage Effect = settled_draft output k.outcome in
      let there : Follows texts h.events s (gives (view x)) =
      subst (λ l. Follows texts h.events s l) h.is h.follows in
      let all : e' ≡ e ++ (h.events ++ k.decides.events) =
      k.decides.logged ∙ ap (λ l. l ++ k.decides.events) h.logged
      ∙ append_assoc e h.events k.decides.events in
      record {
        outcome = k.outcome;
        decides =
            decides_behind h.events ((s >>= b) >>= next) (b (view x) >>= next)
            (follows-bind next h.events (s >>= b) (b (view x)) (follows-bind b h.events s (gives (view x)) there))
            e m e' f n g d h.clean h.logged h.happened k.decides;
        fits = λ asked rest draft some logged follows.
            let same : h.events ++ k.decides.events ≡ asked ++ rest =
            append_cancel_left e (h.events ++ k.decides.events) (asked ++ rest) (sym all ∙ logged) in
            let r : IsBehind b h.events asked (view x) draft =
            behind_gift b h.events asked k.decides.events rest s (view x) draft there follows same in
            let left : k.decides.events ≡ r.more ++ rest =
            append_cancel_left h.events k.decides.events (r.more ++ rest)
            (same ∙ ap (λ l. l ++ rest) r.parts ∙ append_assoc h.events r.more rest) in
            k.fits r.more rest draft some (k.decides.logged ∙ ap (λ l. m ++ l) left) r.follows;
      }

  -- behind one that reads nothing
  pub finds_same : (drafts : Stage DraftView) (draft : DraftView) (e e' : List Event) (f g : FilesState)
      (d : Result Report Stop) → drafts ≡ gives draft → FindsDraft (gives draft) output e e' f g d
      → FindsDraft drafts output e e' f g d
  finds_same drafts draft e e' f g d is h = subst (λ s. FindsDraft s output e e' f g d) (sym is) h

  -- flags with a container
  pub finds_flags : (args : AutoArgs) (policy : PolicyView) (bytes : List ℕ) (e : List Event)
      (f : FilesState) → has_vain_flags args bytes ≡ true
      → FindsDraft (draft_in args policy bytes) output e e f f (Ok report.Flags)
  unfolding draft_in
  finds_flags args policy bytes e f vain =
      let is : draft_in args policy bytes ≡ stops (refused flags_line) =
      ap (λ (b : Bool). if b then stops (refused flags_line) else (container_from args policy bytes >>= draft_from policy)) vain in
      record {
        outcome = unfound [];
        decides =
            decides_exit (draft_in args policy bytes >>= settled_draft output (unfound []))
            (refused flags_line) e f (Ok report.Flags)
            (ap (λ (s : Stage DraftView). s >>= settled_draft output (unfound [])) is) refl;
        fits = λ asked rest draft some logged follows.
            absurd (no_gift asked (refused flags_line) draft
            (subst (λ (s : Stage DraftView). Follows texts asked s (gives draft)) is follows));
      }

  -- behind a draft, what the search comes to
  pub finds_settled : (draft : DraftView) (outcome : OutcomeView) (e e' : List Event) (f g : FilesState)
      (d : Result Report Stop) → IsOutcome draft.policy draft.bytes outcome
      → Decides auto_exit (settled output draft.policy outcome) e e' f g d
      → FindsDraft (gives draft) output e e' f g d
  finds_settled draft outcome e e' f g d fits decides = record {
    outcome = outcome;
    decides = decides;
    fits = λ asked rest other some logged follows.
        subst (λ (x : DraftView). IsOutcome x.policy x.bytes outcome)
        (one_gift [] asked (asked ++ rest) rest (gives draft) draft other refl follows refl) fits;
  }

  -- where memory ran out before anything was asked
  pub finds_nothing : (drafts : Stage DraftView) (e : List Event) (f : FilesState)
      → FindsDraft drafts output e e f f (Err stop.Memory)
  finds_nothing drafts e f = record {
    outcome = unfound [];
    decides = decides_nothing (drafts >>= settled_draft output (unfound [])) e f;
    fits = λ asked rest other some logged follows. absurd (false≢true some);
  }

-- the same of arguments that may be a command
pub told_nothing : (told : Option AutoArgs) (e : List Event) (f : FilesState)
    → FindsIfTold told e e f f (Err stop.Memory)
told_nothing (Some args) e f = finds_nothing args.output (draft_of args) e f
told_nothing None e f = decides_nothing (stops (usage_exit auto_texts)) e f
