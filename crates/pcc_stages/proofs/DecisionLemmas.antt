-- What the stages of a command come to is a decision, and the run that prints it.
use Rattle.std.proofs.Common.{◌≡◌, ℕ, zero, suc, Bool, if◌then◌else◌, inl, inr, List, [], ◌∷◌, Option, Some, None, unwrap_or, Result, Ok, Err, refl, sym, ap, ◌∙◌, subst, arith}
use Rattle.std.proofs.lemmas.List.{append-nil}
use Rattle.std.proofs.lemmas.Bool.Decides.{eqb_tells}
use Rattle.std.specs.Result.{IsErrAnd}
use Rattle.file_port.specs.Events.{Given, whole, missing, too_long, failed, no_memory, Event, was_read, was_written, was_put}
use Rattle.file_port.specs.Files.{FilesState}
use Rattle.file_port.specs.Sink.{SinkState, Puts}
use Rattle.file_port.specs.declared.Put.{Put}
use Rattle.file_port.specs.declared.Put.TheVariants as put
use Rattle.file_port.proofs.PutLemmas.{with_piece-nil}
use Rattle.policy_set.specs.Views.{PolicyView}
use Rattle.pcc_stages.specs.Exits.{Exit}
use Rattle.pcc_stages.specs.Requests.{no_memory_exit}
use Rattle.pcc_stages.specs.Stage.{Stage, stops, gives, ◌>>=◌, went_on, Follows}
use Rattle.pcc_stages.specs.Runs.{Effect, NoneFailed, Comes, stopped, printed, wrote, done_exit, written_exit, status_after, Prints, EndsRun, decided, out_of_memory, Runs}
use Rattle.pcc_stages.specs.Texts.{texts, texts_with}
use Rattle.pcc_stages.specs.Stages.Common.{printing, ending}
use Rattle.pcc_stages.specs.Stops.{end_of}
use Rattle.pcc_stages.specs.Answers.{StopsAs, IsClean, Gives}
use Rattle.pcc_stages.specs.Decisions.{end_of_decision, exit_of, EndsWith, Decides}
use Rattle.pcc_stages.specs.declared.stops.Stop.{Stop}
use Rattle.pcc_stages.proofs.StageLemmas.{follows-bind, pure_stops}

-- ---- what a stage comes to

module _ (stage : Stage Effect) (events : List Event) where
  stop_ends : (later : Stage Effect) (end : Option Exit) → Follows texts events stage later → StopsAs later end → IsClean events end → EndsWith stage events end
  stop_ends later (Some exit) follows is clean = stopped (subst (λ l. Follows texts events stage l) is follows)
  stop_ends later None follows is clean = (later, follows, clean)

  -- a stage that ends with an exit
  ending_ends : (exit : Exit) → Follows texts events stage (ending exit) → Comes texts stage events exit
  ending_ends exit follows = by_status exit.status exit.text follows
    where
      by_status : (status : ℕ) (text : List ℕ)
          → Follows texts events stage (ending (record { status = status; text = text }))
          → Comes texts stage events (record { status = status; text = text })
      by_status zero text f = printed text f refl
      by_status (suc n) text f =
          elim (eqb_tells (suc n) 0) [
            | inl h ↦ let bad : suc n ≡ 0 = h.1 in absurd (omega arith)
            | inr h ↦
                let exit : Exit = record { status = suc n; text = text } in
                stopped
                (subst
                (λ (b : Bool). Follows texts events stage (if b then printing text else stops exit))
                h.0 f)
          ]

module _ {R : Type 0} where
  module _ (stage : Stage Effect) (e e' : List Event) (f g : FilesState) where
    -- where a stage ends that gives what is printed
    pub decides_text : (text : R → List ℕ) (d : Result R Stop)
        → Gives (λ r. record { text = text r; change = None }) stage e e' f g d
        → Decides (λ r. done_exit (text r)) stage e e' f g d
    decides_text text (Ok r) h = record {
      events = h.events;
      logged = h.logged;
      happened = h.happened;
      ends = printed (text r) (subst (λ l. Follows texts h.events stage l) h.is h.follows) refl;
    }
    decides_text text (Err why) h = record {
      events = h.events;
      logged = h.logged;
      happened = h.happened;
      ends = stop_ends stage h.events h.later (end_of why) h.follows h.is h.clean;
    }

  -- where a stage gives an exit, and the command ends with it
  pub decides_ending : (ended : R → Exit) (stage : Stage Exit) (e e' : List Event) (f g : FilesState) (d : Result R Stop)
      → Gives ended stage e e' f g d → Decides ended (stage >>= ending) e e' f g d
  decides_ending ended stage e e' f g (Ok r) h = record {
    events = h.events;
    logged = h.logged;
    happened = h.happened;
    ends =
        ending_ends (stage >>= ending) h.events (ended r)
        (subst (λ l. Follows texts h.events (stage >>= ending) l) (ap (λ x. x >>= ending) h.is)
        (follows-bind ending h.events stage h.later h.follows));
  }
  decides_ending ended stage e e' f g (Err why) h = record {
    events = h.events;
    logged = h.logged;
    happened = h.happened;
    ends =
        stop_ends (stage >>= ending) h.events (h.later >>= ending) (end_of why)
        (follows-bind ending h.events stage h.later h.follows) (pure_stops ending h.later why h.is)
        h.clean;
  }

  module _ {ended : R → Exit} where
    -- a stage that reads nothing
    pub decides_at_once : (stage : Stage Effect) (e : List Event) (f : FilesState) (why : Stop)
        → StopsAs stage (end_of why) → Decides ended stage e e f f (Err why)
    decides_at_once stage e f why is = record {
      events = [];
      logged = sym (append-nil e);
      happened = refl;
      ends = at_once (end_of why) is;
    }
      where
        at_once : (end : Option Exit) → StopsAs stage end → EndsWith stage [] end
        at_once (Some exit) h = stopped (sym h)
        at_once None h = (stage, refl, tt)

    -- ---- commands

    -- a command whose policy isn't known
    pub no_policy : (s : Stage PolicyView) (next : PolicyView → Stage Effect) (e : List Event)
        (f : FilesState) (why : Stop) (d : Result R Stop) → StopsAs s (end_of why)
        → IsErrAnd d (λ y. y ≡ why) → Decides ended (s >>= next) e e f f d
    no_policy s next e f why (Ok report) h is = absurd is
    no_policy s next e f why (Err other) h is =
        decides_at_once (s >>= next) e f other
        (subst (λ y. StopsAs (s >>= next) (end_of y)) (sym is) (pure_stops next s why h))

    -- one whose policy is known
    pub under_policy : (s : Stage PolicyView) (next : PolicyView → Stage Effect) (under : PolicyView)
        (e e' : List Event) (f g : FilesState) (d : Result R Stop) → s ≡ gives under
        → Decides ended (next under) e e' f g d → Decides ended (s >>= next) e e' f g d
    under_policy s next under e e' f g d is h =
        subst (λ stage. Decides ended stage e e' f g d) (sym (ap (λ x. x >>= next) is)) h

-- ---- what is printed

module _ (stage : Stage Effect) (s t : SinkState) (status : ℕ) where
  nothing_put : (events : List Event) (later : Stage Effect) → Follows texts events stage later → NoneFailed events → (r : Put) → Puts [] s t r → status ≡ status_after 5 r → EndsRun texts stage events s t status
  nothing_put events later follows clean put.Done puts after = out_of_memory later follows clean (puts ∙ with_piece-nil s) after
  nothing_put events later follows clean put.Failed puts after = let some = puts.some in absurd (omega arith)

  run_of_end : (events : List Event) (end : Option Exit) → EndsWith stage events end → Prints (unwrap_or end no_memory_exit) s t status → EndsRun texts stage events s t status
  run_of_end events (Some exit) comes p = decided exit comes p
  run_of_end events None (later, follows, clean) p = nothing_put events later follows clean p.put p.puts p.after

  pub runs_of_decision : {R : Type 0} (ended : R → Exit) (e e' : List Event) (f g : FilesState)
      (d : Result R Stop) → Decides ended stage e e' f g d → Prints (exit_of ended d) s t status
      → Runs texts stage e e' f g s t status
  runs_of_decision ended e e' f g d h p = record {
    events = h.events;
    logged = h.logged;
    happened = h.happened;
    ends = run_of_end h.events (end_of_decision ended d) h.ends p;
  }

-- ---- a program with another line of usage

module _ (usage : List ℕ) where
  went_on-usage : {A : Type 0} (name : List ℕ) (more : Exit) (on : List ℕ → Stage A) (given : Given)
      → went_on texts name more on given ≡ went_on (texts_with usage) name more on given
  went_on-usage name more on (whole b) = refl
  went_on-usage name more on missing = refl
  went_on-usage name more on too_long = refl
  went_on-usage name more on failed = refl
  went_on-usage name more on no_memory = refl

  pub follows-usage : {A : Type 0} (events : List Event) (stage later : Stage A)
      → Follows texts events stage later → Follows (texts_with usage) events stage later
  follows-usage [] stage later is = is
  follows-usage (was_read name max given ∷ events) stage later h = (
    h.0,
    record {
      more = h.1.more;
      on = h.1.on;
      asks = h.1.asks;
      goes = h.1.goes ∙ went_on-usage name h.1.more h.1.on given;
    },
    follows-usage events h.0 later h.2,
  )
  follows-usage (was_written name bytes answer ∷ events) stage later h = absurd h
  follows-usage (was_put piece answer ∷ events) stage later h = absurd h

  written_exit-usage : (name text : List ℕ) (answer : Put)
      → written_exit texts name text answer ≡ written_exit (texts_with usage) name text answer
  written_exit-usage name text put.Done = refl
  written_exit-usage name text put.Failed = refl

  comes-usage : (stage : Stage Effect) (events : List Event) (exit : Exit)
      → Comes texts stage events exit → Comes (texts_with usage) stage events exit
  comes-usage stage events exit (stopped follows) = stopped (follows-usage events stage (stops exit) follows)
  comes-usage stage events exit (printed text follows is) = printed text (follows-usage events stage _ follows) is
  comes-usage stage events exit (wrote asked text name bytes answer all follows is) =
      wrote asked text name bytes answer all (follows-usage asked stage _ follows)
      (is ∙ written_exit-usage name text answer)

  ends-usage : (stage : Stage Effect) (events : List Event) (s t : SinkState) (status : ℕ)
      → EndsRun texts stage events s t status → EndsRun (texts_with usage) stage events s t status
  ends-usage stage events s t status (decided exit comes prints) = decided exit (comes-usage stage events exit comes) prints
  ends-usage stage events s t status (out_of_memory later follows clean same is) =
      out_of_memory later (follows-usage events stage later follows) clean same is

  -- a run is one of a program with this line
  pub runs-usage : (stage : Stage Effect) (e e' : List Event) (f g : FilesState) (s t : SinkState)
      (status : ℕ) → Runs texts stage e e' f g s t status
      → Runs (texts_with usage) stage e e' f g s t status
  runs-usage stage e e' f g s t status r = record {
    events = r.events;
    logged = r.logged;
    happened = r.happened;
    ends = ends-usage stage r.events s t status r.ends;
  }
