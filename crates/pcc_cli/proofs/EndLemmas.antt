-- What follows a stage, how a command ends, and what `check` means.
use Rattle.std.proofs.Common.{◌≡◌, ℕ, ◌≤◌, ◌⊎◌, inl, inr, false, true≢false, List, [], ◌∷◌, ◌++◌}
use Rattle.std.proofs.Common.{length, Option, Some, None, is_some, refl, sym, ap, ◌∙◌, subst, arith}
use Rattle.file_port.specs.Events.{Given, whole, missing, too_long, failed, no_memory, Event, was_read, was_written, was_put}
use Rattle.file_port.specs.Files.{FilesState}
use Rattle.file_port.specs.declared.Put.{Put}
use Rattle.policy_set.specs.Views.{PolicyView}
use Rattle.term_table.specs.Bytes.{IsBytes}
use Rattle.pcc_gate.specs.declared.refusal.Refusal.{Refusal}
use Rattle.pcc_gate.specs.Accepted.{IsAccepted}
use Rattle.pcc_gate.specs.First.{first_refusal}
use Rattle.pcc_gate.specs.Laws.{AcceptedFirst, RefusedFirst}
use Rattle.pcc_gate.specs.WrittenOut.{IsAcceptedWrittenOut}
use Rattle.pcc_gate.proofs.WrittenOut.{accepted-written, written-accepted}
use Rattle.pcc_lines.specs.Fixed.{accepted_line, container_too_long_line}
use Rattle.pcc_stages.specs.Exits.{Exit, Change}
use Rattle.pcc_stages.specs.Requests.{no_memory_exit}
use Rattle.pcc_stages.specs.Stage.{Stage, stops, gives, reads, ◌>>=◌, went_on, Asks, Follows}
use Rattle.pcc_stages.specs.Runs.{Effect, AreOctets, Happens, Comes, stopped, printed, wrote, done_exit, written_exit}
use Rattle.pcc_stages.proofs.RunLemmas.{is_stop, is_read}
use Rattle.pcc_stages.specs.declared.files.TheConstants.{MAX_FILE}
use Rattle.pcc_stages.specs.Texts.{texts}
use Rattle.pcc_stages.specs.Stages.Common.{refused, printing}
use Rattle.pcc_commands.specs.Stages.Judging.{stops_if_refused}
use Rattle.pcc_cli.specs.Headline.{IsFirstVerdict, IsJudged, Checks}

-- ---- what follows a stage

-- a stage that asks for nothing
pub no_read : {A : Type 0} (s : Stage A) → is_read s ≡ false → (events : List Event) (later : Stage A) → Follows texts events s later → (events ≡ []) × (later ≡ s)
no_read s none [] later h = (refl, h)
no_read s none (was_read name max given ∷ events) later h = absurd (true≢false (sym (ap is_read h.1.asks) ∙ none))
no_read s none (was_written name bytes answer ∷ events) later h = absurd h
no_read s none (was_put piece answer ∷ events) later h = absurd h

-- where a stage that reads goes on, and the event
abbrev pub went_at : {A : Type 0} → Stage A → Given → Stage A
went_at (stops exit) given = stops exit
went_at (gives x) given = gives x
went_at (reads name max more on) given = went_on texts name more on given

abbrev pub event_at : {A : Type 0} → Stage A → Given → Event
event_at (stops exit) given = was_read [] 0 given
event_at (gives x) given = was_read [] 0 given
event_at (reads name max more on) given = was_read name max given

-- a stage that reads a file has read it, where it is at one that doesn't read
pub record HasRead {A : Type 0} (name : List ℕ) (max : ℕ) (more : Exit) (on : List ℕ → Stage A) (events : List Event) (later : Stage A) : Type 0 where
  pub given : Given
  pub rest : List Event
  pub is : events ≡ was_read name max given ∷ rest
  pub follows : Follows texts rest (went_on texts name more on given) later

pub first_read : {A : Type 0} (name : List ℕ) (max : ℕ) (more : Exit) (on : List ℕ → Stage A) (events : List Event) (later : Stage A) → is_read later ≡ false
    → Follows texts events (reads name max more on) later → HasRead name max more on events later
first_read name max more on [] later ended h = absurd (true≢false (sym (ap is_read h) ∙ ended))
first_read {A = A} name max more on (was_read n m given ∷ events) later ended h =
    let asks : Asks texts n m given (reads name max more on) h.0 = h.1 in
    record {
      given = given;
      rest = events;
      is = ap (λ (s : Stage A). event_at s given ∷ events) (sym asks.asks);
      follows = subst (λ (s : Stage A). Follows texts events s later) (asks.goes ∙ ap (λ (s : Stage A). went_at s given) (sym asks.asks)) h.2;
    }
first_read name max more on (was_written n bytes answer ∷ events) later ended h = absurd h
first_read name max more on (was_put piece answer ∷ events) later ended h = absurd h

-- one read, behind which nothing is asked
pub record ReadOnce {A : Type 0} (name : List ℕ) (max : ℕ) (more : Exit) (on : List ℕ → Stage A) (events : List Event) (later : Stage A) : Type 0 where
  pub given : Given
  pub is : events ≡ was_read name max given ∷ []
  pub goes : later ≡ went_on texts name more on given

pub went_on-ended : {A : Type 0} (name : List ℕ) (more : Exit) (on : List ℕ → Stage A) → ((b : List ℕ) → is_read (on b) ≡ false) → (given : Given) → is_read (went_on texts name more on given) ≡ false
went_on-ended name more on each (whole b) = each b
went_on-ended name more on each missing = refl
went_on-ended name more on each too_long = refl
went_on-ended name more on each failed = refl
went_on-ended name more on each no_memory = refl

pub read_once : {A : Type 0} (name : List ℕ) (max : ℕ) (more : Exit) (on : List ℕ → Stage A) → ((b : List ℕ) → is_read (on b) ≡ false) → (events : List Event) (later : Stage A) → is_read later ≡ false
    → Follows texts events (reads name max more on) later → ReadOnce name max more on events later
read_once name max more on each events later ended h =
    let r = first_read name max more on events later ended h in
    let last = no_read (went_on texts name more on r.given) (went_on-ended name more on each r.given) r.rest later r.follows in
    record { given = r.given; is = r.is ∙ ap (λ es. was_read name max r.given ∷ es) last.0; goes = last.1 }

-- ---- how a command ends

-- the exit of a stage that prints, and the change of one that gives an effect
abbrev pub end_at : Stage Effect → Exit
end_at (stops exit) = exit
end_at (gives effect) = done_exit effect.text
end_at (reads name max more on) = no_memory_exit

abbrev pub change_at : Stage Effect → Change
change_at (stops exit) = None
change_at (gives effect) = effect.change
change_at (reads name max more on) = None

-- the reads of a command, where it ends, and what it then does
pub record Ended (stage : Stage Effect) (events : List Event) (exit : Exit) : Type 0 where
  pub asked : List Event
  pub later : Stage Effect
  pub follows : Follows texts asked stage later
  pub ended : is_read later ≡ false
  pub does : ((events ≡ asked) × (exit ≡ end_at later) × (change_at later ≡ None))
      ⊎ ((text : List ℕ) × (name : List ℕ) × (bytes : List ℕ) × (answer : Put) × (later ≡ gives (record { text = text; change = Some (name, bytes) }))
      × (events ≡ asked ++ was_written name bytes answer ∷ []) × (exit ≡ written_exit texts name text answer))

pub ended_of : (stage : Stage Effect) (events : List Event) (exit : Exit) → Comes texts stage events exit → Ended stage events exit
ended_of stage events exit (stopped follows) = record { asked = events; later = stops exit; follows = follows; ended = refl; does = inl (refl, refl, refl) }
ended_of stage events exit (printed text follows is) =
    record { asked = events; later = gives (record { text = text; change = None }); follows = follows; ended = refl; does = inl (refl, is, refl) }
ended_of stage events exit (wrote asked text name bytes answer split follows is) = record {
  asked = asked;
  later = gives (record { text = text; change = Some (name, bytes) });
  follows = follows;
  ended = refl;
  does = inr (text, name, bytes, answer, refl, split, is);
}

-- a command that ends at once
pub ended_at_once : (exit' : Exit) (events : List Event) (exit : Exit) → Ended (stops exit') events exit → (events ≡ []) × (exit ≡ exit')
ended_at_once exit' events exit e = by e.does
  where
    last : (e.asked ≡ []) × (e.later ≡ stops exit')
    last = no_read (stops exit') refl e.asked e.later e.follows

    by : ((events ≡ e.asked) × (exit ≡ end_at e.later) × (change_at e.later ≡ None))
        ⊎ ((text : List ℕ) × (name : List ℕ) × (bytes : List ℕ) × (answer : Put) × (e.later ≡ gives (record { text = text; change = Some (name, bytes) }))
        × (events ≡ e.asked ++ was_written name bytes answer ∷ []) × (exit ≡ written_exit texts name text answer)) → (events ≡ []) × (exit ≡ exit')
    by (inl d) = (d.0 ∙ last.0, d.1 ∙ ap end_at last.1)
    by (inr d) = absurd (true≢false (ap is_stop (sym last.1 ∙ d.4)))

-- a command that reads once, and writes nothing
module _ (name : List ℕ) (max : ℕ) (more : Exit) (on : List ℕ → Stage Effect) (each : (b : List ℕ) → is_read (on b) ≡ false) (silent : (b : List ℕ) → change_at (on b) ≡ None) where
  pub went_on-silent : (given : Given) → change_at (went_on texts name more on given) ≡ None
  went_on-silent (whole b) = silent b
  went_on-silent missing = refl
  went_on-silent too_long = refl
  went_on-silent failed = refl
  went_on-silent no_memory = refl

  pub record EndedOnce (events : List Event) (exit : Exit) : Type 0 where
    pub given : Given
    pub is : events ≡ was_read name max given ∷ []
    pub ends : exit ≡ end_at (went_on texts name more on given)

  pub ended_once : (asked : List Event) (later : Stage Effect) (events : List Event) (exit : Exit) → Follows texts asked (reads name max more on) later → is_read later ≡ false
      → ((events ≡ asked) × (exit ≡ end_at later) × (change_at later ≡ None))
      ⊎ ((text : List ℕ) × (to : List ℕ) × (bytes : List ℕ) × (answer : Put) × (later ≡ gives (record { text = text; change = Some (to, bytes) }))
      × (events ≡ asked ++ was_written to bytes answer ∷ []) × (exit ≡ written_exit texts to text answer)) → EndedOnce events exit
  ended_once asked later events exit follows ended (inl d) =
      let r = read_once name max more on each asked later ended follows in
      record { given = r.given; is = d.0 ∙ r.is; ends = d.1 ∙ ap end_at r.goes }
  ended_once asked later events exit follows ended (inr d) =
      let r = read_once name max more on each asked later ended follows in
      let none : None ≡ Some (d.1, d.2) = sym (went_on-silent r.given) ∙ ap change_at (sym r.goes) ∙ ap change_at d.4 in
      absurd (true≢false (sym (ap is_some none)))

-- where the command stops behind its first read
pub stopped_there : (exit' : Exit) (rest : List Event) (later : Stage Effect) (first : Event) (events asked : List Event) (exit : Exit) → asked ≡ first ∷ rest
    → (s : Stage Effect) → s ≡ stops exit' → Follows texts rest s later
    → ((events ≡ asked) × (exit ≡ end_at later) × (change_at later ≡ None))
    ⊎ ((text : List ℕ) × (to : List ℕ) × (bytes : List ℕ) × (answer : Put) × (later ≡ gives (record { text = text; change = Some (to, bytes) }))
    × (events ≡ asked ++ was_written to bytes answer ∷ []) × (exit ≡ written_exit texts to text answer)) → (events ≡ first ∷ []) × (exit ≡ exit')
stopped_there exit' rest later first events asked exit is s stop follows does = by does
  where
    last : (rest ≡ []) × (later ≡ s)
    last = no_read s (ap is_read stop) rest later follows

    by : ((events ≡ asked) × (exit ≡ end_at later) × (change_at later ≡ None))
        ⊎ ((text : List ℕ) × (to : List ℕ) × (bytes : List ℕ) × (answer : Put) × (later ≡ gives (record { text = text; change = Some (to, bytes) }))
        × (events ≡ asked ++ was_written to bytes answer ∷ []) × (exit ≡ written_exit texts to text answer)) → (events ≡ first ∷ []) × (exit ≡ exit')
    by (inl d) = (d.0 ∙ is ∙ ap (λ es. first ∷ es) last.0, d.1 ∙ ap end_at (last.1 ∙ stop))
    by (inr d) = absurd (true≢false (ap is_stop (sym (last.1 ∙ stop) ∙ d.4)))

-- a stage that reads nothing gives a value, or stops
pub shape : {A : Type 0} (s : Stage A) → is_read s ≡ false → ((x : A) × (s ≡ gives x)) ⊎ ((exit : Exit) × (s ≡ stops exit))
shape (stops exit) none = inr (exit, refl)
shape (gives x) none = inl (x, refl)
shape (reads name max more on) none = absurd (true≢false none)

-- what the only read gave are bytes
pub given_bytes : (name : List ℕ) (max : ℕ) (given : Given) (rest events : List Event) (f g : FilesState) → events ≡ was_read name max given ∷ rest → Happens events f g → AreOctets given
given_bytes name max given rest events f g is h = let at : Happens (was_read name max given ∷ rest) f g = subst (λ es. Happens es f g) is h in at.2

-- what the second read behind another gave are bytes
pub second_bytes : (name other : List ℕ) (max most : ℕ) (first given : Given) (events : List Event) (f g : FilesState)
    → events ≡ was_read name max first ∷ was_read other most given ∷ [] → Happens events f g → AreOctets given
second_bytes name other max most first given events f g is h =
    let at : Happens (was_read name max first ∷ was_read other most given ∷ []) f g = subst (λ es. Happens es f g) is h in at.3.2

-- the event that was first asked for is the first
pub first_event : (stage : Stage Effect) (events : List Event) (exit : Exit) (e : Ended stage events exit) (first : Event) (rest : List Event)
    → e.asked ≡ first ∷ rest → (more : List Event) × (events ≡ first ∷ more)
first_event stage events exit e first rest is = by e.does
  where
    by : ((events ≡ e.asked) × (exit ≡ end_at e.later) × (change_at e.later ≡ None))
        ⊎ ((text : List ℕ) × (to : List ℕ) × (bytes : List ℕ) × (answer : Put) × (e.later ≡ gives (record { text = text; change = Some (to, bytes) }))
        × (events ≡ e.asked ++ was_written to bytes answer ∷ []) × (exit ≡ written_exit texts to text answer))
        → (more : List Event) × (events ≡ first ∷ more)
    by (inl d) = (rest, d.0 ∙ is)
    by (inr d) = (rest ++ was_written d.1 d.2 d.3 ∷ [], d.5 ∙ ap (λ es. es ++ was_written d.1 d.2 d.3 ∷ []) is)

-- what it gave are as many bytes as were asked for
pub given_short : (name : List ℕ) (max : ℕ) (b : List ℕ) (rest events : List Event) (f g : FilesState) → events ≡ was_read name max (whole b) ∷ rest
    → Happens events f g → length b ≤ max
given_short name max b rest events f g is h =
    let at : Happens (was_read name max (whole b) ∷ rest) f g = subst (λ es. Happens es f g) is h in at.1.within

-- a command that asks for nothing
pub asks_nothing : (s : Stage Effect) → is_read s ≡ false → change_at s ≡ None
    → (events : List Event) (exit : Exit) → Ended s events exit
    → (events ≡ []) × (exit ≡ end_at s)
asks_nothing s none silent events exit e = by e.does
  where
    last : (e.asked ≡ []) × (e.later ≡ s)
    last = no_read s none e.asked e.later e.follows

    by : ((events ≡ e.asked) × (exit ≡ end_at e.later) × (change_at e.later ≡ None))
        ⊎ ((text : List ℕ) × (to : List ℕ) × (bytes : List ℕ) × (answer : Put)
        × (e.later ≡ gives (record { text = text; change = Some (to, bytes) }))
        × (events ≡ e.asked ++ was_written to bytes answer ∷ [])
        × (exit ≡ written_exit texts to text answer))
        → (events ≡ []) × (exit ≡ end_at s)
    by (inl d) = (d.0 ∙ last.0, d.1 ∙ ap end_at last.1)
    by (inr d) =
        let none : None ≡ Some (d.1, d.2) = sym silent ∙ ap change_at (sym last.1 ∙ d.4) in
        absurd (true≢false (sym (ap is_some none)))

-- ---- check

-- what the gate finds, by its laws
pub record GateLaws : Type 0 where
  pub accepted : AcceptedFirst
  pub refusals : RefusedFirst

module _ (gate : GateLaws) (under : PolicyView) where
  -- what `check` goes on with
  abbrev pub judged_by : Option Refusal → Stage Effect
  judged_by r = stops_if_refused r >>= λ accepted. printing accepted_line

  pub judged_by-ended : (r : Option Refusal) → is_read (judged_by r) ≡ false
  judged_by-ended None = refl
  judged_by-ended (Some refusal) = refl

  pub judged_by-silent : (r : Option Refusal) → change_at (judged_by r) ≡ None
  judged_by-silent None = refl
  judged_by-silent (Some refusal) = refl

  -- what is accepted is so with every lemma written out
  written : (b : List ℕ) → IsAccepted under b → IsAcceptedWrittenOut under b
  written b a = record {
    contents = a.contents;
    code = a.code;
    marks = a.marks;
    accepts = accepted-written under b a.contents a.code a.marks a.accepts;
  }

  unwritten : (b : List ℕ) → IsAcceptedWrittenOut under b → IsAccepted under b
  unwritten b w = record {
    contents = w.contents;
    code = w.code;
    marks = w.marks;
    accepts = written-accepted under b w.contents w.code w.marks w.accepts;
  }

  pub verdict : (b : List ℕ) → IsBytes b → (r : Option Refusal) → first_refusal under b ≡ r
      → IsFirstVerdict under b (end_at (judged_by r))
  verdict b held None is =
      let a : IsAccepted under b = (gate.accepted under b held).1 is in
      record {
        verdict = record {
          accepted = (λ e. a, λ a. refl);
          written_out = (λ e. written b a, λ w. refl);
          judged = inl a;
        };
        refused = λ r first. let none : None ≡ Some r = sym is ∙ (gate.refusals under b r held).1 first in absurd (cc);
        judged = inl a;
      }
  verdict b held (Some r) is = record {
    verdict = record {
      accepted = (
        λ e. let wrong : 1 ≡ 0 = ap (λ (x : Exit). x.status) e in absurd (omega arith),
        λ a. let none : Some r ≡ None = sym is ∙ (gate.accepted under b held).0 a in absurd (cc),
      );
      written_out = (
        λ e. let wrong : 1 ≡ 0 = ap (λ (x : Exit). x.status) e in absurd (omega arith),
        λ w.
            let a : IsAccepted under b = unwritten b w in
            let none : Some r ≡ None = sym is ∙ (gate.accepted under b held).0 a in
            absurd (cc),
      );
      judged = inr (r, refl);
    };
    refused = λ other first.
        ap (λ (x : Option Refusal). end_at (judged_by x)) (sym is ∙ (gate.refusals under b other held).1 first);
    judged = inr (r, (gate.refusals under b r held).0 is);
  }

  pub judged_as : (file : List ℕ) (given : Given) → AreOctets given
      → IsJudged IsFirstVerdict under file given
      (end_at
      (went_on texts file (refused container_too_long_line) (λ b. judged_by (first_refusal under b))
      given))
  judged_as file (whole b) held = verdict b held (first_refusal under b) refl
  judged_as file missing held = refl
  judged_as file too_long held = refl
  judged_as file failed held = refl
  judged_as file no_memory held = refl

  pub checks : (file : List ℕ) (events : List Event) (exit : Exit) (f g : FilesState) → Happens events f g
      → Ended
      (reads file MAX_FILE (refused container_too_long_line)
      (λ b. judged_by (first_refusal under b))) events exit
      → Checks IsFirstVerdict under file events exit
  checks file events exit f g happened e =
      let once = ended_once file MAX_FILE (refused container_too_long_line)
      (λ b. judged_by (first_refusal under b)) (λ b. judged_by-ended (first_refusal under b))
      (λ b. judged_by-silent (first_refusal under b))
      e.asked e.later events exit e.follows e.ended e.does in
      record {
        given = once.given;
        one_read = once.is;
        judged =
            subst (IsJudged IsFirstVerdict under file once.given) (sym once.ends)
            (judged_as file once.given
            (given_bytes file MAX_FILE once.given [] events f g once.is happened));
      }
