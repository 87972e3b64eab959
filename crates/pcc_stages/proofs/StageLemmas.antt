-- What the code of stages answers, one behind another.
use Rattle.std.proofs.Common.{◌≡◌, ℕ, List, [], ◌∷◌, ◌++◌, Option, Some, None, Result, Ok, Err, refl, sym, ap, ◌∙◌, subst, append_assoc}
use Rattle.std.proofs.lemmas.List.{append-nil}
use mathlib.Core.Path.{fun_ext}
use Rattle.std.specs.Result.{IsErrAnd}
use Rattle.file_port.specs.Events.{Given, whole, missing, too_long, failed, no_memory, Event, was_read, was_written, was_put}
use Rattle.file_port.specs.Files.{FilesState}
use Rattle.file_port.specs.Files.{Reads}
use Rattle.pcc_stages.specs.Exits.{Exit}
use Rattle.pcc_stages.specs.Stage.{Stage, stops, gives, reads, ◌>>=◌, went_on, Asks, Follows}
use Rattle.pcc_stages.specs.Runs.{AreOctets, Happens, NoneFailed}
use Rattle.pcc_stages.specs.Texts.{texts}
use Rattle.pcc_stages.specs.Stops.{end_of}
use Rattle.pcc_stages.specs.Answers.{StopsAs, GivesPure, IsClean, IsCleanFor, Gives}
use Rattle.pcc_stages.specs.declared.stops.Stop.{Stop}

-- ---- events one behind another

pub follows-join : {A : Type 0} (first rest : List Event) (s m l : Stage A) → Follows texts first s m → Follows texts rest m l → Follows texts (first ++ rest) s l
follows-join [] rest s m l is h = subst (λ x. Follows texts rest x l) is h
follows-join (was_read name max given ∷ first) rest s m l f h = (f.0, f.1, follows-join first rest f.0 m l f.2 h)
follows-join (was_written name bytes answer ∷ first) rest s m l f h = absurd f
follows-join (was_put piece answer ∷ first) rest s m l f h = absurd f

pub happens-join : (first rest : List Event) (f m g : FilesState) → Happens first f m → Happens rest m g → Happens (first ++ rest) f g
happens-join [] rest f m g is h = subst (λ x. Happens rest x g) is h
happens-join (was_read name max given ∷ first) rest f m g p h = (p.0, p.1, p.2, happens-join first rest p.0 m g p.3 h)
happens-join (was_written name bytes answer ∷ first) rest f m g p h = (p.0, p.1, happens-join first rest p.0 m g p.2 h)
happens-join (was_put piece answer ∷ first) rest f m g p h = absurd p

pub none_failed-join : (first rest : List Event) → NoneFailed first → NoneFailed rest → NoneFailed (first ++ rest)
none_failed-join [] rest p h = h
none_failed-join (was_read name max (whole b) ∷ first) rest p h = none_failed-join first rest p h
none_failed-join (was_read name max missing ∷ first) rest p h = none_failed-join first rest p h
none_failed-join (was_read name max too_long ∷ first) rest p h = none_failed-join first rest p h
none_failed-join (was_read name max failed ∷ first) rest p h = absurd p
none_failed-join (was_read name max no_memory ∷ first) rest p h = none_failed-join first rest p h
none_failed-join (was_written name bytes answer ∷ first) rest p h = absurd p
none_failed-join (was_put piece answer ∷ first) rest p h = absurd p

-- ---- a stage, and what comes after its value

pub bind-assoc : {A B C : Type 0} (s : Stage A) (f : A → Stage B) (g : B → Stage C) → ((s >>= f) >>= g) ≡ (s >>= λ x. f x >>= g)
bind-assoc (stops exit) f g = refl
bind-assoc (gives x) f g = refl
bind-assoc (reads name max more on) f g = ap (reads name max more) (fun_ext (λ b. bind-assoc (on b) f g))

pub bind-gives : {A : Type 0} (s : Stage A) → (s >>= λ x. gives x) ≡ s
bind-gives (stops exit) = refl
bind-gives (gives x) = refl
bind-gives (reads name max more on) = ap (reads name max more) (fun_ext (λ b. bind-gives (on b)))

module _ {A B : Type 0} (next : A → Stage B) where
  pub went_on-bind : (name : List ℕ) (more : Exit) (on : List ℕ → Stage A) (given : Given)
      → (went_on texts name more on given >>= next) ≡ went_on texts name more (λ b. on b >>= next) given
  went_on-bind name more on (whole b) = refl
  went_on-bind name more on missing = refl
  went_on-bind name more on too_long = refl
  went_on-bind name more on failed = refl
  went_on-bind name more on no_memory = refl

  pub follows-bind : (events : List Event) (s l : Stage A) → Follows texts events s l → Follows texts events (s >>= next) (l >>= next)
  follows-bind [] s l is = ap (λ x. x >>= next) is
  follows-bind (was_read name max given ∷ events) s l h =
      let asks : Asks texts name max given s h.0 = h.1 in (
        h.0 >>= next,
        record {
          more = asks.more;
          on = λ b. asks.on b >>= next;
          asks = ap (λ x. x >>= next) asks.asks;
          goes = ap (λ x. x >>= next) asks.goes ∙ went_on-bind name asks.more asks.on given;
        },
        follows-bind events h.0 l h.2,
      )
  follows-bind (was_written name bytes answer ∷ events) s l h = absurd h
  follows-bind (was_put piece answer ∷ events) s l h = absurd h

  stops-bind : (s : Stage A) (end : Option Exit) → StopsAs s end → StopsAs (s >>= next) end
  stops-bind s (Some exit) is = ap (λ x. x >>= next) is
  stops-bind s None is = tt

  -- ---- stages that read no file

  pub pure_stops : (s : Stage A) (why : Stop) → StopsAs s (end_of why) → StopsAs (s >>= next) (end_of why)
  pure_stops s why h = stops-bind s (end_of why) h

  pub pure_gives : {C : Type 0} (view : C → B) (s : Stage A) (x : A) → s ≡ gives x → (r : Result C Stop) → GivesPure view (next x) r → GivesPure view (s >>= next) r
  pure_gives view s x is r h = subst (λ stage. GivesPure view stage r) (sym (ap (λ y. y >>= next) is)) h

  -- ---- stages over files

  -- where the first stage stops, so do both
  pub stops_first : {C D : Type 0} (view : C → A) (later_view : D → B) (s : Stage A) (e e' : List Event) (f g : FilesState) (why : Stop) (r : Result D Stop)
      → Gives view s e e' f g (Err why) → IsErrAnd r (λ y. y ≡ why) → Gives later_view (s >>= next) e e' f g r
  stops_first view later_view s e e' f g why (Ok x) h is = absurd is
  stops_first view later_view s e e' f g why (Err other) h is = record {
    events = h.events;
    later = h.later >>= next;
    logged = h.logged;
    happened = h.happened;
    follows = follows-bind h.events s h.later h.follows;
    is = subst (λ y. StopsAs (h.later >>= next) (end_of y)) (sym is) (stops-bind h.later (end_of why) h.is);
    clean = subst (λ y. IsClean h.events (end_of y)) (sym is) h.clean;
  }

  clean-join : {D : Type 0} (first rest : List Event) (r : Result D Stop) → NoneFailed first → IsCleanFor rest r → IsCleanFor (first ++ rest) r
  clean-join first rest (Ok x) p h = none_failed-join first rest p h
  clean-join first rest (Err why) p h = ended (end_of why) h
    where
      ended : (end : Option Exit) → IsClean rest end → IsClean (first ++ rest) end
      ended (Some exit) q = tt
      ended None q = none_failed-join first rest p q

  -- where it gives a value, the next has the answer
  pub gives_then : {C D : Type 0} (view : C → A) (later_view : D → B) (s : Stage A) (e m e' : List Event) (f n g : FilesState) (x : C) (r : Result D Stop)
      → Gives view s e m f n (Ok x) → Gives later_view (next (view x)) m e' n g r → Gives later_view (s >>= next) e e' f g r
  gives_then view later_view s e m e' f n g x r h k = record {
    events = h.events ++ k.events;
    later = k.later;
    logged = k.logged ∙ ap (λ l. l ++ k.events) h.logged ∙ append_assoc e h.events k.events;
    happened = happens-join h.events k.events f n g h.happened k.happened;
    follows = follows-join h.events k.events (s >>= next) (next (view x)) k.later
        (subst (λ l. Follows texts h.events (s >>= next) l) (ap (λ y. y >>= next) h.is) (follows-bind h.events s h.later h.follows)) k.follows;
    is = k.is;
    clean = clean-join h.events k.events r h.clean k.clean;
  }

-- a stage that reads no file, as one over files
pub lifted : {A C : Type 0} (view : C → A) (s : Stage A) (e : List Event) (f : FilesState) (r : Result C Stop) → GivesPure view s r → Gives view s e e f f r
lifted view s e f r h = record {
  events = [];
  later = s;
  logged = sym (append-nil e);
  happened = refl;
  follows = refl;
  is = h;
  clean = nothing r;
}
  where
    nothing : {C : Type 0} (r : Result C Stop) → IsCleanFor [] r
    nothing (Ok x) = tt
    nothing (Err why) = ended (end_of why)
      where
        ended : (end : Option Exit) → IsClean [] end
        ended (Some exit) = tt
        ended None = tt

-- where a stage that reads no file stops, so do both
pub pure_stops_first : {A B D : Type 0} (next : A → Stage B) (later_view : D → B) (s : Stage A) (e : List Event) (f : FilesState) (why : Stop) (r : Result D Stop) → StopsAs s (end_of why)
    → IsErrAnd r (λ y. y ≡ why) → Gives later_view (s >>= next) e e f f r
pure_stops_first next later_view s e f why (Ok x) h is = absurd is
pure_stops_first next later_view s e f why (Err other) h is =
    lifted later_view (s >>= next) e f (Err other) (subst (λ y. StopsAs (s >>= next) (end_of y)) (sym is) (pure_stops next s why h))

-- one read
pub read_gives : {A C : Type 0} (view : C → A) (name : List ℕ) (max : ℕ) (more : Exit) (on : List ℕ → Stage A) (given : Given) (e e' : List Event) (f g : FilesState) (r : Result C Stop)
    → e' ≡ e ++ was_read name max given ∷ [] → Reads name max f g given → AreOctets given → GivesPure view (went_on texts name more on given) r
    → IsCleanFor (was_read name max given ∷ []) r → Gives view (reads name max more on) e e' f g r
read_gives view name max more on given e e' f g r logged read octets is clean = record {
  events = was_read name max given ∷ [];
  later = went_on texts name more on given;
  logged = logged;
  happened = (g, read, octets, refl);
  follows = (went_on texts name more on given, record { more = more; on = on; asks = refl; goes = refl }, refl);
  is = is;
  clean = clean;
}
