-- What the reads of a stage say of those that it is made of.
use Rattle.std.proofs.Common.{◌≡◌, ℕ, ◌<◌, false, List, [], ◌∷◌, ◌++◌, Some, refl, sym, ap, ◌∙◌, subst, arith, true≢false, inl, inr}
use Rattle.file_port.specs.Events.{whole, missing, too_long, failed, no_memory, Event, was_read, was_written, was_put}
use Rattle.pcc_stages.specs.Exits.{Exit}
use Rattle.pcc_stages.specs.Requests.{Texts, Standing, missing_exit, read_fault_exit, no_memory_exit}
use Rattle.pcc_stages.specs.Stage.{Stage, stops, gives, reads, ◌>>=◌, Follows}
use Rattle.pcc_stages.specs.Runs.{IsSuited}
use Rattle.pcc_stages.proofs.RunLemmas.{is_read, no_stop, follows_stop}

-- ---- what a stage is

abbrev value_at : {A : Type 0} → A → Stage A → A
value_at other (gives x) = x
value_at other s = other

abbrev name_at : {A : Type 0} → Stage A → List ℕ
name_at (reads name max more on) = name
name_at s = []

abbrev max_at : {A : Type 0} → Stage A → ℕ
max_at (reads name max more on) = max
max_at s = 0

abbrev on_at : {A : Type 0} → Stage A → List ℕ → Stage A
on_at (reads name max more on) b = on b
on_at s b = s

abbrev exit_at : {A : Type 0} → Exit → Stage A → Exit
exit_at other (stops exit) = exit
exit_at other s = other

pub same-value : {A : Type 0} (x y : A) → gives x ≡ gives y → x ≡ y
same-value x y e = ap (value_at x) e

no-read : {A B : Type 0} (s : Stage A) (name : List ℕ) (max : ℕ) (more : Exit) (on : List ℕ → Stage A) → is_read s ≡ false
    → s ≡ reads name max more on → B
no-read s name max more on none e = absurd (true≢false (sym (ap is_read e) ∙ none))

-- a stage that gives the value that two make together
pub record Joined {A B : Type 0} (next : A → Stage B) (x : B) (s : Stage A) : Type 0 where
  pub value : A
  pub first : s ≡ gives value
  pub second : next value ≡ gives x

pub joined : {A B : Type 0} (next : A → Stage B) (x : B) (s : Stage A) → (s >>= next) ≡ gives x → Joined next x s
joined next x (stops exit) e = absurd (no_stop x exit (sym e))
joined next x (gives y) e = record { value = y; first = refl; second = e }
joined next x (reads name max more on) e = no-read (gives x) name max more (λ b. on b >>= next) refl (sym e)

module _ (texts : Texts) {A : Type 0} where
  -- after a value nothing is read
  pub follows-gives : (y : A) (events : List Event) (later : Stage A) → Follows texts events (gives y) later → (events ≡ []) × (later ≡ gives y)
  follows-gives y [] later h = (refl, h)
  follows-gives y (was_read name max given ∷ events) later h = no-read (gives y) name max h.1.more h.1.on refl h.1.asks
  follows-gives y (was_written name bytes answer ∷ events) later h = absurd h
  follows-gives y (was_put piece answer ∷ events) later h = absurd h

  -- a stop gives nothing
  pub stopped-none : {C : Type 0} (exit : Exit) (x : A) (s : Stage A) (events : List Event) → s ≡ stops exit → Follows texts events s (gives x) → C
  stopped-none exit x s events is h =
      absurd (no_stop x exit (follows_stop texts exit events (gives x) (subst (λ s. Follows texts events s (gives x)) is h)).1)

  -- one file is read, and given
  pub one-read : (name : List ℕ) (max : ℕ) (more : Exit) (on : List ℕ → A) (x : A) (events : List Event)
      → Follows texts events (reads name max more (λ b. gives (on b))) (gives x)
      → (b : List ℕ) × (events ≡ was_read name max (whole b) ∷ []) × (x ≡ on b)
  one-read name max more on x [] h = no-read (gives x) name max more (λ b. gives (on b)) refl h
  one-read name max more on x (was_read name' max' (whole b) ∷ events) h =
      let there : h.0 ≡ gives (on b) = h.1.goes ∙ sym (ap (λ s. on_at s b) h.1.asks) in
      let ended = follows-gives (on b) events (gives x) (subst (λ s. Follows texts events s (gives x)) there h.2) in
      let same : was_read name' max' (whole b) ∷ events ≡ was_read name max (whole b) ∷ [] =
      ap (λ n. was_read n max' (whole b) ∷ events) (sym (ap name_at h.1.asks)) ∙ ap (λ m. was_read name m (whole b) ∷ events) (sym (ap max_at h.1.asks))
      ∙ ap (λ es. was_read name max (whole b) ∷ es) ended.0 in
      (b, same, same-value x (on b) ended.1)
  one-read name max more on x (was_read name' max' missing ∷ events) h = stopped-none (missing_exit texts name') x h.0 events h.1.goes h.2
  one-read name max more on x (was_read name' max' too_long ∷ events) h = stopped-none h.1.more x h.0 events h.1.goes h.2
  one-read name max more on x (was_read name' max' failed ∷ events) h = stopped-none (read_fault_exit texts name') x h.0 events h.1.goes h.2
  one-read name max more on x (was_read name' max' no_memory ∷ events) h = stopped-none no_memory_exit x h.0 events h.1.goes h.2
  one-read name max more on x (was_written name' bytes answer ∷ events) h = absurd h
  one-read name max more on x (was_put piece answer ∷ events) h = absurd h

  -- a stage that may read no file gives its value at once
  pub silent : (standing : Standing) (s : Stage A) (x : A) (events : List Event) → IsSuited texts standing (Some []) s → Follows texts events s (gives x)
      → (events ≡ []) × (s ≡ gives x)
  silent standing (stops exit) x events fits h = stopped-none exit x (stops exit) events refl h
  silent standing (gives y) x events fits h =
      let ended = follows-gives y events (gives x) h in
      (ended.0, sym ended.1)
  silent standing (reads name max more on) x events fits h =
      let low : fits.1.0 < 0 = fits.1.1 in
      absurd (omega (arith, low))

-- The reads of a stage, and of the one after it.
pub record Split (texts : Texts) {A B : Type 0} (next : A → Stage B) (x : B) (s : Stage A) (events : List Event) : Type 0 where
  pub value : A
  pub first : List Event
  pub rest : List Event
  pub is : events ≡ first ++ rest
  pub begins : Follows texts first s (gives value)
  pub goes_on : Follows texts rest (next value) (gives x)

module _ (texts : Texts) {A B : Type 0} (next : A → Stage B) (x : B) where
  -- with the read before them
  after-read : (name name' : List ℕ) (max max' : ℕ) (more : Exit) (on : List ℕ → Stage A) (b : List ℕ) (events : List Event) → name ≡ name' → max ≡ max'
      → Split texts next x (on b) events → Split texts next x (reads name max more on) (was_read name' max' (whole b) ∷ events)
  after-read name name' max max' more on b events n m p = record {
    value = p.value;
    first = was_read name' max' (whole b) ∷ p.first;
    rest = p.rest;
    is = ap (λ es. was_read name' max' (whole b) ∷ es) p.is;
    begins = (
      on b,
      record { more = more; on = on; asks = ap (λ y. reads y max more on) n ∙ ap (λ y. reads name' y more on) m; goes = refl },
      p.begins,
    );
    goes_on = p.goes_on;
  }

  pub split : (s : Stage A) (events : List Event) → Follows texts events (s >>= next) (gives x) → Split texts next x s events
  split (stops exit) events h = stopped-none texts exit x (stops exit) events refl h
  split (gives y) events h = record { value = y; first = []; rest = events; is = refl; begins = refl; goes_on = h }
  split (reads name max more on) [] h = no-read (gives x) name max more (λ b. on b >>= next) refl h
  split (reads name max more on) (was_read name' max' (whole b) ∷ events) h =
      let there : h.0 ≡ (on b >>= next) = h.1.goes ∙ sym (ap (λ s. on_at s b) h.1.asks) in
      after-read name name' max max' more on b events (ap name_at h.1.asks) (ap max_at h.1.asks)
      (split (on b) events (subst (λ s. Follows texts events s (gives x)) there h.2))
  split (reads name max more on) (was_read name' max' missing ∷ events) h = stopped-none texts (missing_exit texts name') x h.0 events h.1.goes h.2
  split (reads name max more on) (was_read name' max' too_long ∷ events) h = stopped-none texts h.1.more x h.0 events h.1.goes h.2
  split (reads name max more on) (was_read name' max' failed ∷ events) h = stopped-none texts (read_fault_exit texts name') x h.0 events h.1.goes h.2
  split (reads name max more on) (was_read name' max' no_memory ∷ events) h = stopped-none texts no_memory_exit x h.0 events h.1.goes h.2
  split (reads name max more on) (was_written name' bytes answer ∷ events) h = absurd h
  split (reads name max more on) (was_put piece answer ∷ events) h = absurd h

-- ---- stops

module _ (texts : Texts) (standing : Standing) (names : List (List ℕ)) {A : Type 0} where
  some-at : (s : Stage A) (exit : Exit) → s ≡ stops exit → IsSuited texts standing (Some names) s → 0 < exit.status
  some-at s exit is fits =
      elim (subst (λ (y : Stage A). IsSuited texts standing (Some names) y) is fits) [
        | inl stop ↦ stop.some
        | inr memory ↦ subst (λ (y : Exit). 0 < y.status) (sym memory) (omega arith)
      ]

  -- the exit after a stop
  some-after : (s : Stage A) (exit other : Exit) (events : List Event) → s ≡ stops other → 0 < other.status → Follows texts events s (stops exit)
      → 0 < exit.status
  some-after s exit other events is some h =
      let ended = follows_stop texts other events (stops exit) (subst (λ s. Follows texts events s (stops exit)) is h) in
      let same : exit ≡ other = ap (exit_at exit) ended.1 in
      subst (λ (y : Exit). 0 < y.status) (sym same) some

  -- where a suited stage stops, the status isn't 0
  pub stops-with-some : (s : Stage A) (exit : Exit) (events : List Event) → IsSuited texts standing (Some names) s → Follows texts events s (stops exit)
      → 0 < exit.status
  stops-with-some s exit [] fits h = some-at s exit (sym h) fits
  stops-with-some s exit (was_read name max (whole b) ∷ events) fits h =
      let there = subst (λ (y : Stage A). IsSuited texts standing (Some names) y) h.1.asks fits in
      stops-with-some h.0 exit events (subst (λ (y : Stage A). IsSuited texts standing (Some names) y) (sym h.1.goes) (there.3 b)) h.2
  stops-with-some s exit (was_read name max missing ∷ events) fits h =
      some-after h.0 exit (missing_exit texts name) events h.1.goes (omega arith) h.2
  stops-with-some s exit (was_read name max too_long ∷ events) fits h =
      let there = subst (λ (y : Stage A). IsSuited texts standing (Some names) y) h.1.asks fits in
      some-after h.0 exit h.1.more events h.1.goes there.2.some h.2
  stops-with-some s exit (was_read name max failed ∷ events) fits h =
      some-after h.0 exit (read_fault_exit texts name) events h.1.goes (omega arith) h.2
  stops-with-some s exit (was_read name max no_memory ∷ events) fits h = some-after h.0 exit no_memory_exit events h.1.goes (omega arith) h.2
  stops-with-some s exit (was_written name bytes answer ∷ events) fits h = absurd h
  stops-with-some s exit (was_put piece answer ∷ events) fits h = absurd h
