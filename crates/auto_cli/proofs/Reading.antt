-- Reads that lead a stage to a value.
use Rattle.std.proofs.Common.{◌≡◌, ℕ, Bool, true, false, List, [], ◌∷◌, ◌++◌, refl, sym, ap, ◌∙◌, subst}
use Rattle.std.proofs.lemmas.Bool.{false≢true}
use Rattle.file_port.specs.Events.{Given, whole, missing, too_long, failed, no_memory, Event, was_read, was_written, was_put}
use Rattle.pcc_stages.specs.Exits.{Exit}
use Rattle.pcc_stages.specs.Stage.{Stage, stops, gives, reads, ◌>>=◌, went_on, Asks, Follows}
use Rattle.pcc_stages.specs.Texts.{texts, texts_with}
use Rattle.pcc_stages.proofs.RunLemmas.{is_read, no_stop, follows_stop}
use Rattle.pcc_stages.proofs.StageLemmas.{went_on-bind}

-- ---- events

-- what a first read gave
abbrev given_at : List Event → Given
given_at [] = missing
given_at (was_read name max given ∷ events) = given
given_at (was_written name bytes answer ∷ events) = missing
given_at (was_put piece answer ∷ events) = missing

-- the first event, or this one
abbrev event_at : Event → List Event → Event
event_at default [] = default
event_at default (event ∷ events) = event

-- the events behind the first
abbrev events_behind : List Event → List Event
events_behind [] = []
events_behind (event ∷ events) = events

-- whether there are any
abbrev has_event : List Event → Bool
has_event [] = false
has_event (event ∷ events) = true

-- ---- stages

-- where a stage goes on behind a read that gave this
abbrev goes_at : {A : Type 0} → Stage A → Given → Stage A
goes_at (stops exit) given = stops exit
goes_at (gives x) given = gives x
goes_at (reads name max more on) given = went_on texts name more on given

-- the value that a stage gives, or this one
abbrev value_at : {A : Type 0} → A → Stage A → A
value_at default (stops exit) = default
value_at default (gives x) = x
value_at default (reads name max more on) = default

module _ {A : Type 0} where
  same_gift : (x y : A) → gives x ≡ gives y → x ≡ y
  same_gift x y e = ap (value_at x) e

  no_read : (x : A) (name : List ℕ) (max : ℕ) (more : Exit) (on : List ℕ → Stage A)
      → gives x ≡ reads name max more on → ⊥
  no_read x name max more on e = false≢true (ap is_read e)

  -- where a stage goes on that asks for a read
  goes_on : (name : List ℕ) (max : ℕ) (given : Given) (s next : Stage A)
      → Asks texts name max given s next → next ≡ goes_at s given
  goes_on name max given s next h = h.goes ∙ sym (ap (λ t. goes_at t given) h.asks)

  -- two reads of one stage that gave the same lead to one stage
  one_next : (n m : List ℕ) (p q : ℕ) (g h : Given) (s x y : Stage A) → Asks texts n p g s x
      → Asks texts m q h s y → g ≡ h → y ≡ x
  one_next n m p q g h s x y a b same =
      goes_on m q h s y b ∙ sym (ap (goes_at s) same) ∙ sym (goes_on n p g s x a)

  -- an end reads no more
  no_more : (s : Stage A) (name : List ℕ) (max : ℕ) (more : Exit) (on : List ℕ → Stage A) → is_read s ≡ false
      → s ≡ reads name max more on → ⊥
  no_more s name max more on last e = false≢true (sym last ∙ ap is_read e)

  -- reads that lead to ends, and are the beginnings of one list, are the same and lead to one end
  pub one_end : (a b c d : List Event) (s y z : Stage A) → is_read y ≡ false → is_read z ≡ false
      → Follows texts a s y → Follows texts b s z → a ++ c ≡ b ++ d → (y ≡ z) × (a ≡ b)
  one_end [] [] c d s y z p q h k e = (h ∙ sym k, refl)
  one_end [] (was_read n m g ∷ b) c d s y z p q h k e =
      absurd (no_more y n m k.1.more k.1.on p (h ∙ k.1.asks))
  one_end [] (was_written n bytes answer ∷ b) c d s y z p q h k e = absurd k
  one_end [] (was_put piece answer ∷ b) c d s y z p q h k e = absurd k
  one_end (was_read n m g ∷ a) [] c d s y z p q h k e =
      absurd (no_more z n m h.1.more h.1.on q (k ∙ h.1.asks))
  one_end (was_read n m g ∷ a) (was_read n2 m2 g2 ∷ b) c d s y z p q h k e =
      let same : k.0 ≡ h.0 = one_next n n2 m m2 g g2 s h.0 k.0 h.1 k.1 (ap given_at e) in
      let rest = one_end a b c d h.0 y z p q h.2 (subst (λ t. Follows texts b t z) same k.2)
      (ap events_behind e) in
      (rest.0, ap (λ x. x ∷ a) (ap (event_at (was_read n m g)) e) ∙ ap (λ l. was_read n2 m2 g2 ∷ l) rest.1)
  one_end (was_read n m g ∷ a) (was_written n2 bytes answer ∷ b) c d s y z p q h k e = absurd k
  one_end (was_read n m g ∷ a) (was_put piece answer ∷ b) c d s y z p q h k e = absurd k
  one_end (was_written n bytes answer ∷ a) b c d s y z p q h k e = absurd h
  one_end (was_put piece answer ∷ a) b c d s y z p q h k e = absurd h

  -- so values that they lead to are one
  pub one_gift : (a b c d : List Event) (s : Stage A) (x y : A) → Follows texts a s (gives x)
      → Follows texts b s (gives y) → a ++ c ≡ b ++ d → x ≡ y
  one_gift a b c d s x y h k e = same_gift x y (one_end a b c d s (gives x) (gives y) refl refl h k e).0

  -- a stage that was led to a value by some of its reads gives that behind all of them
  pub gift_is_last : (asked rest events : List Event) (s l : Stage A) (x : A)
      → Follows texts events s l → Follows texts asked s (gives x) → events ≡ asked ++ rest
      → l ≡ gives x
  gift_is_last [] rest [] s l x f k e = f ∙ sym k
  gift_is_last [] rest (was_read n p g ∷ events) s l x f k e =
      absurd (no_read x n p f.1.more f.1.on (k ∙ f.1.asks))
  gift_is_last [] rest (was_written n bytes answer ∷ events) s l x f k e = absurd f
  gift_is_last [] rest (was_put piece answer ∷ events) s l x f k e = absurd f
  gift_is_last (was_read m q g2 ∷ asked) rest [] s l x f k e =
      absurd (false≢true (ap has_event e))
  gift_is_last (was_read m q g2 ∷ asked) rest (was_read n p g ∷ events) s l x f k e =
      let same : k.0 ≡ f.0 = one_next n m p q g g2 s f.0 k.0 f.1 k.1 (ap given_at e) in
      gift_is_last asked rest events f.0 l x f.2
      (subst (λ t. Follows texts asked t (gives x)) same k.2) (ap events_behind e)
  gift_is_last (was_read m q g2 ∷ asked) rest (was_written n bytes answer ∷ events) s l x f k e =
      absurd f
  gift_is_last (was_read m q g2 ∷ asked) rest (was_put piece answer ∷ events) s l x f k e = absurd f
  gift_is_last (was_written m bytes answer ∷ asked) rest events s l x f k e = absurd k
  gift_is_last (was_put piece answer ∷ asked) rest events s l x f k e = absurd k

  -- a stage that stops gives nothing
  pub no_gift : (asked : List Event) (exit : Exit) (x : A) → Follows texts asked (stops exit) (gives x)
      → ⊥
  no_gift asked exit x h = no_stop x exit (follows_stop texts exit asked (gives x) h).1

-- ---- a stage behind another

module _ {A B : Type 0} (b : A → Stage B) where
  -- the reads of the second stage, among those of both
  pub record IsBehind (first asked : List Event) (y : A) (x : B) : Type 0 where
    pub more : List Event
    pub parts : asked ≡ first ++ more
    pub follows : Follows texts more (b y) (gives x)

  -- where a stage and another behind it go on
  bind_next : (name : List ℕ) (max : ℕ) (given : Given) (s next : Stage A)
      → Asks texts name max given s next → goes_at (s >>= b) given ≡ (next >>= b)
  bind_next name max given s next h =
      ap (λ t. goes_at (t >>= b) given) h.asks ∙ sym (went_on-bind b name h.more h.on given)
      ∙ sym (ap (λ t. t >>= b) h.goes)

  -- reads that lead both to a value begin with those that lead the first to one
  pub behind_gift : (first asked k rest : List Event) (s : Stage A) (y : A) (x : B)
      → Follows texts first s (gives y) → Follows texts asked (s >>= b) (gives x)
      → first ++ k ≡ asked ++ rest → IsBehind first asked y x
  behind_gift [] asked k rest s y x f h e = record {
    more = asked;
    parts = refl;
    follows = subst (λ t. Follows texts asked (t >>= b) (gives x)) (sym f) h;
  }
  behind_gift (was_read n p g ∷ first) [] k rest s y x f h e =
      absurd (no_read x n p f.1.more (λ z. f.1.on z >>= b) (h ∙ ap (λ t. t >>= b) f.1.asks))
  behind_gift (was_read n p g ∷ first) (was_read m q g2 ∷ asked) k rest s y x f h e =
      let same : h.0 ≡ (f.0 >>= b) =
      goes_on m q g2 (s >>= b) h.0 h.1 ∙ sym (ap (goes_at (s >>= b)) (ap given_at e))
      ∙ bind_next n p g s f.0 f.1 in
      let r = behind_gift first asked k rest f.0 y x f.2
      (subst (λ t. Follows texts asked t (gives x)) same h.2) (ap events_behind e) in
      record {
        more = r.more;
        parts =
            ap (λ z. z ∷ asked) (sym (ap (event_at (was_read n p g)) e))
            ∙ ap (λ l. was_read n p g ∷ l) r.parts;
        follows = r.follows;
      }
  behind_gift (was_read n p g ∷ first) (was_written m bytes answer ∷ asked) k rest s y x f h e =
      absurd h
  behind_gift (was_read n p g ∷ first) (was_put piece answer ∷ asked) k rest s y x f h e = absurd h
  behind_gift (was_written n bytes answer ∷ first) asked k rest s y x f h e = absurd f
  behind_gift (was_put piece answer ∷ first) asked k rest s y x f h e = absurd f

-- ---- a program with another line of usage

module _ (usage : List ℕ) {A : Type 0} where
  went_back : (name : List ℕ) (more : Exit) (on : List ℕ → Stage A) (given : Given)
      → went_on (texts_with usage) name more on given ≡ went_on texts name more on given
  went_back name more on (whole b) = refl
  went_back name more on missing = refl
  went_back name more on too_long = refl
  went_back name more on failed = refl
  went_back name more on no_memory = refl

  -- its reads are those of pcc
  pub follows_back : (events : List Event) (stage later : Stage A)
      → Follows (texts_with usage) events stage later → Follows texts events stage later
  follows_back [] stage later is = is
  follows_back (was_read name max given ∷ events) stage later h = (
    h.0,
    record {
      more = h.1.more;
      on = h.1.on;
      asks = h.1.asks;
      goes = h.1.goes ∙ went_back name h.1.more h.1.on given;
    },
    follows_back events h.0 later h.2,
  )
  follows_back (was_written name bytes answer ∷ events) stage later h = absurd h
  follows_back (was_put piece answer ∷ events) stage later h = absurd h
