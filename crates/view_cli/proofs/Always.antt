-- What holds of each exit that a command may come to, by the reads that it asked for.
use Rattle.std.proofs.Common.{◌≡◌, true≢false, ℕ, ◌≤◌, false, List, [], ◌∷◌, ◌++◌, length, None, Some, refl, sym, ap, ◌∙◌, subst, is_some, arith}
use Rattle.file_port.specs.Events.{Given, whole, missing, too_long, failed, no_memory, Event, was_read, was_written, was_put}
use Rattle.file_port.specs.Files.{FilesState}
use Rattle.pcc_stages.specs.Exits.{Exit}
use Rattle.pcc_stages.specs.Requests.{Texts, missing_exit, read_fault_exit, no_memory_exit}
use Rattle.pcc_stages.specs.Stage.{Stage, stops, gives, reads, went_on, Follows}
use Rattle.pcc_stages.specs.Runs.{Effect, AreOctets, Happens, Comes, stopped, printed, wrote, done_exit}
use Rattle.pcc_stages.proofs.RunLemmas.{is_read}

module _ (texts : Texts) where
  -- P holds of each exit that the stage may come to, with the reads that it asks for on the way; it
  -- writes nothing
  abbrev pub Always : (List Event → Exit → Type 0) → Stage Effect → Type 0
  Always P (stops exit) = P [] exit
  Always P (gives effect) = (effect.change ≡ None) × P [] (done_exit effect.text)
  Always P (reads name max more on) =
      ((b : List ℕ) → AreOctets (whole b) → length b ≤ max
      → Always (λ es. P (was_read name max (whole b) ∷ es)) (on b))
      × P (was_read name max missing ∷ []) (missing_exit texts name)
      × P (was_read name max too_long ∷ []) more
      × P (was_read name max failed ∷ []) (read_fault_exit texts name)
      × P (was_read name max no_memory ∷ []) no_memory_exit

  -- what it says of the stage that is left behind these reads
  abbrev At : (List Event → Exit → Type 0) → List Event → Stage Effect → Type 0
  At P events (stops exit) = P events exit
  At P events (gives effect) = (effect.change ≡ None) × P events (done_exit effect.text)
  At P events (reads name max more on) = Unit {0}

  -- where a stage goes on behind a read that gave this
  abbrev behind_read : Stage Effect → Given → Stage Effect
  behind_read (stops exit) given = stops exit
  behind_read (gives effect) given = gives effect
  behind_read (reads name max more on) given = went_on texts name more on given

  -- the read that it asks for, where that gave this
  abbrev read_of : Stage Effect → Given → Event
  read_of (stops exit) given = was_read [] 0 given
  read_of (gives effect) given = was_read [] 0 given
  read_of (reads name max more on) given = was_read name max given

  -- what is left of a stage that asks for nothing
  at_rest : (P : List Event → Exit → Type 0) (s later : Stage Effect) (events : List Event)
      → is_read s ≡ false → Follows texts events s later → At P [] s → At P events later
  at_rest P s later [] none h p = subst (λ (x : Stage Effect). At P [] x) (sym h) p
  at_rest P s later (was_read name max given ∷ events) none h p =
      absurd (true≢false (sym (ap is_read h.1.asks) ∙ none))
  at_rest P s later (was_written name bytes answer ∷ events) none h p = absurd h
  at_rest P s later (was_put piece answer ∷ events) none h p = absurd h

  -- the same behind one more read
  behind : (P : List Event → Exit → Type 0) (x : Event) (events : List Event) (later : Stage Effect)
      → At (λ es. P (x ∷ es)) events later → At P (x ∷ events) later
  behind P x events (stops exit) p = p
  behind P x events (gives effect) p = p
  behind P x events (reads name max more on) p = tt

  -- a read behind which the command stops
  stopped_behind : (P : List Event → Exit → Type 0) (x : Event) (exit : Exit) (later : Stage Effect)
      (events : List Event) → Follows texts events (stops exit) later → P (x ∷ []) exit
      → At P (x ∷ events) later
  stopped_behind P x exit later events h p =
      behind P x events later (at_rest (λ es. P (x ∷ es)) (stops exit) later events refl h p)

  -- the limit of a read
  abbrev limit_of : Event → ℕ
  limit_of (was_read name max given) = max
  limit_of other = 0

  -- a read as it was asked for
  record IsAsked (name : List ℕ) (max : ℕ) (more : Exit) (on : List ℕ → Stage Effect) (n : List ℕ)
      (m : ℕ) (given : Given) (events : List Event) (later : Stage Effect) : Type 0 where
    event : was_read name max given ≡ was_read n m given
    goes : Follows texts events (went_on texts name more on given) later

  asked : (name : List ℕ) (max : ℕ) (more : Exit) (on : List ℕ → Stage Effect) (n : List ℕ) (m : ℕ)
      (given : Given) (events : List Event) (later : Stage Effect)
      → Follows texts (was_read n m given ∷ events) (reads name max more on) later
      → IsAsked name max more on n m given events later
  asked name max more on n m given events later h = record {
    event = ap (λ (s : Stage Effect). read_of s given) h.1.asks;
    goes =
        subst (λ (s : Stage Effect). Follows texts events s later)
        (h.1.goes ∙ sym (ap (λ (s : Stage Effect). behind_read s given) h.1.asks)) h.2;
  }

  -- what holds of the exits of a stage holds of what is left of it behind its reads
  followed : (events : List Event) (P : List Event → Exit → Type 0) (s later : Stage Effect)
      (f g : FilesState) → Follows texts events s later → Happens events f g → Always P s
      → At P events later
  followed [] P (stops exit) later f g h e p = subst (λ (x : Stage Effect). At P [] x) (sym h) p
  followed [] P (gives effect) later f g h e p = subst (λ (x : Stage Effect). At P [] x) (sym h) p
  followed [] P (reads name max more on) later f g h e p =
      subst (λ (x : Stage Effect). At P [] x) (sym h) tt
  followed (was_written name bytes answer ∷ events) P s later f g h e p = absurd h
  followed (was_put piece answer ∷ events) P s later f g h e p = absurd h
  followed (was_read n m given ∷ events) P (stops exit) later f g h e p =
      absurd (true≢false (sym (ap is_read h.1.asks)))
  followed (was_read n m given ∷ events) P (gives effect) later f g h e p =
      absurd (true≢false (sym (ap is_read h.1.asks)))
  followed (was_read n m (whole b) ∷ events) P (reads name max more on) later f g h e p =
      let a = asked name max more on n m (whole b) events later h in
      let same : max ≡ m = ap limit_of a.event in
      let short : length b ≤ m = e.1.within in
      subst (λ x. At P (x ∷ events) later) a.event
      (behind P (was_read name max (whole b)) events later
      (followed events (λ es. P (was_read name max (whole b) ∷ es)) (on b) later e.0 g a.goes e.3
      (p.0 b e.2 (omega (arith, same, short)))))
  followed (was_read n m missing ∷ events) P (reads name max more on) later f g h e p =
      let a = asked name max more on n m missing events later h in
      subst (λ x. At P (x ∷ events) later) a.event
      (stopped_behind P (was_read name max missing) (missing_exit texts name) later events a.goes p.1)
  followed (was_read n m too_long ∷ events) P (reads name max more on) later f g h e p =
      let a = asked name max more on n m too_long events later h in
      subst (λ x. At P (x ∷ events) later) a.event
      (stopped_behind P (was_read name max too_long) more later events a.goes p.2)
  followed (was_read n m failed ∷ events) P (reads name max more on) later f g h e p =
      let a = asked name max more on n m failed events later h in
      subst (λ x. At P (x ∷ events) later) a.event
      (stopped_behind P (was_read name max failed) (read_fault_exit texts name) later events a.goes p.3)
  followed (was_read n m no_memory ∷ events) P (reads name max more on) later f g h e p =
      let a = asked name max more on n m no_memory events later h in
      subst (λ x. At P (x ∷ events) later) a.event
      (stopped_behind P (was_read name max no_memory) no_memory_exit later events a.goes p.4)

  -- the events in front happened too
  front_happened : (events rest : List Event) (f g : FilesState) → Happens (events ++ rest) f g
      → (mid : FilesState) × Happens events f mid
  front_happened [] rest f g h = (f, refl)
  front_happened (was_read name max given ∷ events) rest f g h =
      let front = front_happened events rest h.0 g h.3 in (front.0, (h.0, h.1, h.2, front.1))
  front_happened (was_written name bytes answer ∷ events) rest f g h =
      let front = front_happened events rest h.0 g h.2 in (front.0, (h.0, h.1, front.1))
  front_happened (was_put piece answer ∷ events) rest f g h = absurd h

  -- what holds of each exit that a command may come to holds of the one that it came to
  pub always_comes : (P : List Event → Exit → Type 0) (s : Stage Effect) (events : List Event)
      (exit : Exit) (f g : FilesState) → Always P s → Happens events f g → Comes texts s events exit
      → P events exit
  always_comes P s events exit f g p e (stopped follows) =
      followed events P s (stops exit) f g follows e p
  always_comes P s events exit f g p e (printed text follows is) =
      let at = followed events P s (gives (record { text = text; change = None })) f g follows e p in
      subst (P events) (sym is) at.1
  always_comes P s events exit f g p e (wrote asked_for text name bytes answer split follows is) =
      let front = front_happened asked_for (was_written name bytes answer ∷ []) f g
      (subst (λ es. Happens es f g) split e) in
      let at = followed asked_for P s (gives (record { text = text; change = Some (name, bytes) })) f
      front.0 follows front.1 p in
      absurd (true≢false (ap is_some at.0))
