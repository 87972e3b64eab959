-- What a run did, seen over files that are known.
use Rattle.std.proofs.Common.{◌≡◌, ◌≢◌, ℕ, ◌<◌, ◌≤◌, List, [], ◌∷◌, ◌++◌, Bool, true, false, Option, None, Some, Result, Ok, Err, IfSome, Contains, refl, sym, ap, ◌∙◌, subst, arith, true≢false, inl, inr}
use Rattle.std.proofs.lemmas.List.Elements.{Contains-append_right}
use Rattle.std.proofs.lemmas.Option.{IfSome_then}
use Rattle.std.specs.FinMap as map
use Rattle.file_port.specs.Files.{FileMap, FilesState, ReadFails, Reads, WriteFails, Writes, with_file}
use Rattle.file_port.specs.Events.{Given, whole, missing, too_long, failed, no_memory, given_by, Event, was_read, was_written, was_put}
use Rattle.file_port.specs.Sink.{SinkState, Puts}
use Rattle.file_port.specs.declared.port.Put.{Put}
use Rattle.file_port.specs.declared.port.Put.TheVariants as put
use Rattle.file_port.proofs.PutLemmas.{with_piece-nil}
use Rattle.pcc_stages.specs.Exits.{Exit, Change, Answer, changed}
use Rattle.pcc_stages.specs.Requests.{Request, Standing, Suits, Texts, command, missing_exit, no_memory_exit, read_fault_exit}
use Rattle.pcc_stages.specs.Stage.{Stage, stops, gives, reads, went_on, Asks, Follows, by_given, result_over, names_over}
use Rattle.pcc_stages.specs.Runs.{Effect, Task, Happens, done_exit, written_exit, stopped, printed, wrote, status_after, Prints, EndsRun, decided, out_of_memory, Runs, NoneFailed, answer_of, request_of_task, IsSuited}
use Rattle.pcc_stages.specs.Ends as ends
use Rattle.pcc_stages.specs.Ends.{Ends, IsDecision, answered, not_read, not_written}

-- what holds of all files
told_each : (contents : Option FileMap) (P : FileMap → Type 0) → ((files : FileMap) → P files) → IfSome contents P
told_each None P each = tt
told_each (Some files) P each = each files

-- two facts of the files
told_both : (contents : Option FileMap) (P Q R : FileMap → Type 0) → ((files : FileMap) → P files → Q files → R files) → IfSome contents P → IfSome contents Q → IfSome contents R
told_both None P Q R joined p q = tt
told_both (Some files) P Q R joined p q = joined files p q

-- ---- stages

abbrev pub is_stop : {A : Type 0} → Stage A → Bool
is_stop (stops exit) = true
is_stop (gives x) = false
is_stop (reads name max more on) = false

abbrev pub is_read : {A : Type 0} → Stage A → Bool
is_read (stops exit) = false
is_read (gives x) = false
is_read (reads name max more on) = true

-- the exit of a stage that stops
abbrev pub exit_at : {A : Type 0} → Stage A → Exit
exit_at (stops exit) = exit
exit_at (gives x) = no_memory_exit
exit_at (reads name max more on) = no_memory_exit

pub no_stop : {A : Type 0} (x : A) (exit : Exit) → gives x ≡ stops exit → ⊥
no_stop x exit e = true≢false (sym (ap is_stop e))

module _ (texts : Texts) {A : Type 0} where
  -- behind a stop nothing is read
  pub follows_stop : (exit : Exit) (events : List Event) (later : Stage A) → Follows texts events (stops exit) later → (events ≡ []) × (later ≡ stops exit)
  follows_stop exit [] later h = (refl, h)
  follows_stop exit (was_read name max given ∷ events) later h = absurd (true≢false (sym (ap is_read h.1.asks)))
  follows_stop exit (was_written name bytes answer ∷ events) later h = absurd h
  follows_stop exit (was_put piece answer ∷ events) later h = absurd h

-- reads of which none failed leave all as it was
pub none_failed : (events : List Event) (o n : FilesState) → NoneFailed events → Happens events o n → n ≡ o
none_failed [] o n clean same = same
none_failed (was_read name max (whole b) ∷ events) o n clean h = none_failed events h.0 n clean h.3 ∙ h.1.same
none_failed (was_read name max missing ∷ events) o n clean h = none_failed events h.0 n clean h.3 ∙ h.1.same
none_failed (was_read name max too_long ∷ events) o n clean h = none_failed events h.0 n clean h.3 ∙ h.1.same
none_failed (was_read name max failed ∷ events) o n clean h = absurd clean
none_failed (was_read name max no_memory ∷ events) o n clean h = none_failed events h.0 n clean h.3 ∙ h.1.same
none_failed (was_written name bytes answer ∷ events) o n clean h = absurd clean
none_failed (was_put piece answer ∷ events) o n clean h = absurd clean

-- ---- what reads come to

module _ (texts : Texts) (standing : Standing) (names : Option (List (List ℕ))) {A : Type 0} where
  -- From a stage to a later one files go from o to n: all is as it was, and over known files both come to one result; or a read
  -- failed, found nothing, or had no memory, and there the later stage stops.
  data Walked (stage later : Stage A) (o n : FilesState) : Type 0 where
    fine : n ≡ o → IfSome o.contents (λ files. result_over texts files stage ≡ result_over texts files later) → IsSuited texts standing names later
        → Walked stage later o n
    fault : (name : List ℕ) → IfSome o.contents (λ files. Contains (names_over files stage) name) → IfSome names (λ all. Contains all name) → standing ≡ command
        → ReadFails o n → later ≡ stops (read_fault_exit texts name) → Walked stage later o n
    missed : (name : List ℕ) → n ≡ o → IfSome o.contents (λ files. result_over texts files stage ≡ Err (missing_exit texts name)) → standing ≡ command
        → later ≡ stops (missing_exit texts name) → Walked stage later o n
    memory : n ≡ o → later ≡ stops no_memory_exit → Walked stage later o n

  -- a stage that reads, and one behind it that comes to the same
  record IsBehind (stage next : Stage A) (o mid : FilesState) : Type 0 where
    same : mid ≡ o
    told : IfSome o.contents (λ files. result_over texts files stage ≡ result_over texts files next)
    named : IfSome o.contents (λ files. (name : List ℕ) → Contains (names_over files next) name → Contains (names_over files stage) name)

  behind : (stage next later : Stage A) (o mid n : FilesState) → IsBehind stage next o mid → Walked next later o n → Walked stage later o n
  behind stage next later o mid n b (fine same told suited) =
      fine same (told_both o.contents _ _ _ (λ files first rest. first ∙ rest) b.told told) suited
  behind stage next later o mid n b (fault name asked named known fails stop) =
      fault name (told_both o.contents _ _ _ (λ files more has. more name has) b.named asked) named known fails stop
  behind stage next later o mid n b (missed name same told known stop) =
      missed name same (told_both o.contents _ _ _ (λ files first rest. first ∙ rest) b.told told) known stop
  behind stage next later o mid n b (memory same stop) = memory same stop

  module _ (name : List ℕ) (max : ℕ) (more : Exit) (on : List ℕ → Stage A) (suited : IsSuited texts standing names (reads name max more on)) where
    -- over known files, a read that gives this
    told_at : (given : Given) (o : FilesState) → IfSome o.contents (λ files. given ≡ given_by max (map.get files name))
        → IfSome o.contents (λ files. result_over texts files (reads name max more on)
        ≡ by_given given (λ b. result_over texts files (on b)) (Err (missing_exit texts name)) (Err more) (Err no_memory_exit))
    told_at given o told =
        IfSome_then o.contents
        {P = λ files. given ≡ given_by max (map.get files name)}
        {Q = λ files. result_over texts files (reads name max more on) ≡ by_given given (λ b. result_over texts files (on b)) (Err (missing_exit texts name)) (Err more) (Err no_memory_exit)}
        told (λ files e. ap (λ g. by_given g (λ b. result_over texts files (on b)) (Err (missing_exit texts name)) (Err more) (Err no_memory_exit)) (sym e))

    named_at : (b : List ℕ) (o : FilesState) → IfSome o.contents (λ files. whole b ≡ given_by max (map.get files name))
        → IfSome o.contents (λ files. (other : List ℕ) → Contains (names_over files (on b)) other → Contains (names_over files (reads name max more on)) other)
    named_at b o told =
        IfSome_then o.contents
        {P = λ files. whole b ≡ given_by max (map.get files name)}
        {Q = λ files. (other : List ℕ) → Contains (names_over files (on b)) other → Contains (names_over files (reads name max more on)) other}
        told (λ files e other has. subst (λ g. Contains (name ∷ by_given g (λ b. names_over files (on b)) [] [] []) other) e
        (Contains-append_right (name ∷ []) (names_over files (on b)) other has))

    -- a read that ends the command
    ended : (exit : Exit) (events : List Event) (next later : Stage A) (mid n : FilesState) → next ≡ stops exit → Follows texts events next later
        → Happens events mid n → (n ≡ mid) × (later ≡ stops exit)
    ended exit events next later mid n is follows happens =
        let stop = follows_stop texts exit events later (subst (λ s. Follows texts events s later) is follows) in
        (subst (λ es. Happens es mid n) stop.0 happens, stop.1)

    read_on : (given : Given) (events : List Event) (next later : Stage A) (o mid n : FilesState) → next ≡ went_on texts name more on given
        → Reads name max o mid given → Follows texts events next later → Happens events mid n
        → ((b : List ℕ) → next ≡ on b → IsSuited texts standing names (on b) → Walked next later mid n)
        → Walked (reads name max more on) later o n
    read_on (whole b) events next later o mid n goes read follows happens rest =
        let there = rest b goes (suited.3 b) in
        let b_result : IfSome o.contents (λ files. result_over texts files (reads name max more on) ≡ result_over texts files (on b)) = told_at (whole b) o read.right in
        let at_o : Walked next later o n = subst (λ m. Walked next later m n) read.same there in
        behind (reads name max more on) (on b) later o o n (record { same = refl; told = b_result; named = named_at b o read.right })
        (subst (λ s. Walked s later o n) goes at_o)
    read_on missing events next later o mid n goes read follows happens rest =
        let end = ended (missing_exit texts name) events next later mid n goes follows happens in
        missed name (end.0 ∙ read.same) (told_at missing o read.right) suited.0 end.1
    read_on too_long events next later o mid n goes read follows happens rest =
        let end = ended more events next later mid n goes follows happens in
        fine (end.0 ∙ read.same) (told_both o.contents _ _ _ (λ files e u. e ∙ ap (result_over texts files) (sym end.1)) (told_at too_long o read.right) (told_each o.contents (λ files. Unit {0}) (λ files. tt)))
        (subst (IsSuited texts standing names) (sym end.1) (inl suited.2))
    read_on failed events next later o mid n goes read follows happens rest =
        let end = ended (read_fault_exit texts name) events next later mid n goes follows happens in
        fault name (told_each o.contents (λ files. Contains (names_over files (reads name max more on)) name) (λ files. (0, omega arith, refl))) suited.1 suited.0
        (subst (ReadFails o) (sym end.0) read) end.1
    read_on no_memory events next later o mid n goes read follows happens rest =
        let end = ended no_memory_exit events next later mid n goes follows happens in
        memory (end.0 ∙ read.same) end.1

  -- what reads come to
  walked : (events : List Event) (stage later : Stage A) (o n : FilesState) → IsSuited texts standing names stage → Follows texts events stage later
      → Happens events o n → Walked stage later o n
  walked [] stage later o n suited is same =
      fine same (told_each o.contents (λ files. result_over texts files stage ≡ result_over texts files later) (λ files. ap (result_over texts files) (sym is)))
      (subst (IsSuited texts standing names) (sym is) suited)
  walked (was_read name max given ∷ events) stage later o n suited follows happens =
      let next = follows.0 in
      let r : Asks texts name max given stage next = follows.1 in
      let at_read : IsSuited texts standing names (reads name max r.more r.on) = subst (IsSuited texts standing names) r.asks suited in
      subst (λ s. Walked s later o n) (sym r.asks)
      (read_on name max r.more r.on at_read given events next later o happens.0 n r.goes happens.1 follows.2 happens.3
      (λ b is fits. walked events next later happens.0 n (subst (IsSuited texts standing names) (sym is) fits) follows.2 happens.3))
  walked (was_written name bytes answer ∷ events) stage later o n suited follows happens = absurd follows
  walked (was_put piece answer ∷ events) stage later o n suited follows happens = absurd follows

-- ---- how the run ends

-- first reads, then a write
happens_split : (events : List Event) (name bytes : List ℕ) (answer : Put) (o n : FilesState)
    → Happens (events ++ was_written name bytes answer ∷ []) o n → (mid : FilesState) × Happens events o mid × Writes name bytes mid n answer
happens_split [] name bytes answer o n h = (o, refl, subst (λ (s : FilesState). Writes name bytes o s answer) (sym h.2) h.1)
happens_split (was_read name' max given ∷ events) name bytes answer o n h =
    let rest = happens_split events name bytes answer h.0 n h.3 in
    (rest.0, (h.0, h.1, h.2, rest.1), rest.2)
happens_split (was_written name' bytes' answer' ∷ events) name bytes answer o n h =
    let rest = happens_split events name bytes answer h.0 n h.2 in
    (rest.0, (h.0, h.1, rest.1), rest.2)
happens_split (was_put piece answer' ∷ events) name bytes answer o n h = absurd h

module _ (texts : Texts) (task : Task) (suited : IsSuited texts task.standing task.names task.stage) (f g : FilesState) where
  abbrev request : Request
  request = request_of_task texts task

  -- an exit of a command, that no argument brings alone
  suits_command : (exit : Exit) → task.standing ≡ command → exit.status ≢ 2 → exit.status ≢ 1 → Suits texts task.standing exit
  suits_command exit known two one =
      subst (λ (s : Standing). Suits texts s exit) (sym known) (two, λ is. one (ap (λ (x : Exit). x.status) is))

  -- what the run printed is an answer
  answer : (exit : Exit) (change : Change) → g ≡ changed change f → IfSome f.contents (λ files. answer_of (result_over texts files task.stage) ≡ record { exit = exit; change = change })
      → exit.status ≤ 3 → (0 < exit.status → change ≡ None) → Suits texts task.standing exit → IsDecision request f g exit
  answer exit change made exact few none suits = answered (record { change = change; made = made; exact = exact; in_range = few; no_change = none; suits = suits })

  told_result : (r : Result Effect Exit) (later : Stage Effect) → ((files : FileMap) → result_over texts files later ≡ r)
      → IfSome f.contents (λ files. result_over texts files task.stage ≡ result_over texts files later) → IfSome f.contents (λ files. answer_of (result_over texts files task.stage) ≡ answer_of r)
  told_result r later is told =
      IfSome_then f.contents
      {P = λ files. result_over texts files task.stage ≡ result_over texts files later}
      {Q = λ files. answer_of (result_over texts files task.stage) ≡ answer_of r}
      told (λ files e. ap answer_of (e ∙ is files))

  -- what a stop is worth, unless memory ran out
  data Stopped (exit : Exit) : Type 0 where
    decision : IsDecision request f g exit → Stopped exit
    memory_out : g ≡ f → exit ≡ no_memory_exit → Stopped exit

  of_stop : (exit : Exit) → Walked texts task.standing task.names task.stage (stops exit) f g → Stopped exit
  of_stop exit (fine same told (inr is)) = memory_out same is
  of_stop exit (fine same told (inl stop)) =
      decision (answer exit None same (told_result (Err exit) (stops exit) (λ files. refl) told) (omega (arith, stop.in_range)) (λ _. refl) stop.suits)
  of_stop exit (fault name asked named known fails is) =
      decision (not_read (record { name = name; asked = asked; named = named; command = known; fails = fails; line = ap exit_at is }))
  of_stop exit (missed name same told known is) =
      let line : exit ≡ missing_exit texts name = ap exit_at is in
      decision (subst (IsDecision request f g) (sym line)
      (answer (missing_exit texts name) None same
      (IfSome_then f.contents
      {P = λ files. result_over texts files task.stage ≡ Err (missing_exit texts name)}
      {Q = λ files. answer_of (result_over texts files task.stage) ≡ answer_of (Err (missing_exit texts name))}
      told (λ files e. ap answer_of e))
      (omega arith) (λ _. refl) (suits_command (missing_exit texts name) known (λ e. absurd (omega arith)) (λ e. absurd (omega arith)))))
  of_stop exit (memory same is) = memory_out same (ap exit_at is)

  module _ (s t : SinkState) (status : ℕ) where
    -- what was decided is printed, or a part of it
    decision_printed : (exit : Exit) → IsDecision request f g exit → (r : Put) → Puts exit.text s t r → status ≡ status_after exit.status r → Ends request f g s t status
    decision_printed exit is put.Done puts after = ends.printed exit is puts after
    decision_printed exit is put.Failed puts after = ends.put_failed exit is puts after

    nothing_printed : g ≡ f → (r : Put) → Puts [] s t r → status ≡ status_after 5 r → Ends request f g s t status
    nothing_printed same put.Done puts after = ends.out_of_memory same (puts ∙ with_piece-nil s) after
    nothing_printed same put.Failed puts after = let some = puts.some in absurd (omega arith)

    stop_printed : (exit : Exit) → Stopped exit → Prints exit s t status → Ends request f g s t status
    stop_printed exit (decision is) p = decision_printed exit is p.put p.puts p.after
    stop_printed exit (memory_out same is) p =
        nothing_printed same p.put (subst (λ (o : Exit). Puts o.text s t p.put) is p.puts) (p.after ∙ ap (λ (o : Exit). status_after o.status p.put) is)

-- where reads came to a value
value : (texts : Texts) (task : Task) (f m : FilesState) (effect : Effect) → Walked texts task.standing task.names task.stage (gives effect) f m
    → (m ≡ f) × IfSome f.contents (λ files. answer_of (result_over texts files task.stage) ≡ answer_of (Ok effect)) × (task.standing ≡ command)
value texts task f m effect (fine same told known) = (
  same,
  IfSome_then f.contents
      {P = λ files. result_over texts files task.stage ≡ result_over texts files (gives effect)}
      {Q = λ files. answer_of (result_over texts files task.stage) ≡ answer_of (Ok effect)}
      told (λ files e. ap answer_of e),
  known,
)
value texts task f m effect (fault name asked named known fails is) = absurd (no_stop effect (read_fault_exit texts name) is)
value texts task f m effect (missed name same told known is) = absurd (no_stop effect (missing_exit texts name) is)
value texts task f m effect (memory same is) = absurd (no_stop effect no_memory_exit is)

module _ (texts : Texts) (task : Task) (suited : IsSuited texts task.standing task.names task.stage) (f g : FilesState) (s t : SinkState) (status : ℕ) where
  abbrev of_task : Request
  of_task = request_of_task texts task

  -- behind the write
  written : (text name bytes : List ℕ) (r : Put) (mid : FilesState) → Writes name bytes mid g r → mid ≡ f
      → IfSome f.contents (λ files. answer_of (result_over texts files task.stage) ≡ answer_of (Ok (record { text = text; change = Some (name, bytes) })))
      → task.standing ≡ command → IsDecision of_task f g (written_exit texts name text r)
  written text name bytes put.Done mid writes same told known =
      answer texts task suited f g (done_exit text) (Some (name, bytes)) (writes ∙ ap (with_file name bytes) same) told (omega arith) (λ some. absurd (omega arith))
      (suits_command texts task suited f g (done_exit text) known (λ e. absurd (omega arith)) (λ e. absurd (omega arith)))
  written text name bytes put.Failed mid writes same told known = not_written (record {
    name = name;
    bytes = bytes;
    asked = IfSome_then f.contents
        {P = λ files. answer_of (result_over texts files task.stage) ≡ answer_of (Ok (record { text = text; change = Some (name, bytes) }))}
        {Q = λ files. (answer_of (result_over texts files task.stage)).change ≡ Some (name, bytes)}
        told (λ files e. ap (λ (a : Answer). a.change) e);
    command = known;
    fails = subst (λ (m : FilesState). WriteFails name bytes m g) same writes;
    line = refl;
  })

  run_ends : (events : List Event) → Happens events f g → EndsRun texts task.stage events s t status → Ends of_task f g s t status
  run_ends events happened (decided exit (stopped follows) p) =
      stop_printed texts task suited f g s t status exit (of_stop texts task suited f g exit (walked texts task.standing task.names events task.stage (stops exit) f g suited follows happened)) p
  run_ends events happened (decided exit (printed text follows is) p) =
      let effect : Effect = record { text = text; change = None } in
      let v = value texts task f g effect (walked texts task.standing task.names events task.stage (gives effect) f g suited follows happened) in
      let done : IsDecision of_task f g (done_exit text) =
      answer texts task suited f g (done_exit text) None v.0 v.1 (omega arith) (λ _. refl) (suits_command texts task suited f g (done_exit text) v.2 (λ e. absurd (omega arith)) (λ e. absurd (omega arith))) in
      decision_printed texts task suited f g s t status exit (subst (IsDecision of_task f g) (sym is) done) p.put p.puts p.after
  run_ends events happened (decided exit (wrote asked text name bytes r split follows is) p) =
      let effect : Effect = record { text = text; change = Some (name, bytes) } in
      let h = happens_split asked name bytes r f g (subst (λ es. Happens es f g) split happened) in
      let v = value texts task f h.0 effect (walked texts task.standing task.names asked task.stage (gives effect) f h.0 suited follows h.1) in
      decision_printed texts task suited f g s t status exit (subst (IsDecision of_task f g) (sym is) (written text name bytes r h.0 h.2 v.0 v.1 v.2)) p.put p.puts p.after
  run_ends events happened (out_of_memory later follows clean same status_is) = ends.out_of_memory (none_failed events f g clean happened) same status_is

  pub ends_of_runs : (e e' : List Event) → Runs texts task.stage e e' f g s t status → Ends of_task f g s t status
  ends_of_runs e e' r = run_ends r.events r.happened r.ends
