-- What a run wrote that ended well, that it wrote if `prove` has a proof, and how it refused: by what it did.
use Rattle.std.proofs.Common.{◌≡◌, ◌≢◌, ℕ, ◌<◌, Bool, false, List, [], ◌∷◌, ◌++◌, length, Option, Some, None, is_some, Ok}
use Rattle.std.proofs.Common.{refl, sym, ap, ◌∙◌, subst, arith, true≢false}
use Rattle.std.proofs.lemmas.List.{append-nil, append_cancel_left}
use Rattle.file_port.specs.Events.{Event, was_read, was_written, was_put}
use Rattle.file_port.specs.Files.{FilesState}
use Rattle.file_port.specs.Sink.{SinkState}
use Rattle.file_port.specs.declared.port.Put.{Put}
use Rattle.file_port.specs.declared.port.Put.TheVariants as put
use Rattle.bounds_prover.specs.Proving.{proved_container}
use Rattle.pcc_stages.specs.Exits.{Exit, Change}
use Rattle.pcc_stages.specs.Stage.{Stage, stops, gives, ◌>>=◌, Follows}
use Rattle.pcc_stages.specs.Runs.{Effect, stopped, printed, wrote, Prints, status_after, written_exit, Runs, EndsRun, decided, out_of_memory}
use Rattle.pcc_stages.specs.Texts.{texts}
use Rattle.pcc_stages.proofs.RunLemmas.{is_read, exit_at, no_stop}
use Rattle.pcc_stages.proofs.Splitting.{same-value, follows-gives, stopped-none, split, stops-with-some}
use Rattle.pcc_stages.proofs.StageLemmas.{follows-bind}
use Rattle.auto_search.specs.Outcomes.{OutcomeView, found, unfound, IsOutcome}
use Rattle.auto_cli.specs.Arguments.{AutoArgs, AutoInvocation, find, help, version, auto_command_of}
use Rattle.auto_cli.specs.Drafts.{DraftView, draft_of}
use Rattle.auto_cli.specs.Headline.{RunsAuto, WritesFound, WritesIfFound, IsWriteOf, FindsIfProved, AreReads, OnlyReads, RefusesIfAsked}
use Rattle.auto_cli.specs.Tasks.{left_goals, settled, settled_draft, find_command, auto_stage, auto_standing, auto_files}
use Rattle.auto_cli.specs.Texts.{auto_usage_line, auto_texts, found_line}
use Rattle.auto_cli.proofs.Reading.{one_end, follows_back}
use Rattle.auto_cli.proofs.Suited.{suited}

-- ---- exits

zero_before : (answer : Put) (n status : ℕ) → status ≡ status_after n answer → status ≡ 0 → n ≡ 0
zero_before put.Done n status e zero = sym e ∙ zero
zero_before put.Failed n status e zero = absurd (omega (arith, e, zero))

one_before : (answer : Put) (n status : ℕ) → status ≡ status_after n answer → status ≡ 1 → n ≡ 1
one_before put.Done n status e one = sym e ∙ one
one_before put.Failed n status e one = absurd (omega (arith, e, one))

written_well : (name text : List ℕ) (answer : Put) → (written_exit auto_texts name text answer).status ≡ 0
    → answer ≡ put.Done
written_well name text put.Done e = refl
written_well name text put.Failed e = absurd (omega (arith, e))

-- a write doesn't end with status 1
never_one : {A : Type 0} (name text : List ℕ) (answer : Put)
    → (written_exit auto_texts name text answer).status ≡ 1 → A
never_one name text put.Done e = absurd (omega (arith, e))
never_one name text put.Failed e = absurd (omega (arith, e))

-- ---- effects

abbrev has_change : Effect → Bool
has_change effect = is_some effect.change

abbrev change_of : Change → List ℕ × List ℕ
change_of None = ([], [])
change_of (Some change) = change

-- what is found is written
abbrev found_effect : List ℕ → List ℕ → ℕ → Effect
found_effect output out k = record { text = found_line (length out) k; change = Some (output, out) }

-- a draft is settled: by an outcome that is found, and read no more
record IsSettled (output : List ℕ) (outcome : OutcomeView) (effect : Effect) (rest : List Event) : Type 0 where
  out : List ℕ
  invariants : ℕ
  is : outcome ≡ found out invariants
  none : rest ≡ []
  effect_is : effect ≡ found_effect output out invariants

settles : (output : List ℕ) (draft : DraftView) (outcome : OutcomeView) (effect : Effect) (rest : List Event)
    → Follows auto_texts rest (settled_draft output outcome draft) (gives effect)
    → IsSettled output outcome effect rest
unfolding settled
settles output draft (found out k) effect rest h =
    let ended = follows-gives auto_texts (found_effect output out k) rest (gives effect) h in
    record {
      out = out;
      invariants = k;
      is = refl;
      none = ended.0;
      effect_is = same-value effect (found_effect output out k) ended.1;
    }
settles output draft (unfound kept) effect rest h =
    stopped-none auto_texts (left_goals draft.policy kept) effect (stops (left_goals draft.policy kept)) rest refl h

-- reads that a stage asks for are reads
only_reads : {A : Type 0} (events : List Event) (s l : Stage A) → Follows auto_texts events s l → AreReads events
only_reads [] s l h = tt
only_reads (was_read name max given ∷ events) s l h = only_reads events h.0 l h.2
only_reads (was_written name bytes answer ∷ events) s l h = absurd h
only_reads (was_put piece answer ∷ events) s l h = absurd h

-- ---- a run that searches

module _ (args : AutoArgs) (outcome : OutcomeView) (e e' events : List Event) (logged : e' ≡ e ++ events)
    (s t : SinkState) (status : ℕ) where
  abbrev stage : Stage Effect
  stage = draft_of args >>= settled_draft args.output outcome

  abbrev Fits : Type 0
  Fits = (asked rest : List Event) (draft : DraftView) → status ≢ 5 → e' ≡ e ++ (asked ++ rest)
      → Follows auto_texts asked (draft_of args) (gives draft) → IsOutcome draft.policy draft.bytes outcome

  -- what came to the log
  added : (all : List Event) → e' ≡ e ++ all → events ≡ all
  added all is = append_cancel_left e events all (sym logged ∙ is)

  -- ---- what was written

  writes_split : Fits → status ≡ 0 → (text name bytes : List ℕ) (asked : List Event)
      → events ≡ asked ++ was_written name bytes put.Done ∷ []
      → Follows auto_texts asked stage (gives (record { text = text; change = Some (name, bytes) }))
      → WritesFound args e e'
  writes_split fits zero text name bytes asked is follows =
      let effect : Effect = record { text = text; change = Some (name, bytes) } in
      let p = split auto_texts (settled_draft args.output outcome) effect (draft_of args) asked follows in
      let d = settles args.output p.value outcome effect p.rest p.goes_on in
      let same : (name, bytes) ≡ (args.output, d.out) = ap (λ (x : Effect). change_of x.change) d.effect_is in
      let first : asked ≡ p.first = p.is ∙ ap (λ es. p.first ++ es) d.none ∙ append-nil p.first in
      let all : e' ≡ e ++ (p.first ++ was_written args.output d.out put.Done ∷ []) =
      logged ∙ ap (λ es. e ++ es) (is ∙ ap (λ es. es ++ was_written name bytes put.Done ∷ []) first
      ∙ ap (λ (c : List ℕ × List ℕ). p.first ++ was_written c.0 c.1 put.Done ∷ []) same) in
      let kept : IsOutcome p.value.policy p.value.bytes (found d.out d.invariants) =
      subst (λ o. IsOutcome p.value.policy p.value.bytes o) d.is
      (fits p.first (was_written args.output d.out put.Done ∷ []) p.value (λ (five : status ≡ 5). omega (arith, zero, five)) all p.begins) in
      record {
        asked = p.first;
        draft = p.value;
        leads = p.begins;
        out = d.out;
        invariants = d.invariants;
        logged = all;
        accepted = kept.0;
        same = kept.1;
      }

  writes_ended : Fits → status ≡ 0 → EndsRun auto_texts (find_command args outcome) events s t status
      → WritesFound args e e'
  unfolding find_command
  writes_ended fits zero (decided exit (stopped follows) prints) =
      let asked : Option AutoInvocation = Some (find args) in
      let some : 0 < exit.status =
      stops-with-some auto_texts (auto_standing asked) (auto_files asked) stage exit events (suited asked outcome) follows in
      let none : exit.status ≡ 0 = zero_before prints.put exit.status status prints.after zero in
      absurd (omega (arith, some, none))
  writes_ended fits zero (decided exit (printed text follows is) prints) =
      let effect : Effect = record { text = text; change = None } in
      let p = split auto_texts (settled_draft args.output outcome) effect (draft_of args) events follows in
      let d = settles args.output p.value outcome effect p.rest p.goes_on in
      absurd (true≢false (sym (ap has_change d.effect_is)))
  writes_ended fits zero (decided exit (wrote asked text name bytes answer is follows exit_is) prints) =
      let none : exit.status ≡ 0 = zero_before prints.put exit.status status prints.after zero in
      let well : answer ≡ put.Done =
      written_well name text answer (sym (ap (λ (x : Exit). x.status) exit_is) ∙ none) in
      writes_split fits zero text name bytes asked
      (is ∙ ap (λ (a : Put). asked ++ was_written name bytes a ∷ []) well) follows
  writes_ended fits zero (out_of_memory later follows clean same five) = absurd (omega (arith, five, zero))

  -- ---- how it ends where its reads are known

  -- where some of its events lead a stage to an end, that is how the run ends, and it reads no more
  module _ (asked rest : List Event) (all : e' ≡ e ++ (asked ++ rest)) (end : Stage Effect) (last : is_read end ≡ false)
      (leads : Follows texts asked stage end) where
    ends_there : (first more : List Event) (other : Stage Effect) → is_read other ≡ false → events ≡ first ++ more
        → Follows auto_texts first stage other → (other ≡ end) × (first ≡ asked)
    ends_there first more other is_last split follows =
        one_end first asked more rest stage other end is_last last (follows_back auto_usage_line first stage other follows) leads
        (sym split ∙ added (asked ++ rest) all)

    -- what comes behind the reads
    behind : (first more : List Event) → events ≡ first ++ more → first ≡ asked → rest ≡ more
    behind first more split same =
        append_cancel_left asked rest more
        (sym (added (asked ++ rest) all) ∙ split ∙ ap (λ es. es ++ more) same)

  -- the draft leads to how it is settled
  settled_at : (asked : List Event) (draft : DraftView) → Follows auto_texts asked (draft_of args) (gives draft)
      → Follows texts asked stage (settled_draft args.output outcome draft)
  settled_at asked draft leads =
      follows-bind (settled_draft args.output outcome) asked (draft_of args) (gives draft)
      (follows_back auto_usage_line asked (draft_of args) (gives draft) leads)

  stopped_at : (asked : List Event) (exit : Exit) → Follows auto_texts asked (draft_of args) (stops exit)
      → Follows texts asked stage (stops exit)
  stopped_at asked exit leads =
      follows-bind (settled_draft args.output outcome) asked (draft_of args) (stops exit)
      (follows_back auto_usage_line asked (draft_of args) (stops exit) leads)

  -- ---- that it was written

  found_writes : (asked rest : List Event) → status ≢ 5 → e' ≡ e ++ (asked ++ rest) → (out : List ℕ) (k : ℕ)
      → Follows texts asked stage (gives (found_effect args.output out k))
      → EndsRun auto_texts stage events s t status → IsWriteOf args.output rest
  found_writes asked rest alive all out k leads (decided exit (stopped follows) prints) =
      let there = ends_there asked rest all (gives (found_effect args.output out k)) refl leads events [] (stops exit) refl
      (sym (append-nil events)) follows in
      absurd (no_stop (found_effect args.output out k) exit (sym there.0))
  found_writes asked rest alive all out k leads (decided exit (printed text follows is) prints) =
      let effect : Effect = record { text = text; change = None } in
      let there = ends_there asked rest all (gives (found_effect args.output out k)) refl leads events [] (gives effect) refl
      (sym (append-nil events)) follows in
      absurd (true≢false (sym (ap has_change (same-value effect (found_effect args.output out k) there.0))))
  found_writes asked rest alive all out k leads (decided exit (wrote first text name bytes answer is follows exit_is) prints) =
      let effect : Effect = record { text = text; change = Some (name, bytes) } in
      let end : Stage Effect = gives (found_effect args.output out k) in
      let last : List Event = was_written name bytes answer ∷ [] in
      let there = ends_there asked rest all end refl leads first last (gives effect) refl is follows in
      let same : (name, bytes) ≡ (args.output, out) =
      ap (λ (x : Effect). change_of x.change) (same-value effect (found_effect args.output out k) there.0) in
      record {
        bytes = out;
        answer = answer;
        is = behind asked rest all end refl leads first last is there.1
            ∙ ap (λ (c : List ℕ × List ℕ). was_written c.0 c.1 answer ∷ []) same;
      }
  found_writes asked rest alive all out k leads (out_of_memory later follows clean same five) = absurd (alive five)

  -- ---- how it refuses

  stopped_ends : (asked rest : List Event) (exit : Exit) → status ≢ 5 → e' ≡ e ++ (asked ++ rest)
      → Follows texts asked stage (stops exit) → EndsRun auto_texts stage events s t status
      → (rest ≡ []) × Prints exit s t status
  stopped_ends asked rest exit alive all leads (decided other (stopped follows) prints) =
      let alone : events ≡ events ++ [] = sym (append-nil events) in
      let there = ends_there asked rest all (stops exit) refl leads events [] (stops other) refl alone follows in (
        behind asked rest all (stops exit) refl leads events [] alone there.1,
        subst (λ (x : Exit). Prints x s t status) (ap exit_at there.0) prints,
      )
  stopped_ends asked rest exit alive all leads (decided other (printed text follows is) prints) =
      let effect : Effect = record { text = text; change = None } in
      let there = ends_there asked rest all (stops exit) refl leads events [] (gives effect) refl
      (sym (append-nil events)) follows in
      absurd (no_stop effect exit there.0)
  stopped_ends asked rest exit alive all leads (decided other (wrote first text name bytes answer is follows exit_is) prints) =
      let effect : Effect = record { text = text; change = Some (name, bytes) } in
      let there = ends_there asked rest all (stops exit) refl leads first (was_written name bytes answer ∷ []) (gives effect) refl
      is follows in
      absurd (no_stop effect exit there.0)
  stopped_ends asked rest exit alive all leads (out_of_memory later follows clean same five) = absurd (alive five)

  spares : status ≡ 1 → EndsRun auto_texts stage events s t status → OnlyReads e e'
  spares one (decided exit (stopped follows) prints) = (events, logged, only_reads events stage (stops exit) follows)
  spares one (decided exit (printed text follows is) prints) =
      (events, logged, only_reads events stage (gives (record { text = text; change = None })) follows)
  spares one (decided exit (wrote first text name bytes answer is follows exit_is) prints) =
      never_one name text answer
      (sym (ap (λ (x : Exit). x.status) exit_is) ∙ one_before prints.put exit.status status prints.after one)
  spares one (out_of_memory later follows clean same five) = absurd (omega (arith, five, one))

-- ---- a draft that `prove` has a proof of

finds_ended : (args : AutoArgs) (outcome : OutcomeView) (e e' events : List Event) → e' ≡ e ++ events
    → (s t : SinkState) (status : ℕ) (asked rest : List Event) (draft : DraftView) (proved : List ℕ) → status ≢ 5
    → e' ≡ e ++ (asked ++ rest) → Follows auto_texts asked (draft_of args) (gives draft)
    → proved_container draft.policy draft.bytes ≡ Ok proved → IsOutcome draft.policy draft.bytes outcome
    → EndsRun auto_texts (find_command args outcome) events s t status → IsWriteOf args.output rest
unfolding find_command settled
finds_ended args (found out k) e e' events logged s t status asked rest draft proved alive all leads has fits ends =
    found_writes args (found out k) e e' events logged s t status asked rest alive all out k
    (settled_at args (found out k) e e' events logged s t status asked draft leads) ends
finds_ended args (unfound kept) e e' events logged s t status asked rest draft proved alive all leads has fits ends =
    absurd (fits.1 proved has)

-- ---- the clauses

module _ (args : List (List ℕ)) (e e' : List Event) (f g : FilesState) (s t : SinkState) (status : ℕ)
    (run : RunsAuto args e e' f g s t status) where
  abbrev Did : Option AutoInvocation → Type 0
  Did asked = Runs auto_texts (auto_stage asked run.outcome) e e' f g s t status

  -- the outcome fits a draft that the reads of these arguments lead to
  fits_of : (given : AutoArgs) → auto_command_of args ≡ Some (find given) → (asked rest : List Event) (draft : DraftView)
      → status ≢ 5 → e' ≡ e ++ (asked ++ rest) → Follows auto_texts asked (draft_of given) (gives draft)
      → IsOutcome draft.policy draft.bytes run.outcome
  fits_of given is asked rest draft alive all leads =
      run.fits asked rest draft alive all (record { told = given; is = is; leads = leads })

  pub writes : WritesIfFound (auto_command_of args) e e' status
  writes = go (auto_command_of args) refl run.runs
    where
      go : (asked : Option AutoInvocation) → auto_command_of args ≡ asked → Did asked → WritesIfFound asked e e' status
      go None is r = tt
      go (Some help) is r = tt
      go (Some version) is r = tt
      go (Some (find given)) is r = λ zero.
          writes_ended given run.outcome e e' r.events r.logged s t status (fits_of given is) zero r.ends

  pub finds : FindsIfProved (auto_command_of args) e e' status
  finds = go (auto_command_of args) refl run.runs
    where
      go : (asked : Option AutoInvocation) → auto_command_of args ≡ asked → Did asked → FindsIfProved asked e e' status
      go None is r = tt
      go (Some help) is r = tt
      go (Some version) is r = tt
      go (Some (find given)) is r = λ asked rest draft proved alive all leads has.
          finds_ended given run.outcome e e' r.events r.logged s t status asked rest draft proved alive all leads has
          (fits_of given is asked rest draft alive all leads) r.ends

  pub refuses : RefusesIfAsked (auto_command_of args) e e' s t status
  unfolding find_command
  refuses = go (auto_command_of args) run.runs
    where
      go : (asked : Option AutoInvocation) → Did asked → RefusesIfAsked asked e e' s t status
      go None r = tt
      go (Some help) r = tt
      go (Some version) r = tt
      go (Some (find given)) r = record {
        stopped = λ asked rest exit alive all leads.
            stopped_ends given run.outcome e e' r.events r.logged s t status asked rest exit alive all
            (stopped_at given run.outcome e e' r.events r.logged s t status asked exit leads) r.ends;
        spared = λ one. spares given run.outcome e e' r.events r.logged s t status one r.ends;
      }
