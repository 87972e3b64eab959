-- What a run wrote that ended with status 0.
use Rattle.std.proofs.Common.{◌≡◌, ◌↔◌, ℕ, ◌<◌, Bool, List, [], ◌∷◌, ◌++◌, length, Option, Some, None, is_some, option_map}
use Rattle.std.proofs.Common.{Result, Ok, Err, refl, sym, ap, ◌∙◌, subst, arith, true≢false, append_assoc}
use Rattle.std.proofs.lemmas.List.{append-nil}
use Rattle.file_port.specs.Events.{whole, Event, was_read, was_written, was_put}
use Rattle.file_port.specs.Files.{FilesState}
use Rattle.file_port.specs.Sink.{SinkState}
use Rattle.file_port.specs.declared.port.Put.{Put}
use Rattle.file_port.specs.declared.port.Put.TheVariants as put
use Rattle.term_table.specs.Bytes.{IsBytes}
use Rattle.policy_set.specs.Names.{kind_of}
use Rattle.policy_set.specs.PolicyText.{SpellsPolicy, policy_read}
use Rattle.policy_set.specs.Views.{PolicyView, built_in, IsPolicy}
use Rattle.policy_set.specs.declared.fault.PolicyFlaw.{PolicyFlaw}
use Rattle.policy_set.specs.declared.kind.PolicyKind.{PolicyKind}
use Rattle.pcc_gate.specs.Laws.{AcceptedFirst}
use Rattle.pcc_lines.specs.Fixed.{container_too_long_line, policy_too_long_line, unknown_policy_line}
use Rattle.pcc_lines.specs.Sources.{written_line}
use Rattle.pcc_words.specs.Invocations.{PolicyWord, named, from_file}
use Rattle.pcc_stages.specs.Exits.{Exit, Change}
use Rattle.pcc_stages.specs.Requests.{command}
use Rattle.pcc_stages.specs.Stage.{stops, gives, Follows}
use Rattle.pcc_stages.specs.Stages.Common.{refused, policy_found}
use Rattle.pcc_stages.specs.Stages.Containers.{container_bytes_of}
use Rattle.pcc_stages.specs.Stages.Policies.{no_policy_spelled, policy_spelled, policy_in, policy_bytes_of, policy_from, policy_told}
use Rattle.pcc_stages.specs.Runs.{Effect, Happens, Runs, stopped, printed, wrote, EndsRun, decided, out_of_memory, status_after, written_exit}
use Rattle.pcc_stages.specs.declared.files.TheConstants.{MAX_FILE, MAX_POLICY_FILE}
use Rattle.native_translator.specs.Translation.{IsTranslation}
use Rattle.native_object.specs.Object.{object_bytes}
use Rattle.native_cli.specs.Headline.{RunsNative, PolicyIsRead, HoldsTranslation, WritesTranslation, WritesIfDone}
use Rattle.native_cli.specs.Invocations.{NativeGiven, NativeInvocation, translation, help, version, native_command_of}
use Rattle.native_gate.specs.Translated.{is_metered}
use Rattle.native_cli.specs.Tasks.{Translatable, Translator, IsTranslator, translatable_in, object_in, object_of, object_told}
use Rattle.native_cli.specs.Tasks.{object_written, translation_of, native_stage, native_standing, native_files}
use Rattle.native_cli.specs.Texts.{native_texts}
use Rattle.pcc_stages.proofs.Suiting.{ends-fits}
use Rattle.pcc_stages.proofs.Splitting.{same-value, joined, follows-gives, stopped-none, one-read, silent, split, stops-with-some}
use Rattle.native_cli.proofs.Suited.{object-end, native-suited}
use Rattle.native_cli.proofs.Translators.{held}

-- ---- the policy

-- the laws of policies
pub record PolicyLaws : Type 0 where
  pub built : (kind : PolicyKind) → IsPolicy (built_in kind)
  pub spelled : (bytes : List ℕ) (policy : PolicyView) → SpellsPolicy bytes policy ↔ (policy_read bytes ≡ Ok policy)
  pub kept : (bytes : List ℕ) (policy : PolicyView) → SpellsPolicy bytes policy → IsPolicy policy

-- the policy that a word tells, by these reads
record IsTold (word : PolicyWord) (events : List Event) (policy : PolicyView) : Type 0 where
  is_policy : IsPolicy policy
  tells : PolicyIsRead word events policy

spelled-one : (r : Result PolicyView PolicyFlaw) (b : List ℕ) (policy : PolicyView) (events : List Event) → r ≡ policy_read b
    → Follows native_texts events (policy_spelled r) (gives policy) → (events ≡ []) × (policy_read b ≡ Ok policy)
spelled-one (Ok q) b policy events e h =
    let ended = follows-gives native_texts q events (gives policy) h in
    (ended.0, sym e ∙ ap (λ (p : PolicyView). Ok p) (sym (same-value policy q ended.1)))
spelled-one (Err flaw) b policy events e h = stopped-none native_texts (no_policy_spelled flaw) policy (stops (no_policy_spelled flaw)) events refl h

module _ (laws : PolicyLaws) where
  named-told : (name : List ℕ) (policy : PolicyView) (o : Option PolicyKind) (events : List Event) → o ≡ kind_of name
      → Follows native_texts events (policy_found (option_map built_in o)) (gives policy) → IsTold (named name) events policy
  named-told name policy None events e h =
      stopped-none native_texts (refused unknown_policy_line) policy (stops (refused unknown_policy_line)) events refl h
  named-told name policy (Some kind) events e h =
      let ended = follows-gives native_texts (built_in kind) events (gives policy) h in
      let same : policy ≡ built_in kind = same-value policy (built_in kind) ended.1 in
      record {
        is_policy = subst IsPolicy (sym same) (laws.built kind);
        tells = (ended.0, ap (λ (k : Option PolicyKind). option_map built_in k) (sym e) ∙ ap (λ (p : PolicyView). Some p) (sym same));
      }

  file-told : (name : List ℕ) (policy : PolicyView) (events : List Event) → Follows native_texts events (policy_from name) (gives policy)
      → IsTold (from_file name) events policy
  unfolding policy_from policy_in
  file-told name policy events h =
      let p = split native_texts (λ b. policy_in b) policy (policy_bytes_of name) events h in
      let one = one-read native_texts name MAX_POLICY_FILE (refused policy_too_long_line) (λ b. b) p.value p.first p.begins in
      let read = spelled-one (policy_read p.value) p.value policy p.rest refl p.goes_on in
      let spells : SpellsPolicy p.value policy = (laws.spelled p.value policy).1 read.1 in
      record {
        is_policy = laws.kept p.value policy spells;
        tells = (
          p.value,
          p.is ∙ ap (λ es. p.first ++ es) read.0 ∙ ap (λ es. es ++ []) one.1
              ∙ ap (λ b. was_read name MAX_POLICY_FILE (whole b) ∷ []) (sym one.2),
          spells,
        );
      }

  told : (word : PolicyWord) (policy : PolicyView) (events : List Event) → Follows native_texts events (policy_told word) (gives policy)
      → IsTold word events policy
  told (named name) policy events h = named-told name policy (kind_of name) events refl h
  told (from_file name) policy events h = file-told name policy events h

-- ---- the object file

module _ (first : AcceptedFirst) (texts : Translator) (translator : IsTranslator texts) where
  holds-translation : (policy : PolicyView) (bytes name object : List ℕ) → IsBytes bytes → object_in texts policy name bytes ≡ gives object
      → HoldsTranslation policy bytes name object
  unfolding object_in
  holds-translation policy bytes name object are e =
      let j = joined (λ it. gives (object_bytes name (texts bytes))) object (translatable_in policy bytes) e in
      let h = held first policy bytes j.value are j.first in
      record {
        accepted = h.accepted;
        text = texts bytes;
        translated = subst (λ (x : Translatable). IsTranslation (is_metered x.bound) x.code (texts bytes)) (sym h.is)
            (translator.translates policy bytes j.value are j.first);
        file = sym (same-value (object_bytes name (texts bytes)) object j.second);
      }

-- the reads of a translation, and what was made of them
record IsMade (texts : Translator) (args : NativeGiven) (object : List ℕ) (events : List Event) : Type 0 where
  policy : PolicyView
  policy_reads : List Event
  bytes : List ℕ
  is_told : IsTold args.policy policy_reads policy
  asked : events ≡ policy_reads ++ was_read args.file MAX_FILE (whole bytes) ∷ []
  makes : object_in texts policy args.name bytes ≡ gives object

is-made : PolicyLaws → (texts : Translator) (args : NativeGiven) (object : List ℕ) (events : List Event)
    → Follows native_texts events (object_told texts args) (gives object) → IsMade texts args object events
unfolding object_told object_of
is-made laws texts args object events h =
    let p = split native_texts (λ policy. object_of texts policy args.name args.file) object (policy_told args.policy) events h in
    let q = split native_texts (λ bytes. object_in texts p.value args.name bytes) object (container_bytes_of args.file) p.rest p.goes_on in
    let one = one-read native_texts args.file MAX_FILE (refused container_too_long_line) (λ b. b) q.value q.first q.begins in
    let made = silent native_texts command (object_in texts p.value args.name q.value) object q.rest
    (ends-fits native_texts (Some []) refl (object_in texts p.value args.name q.value) (object-end texts p.value args.name q.value)) q.goes_on in
    record {
      policy = p.value;
      policy_reads = p.first;
      bytes = q.value;
      is_told = told laws args.policy p.value p.first p.begins;
      asked =
          p.is ∙ ap (λ es. p.first ++ es) (q.is ∙ ap (λ es. q.first ++ es) made.0 ∙ ap (λ es. es ++ []) one.1
          ∙ ap (λ b. was_read args.file MAX_FILE (whole b) ∷ []) (sym one.2));
      makes = made.1;
    }

-- ---- what was read

-- what a read gave whole is bytes
read-bytes : (first : List Event) (name : List ℕ) (max : ℕ) (b : List ℕ) (rest : List Event) (f g : FilesState)
    → Happens (first ++ was_read name max (whole b) ∷ rest) f g → IsBytes b
read-bytes [] name max b rest f g h = h.2
read-bytes (was_read other most given ∷ first) name max b rest f g h = read-bytes first name max b rest h.0 g h.3
read-bytes (was_written other bytes answer ∷ first) name max b rest f g h = read-bytes first name max b rest h.0 g h.2
read-bytes (was_put piece answer ∷ first) name max b rest f g h = absurd h

-- ---- the run

zero-before : (answer : Put) (n status : ℕ) → status ≡ status_after n answer → status ≡ 0 → n ≡ 0
zero-before put.Done n status e zero = sym e ∙ zero
zero-before put.Failed n status e zero = absurd (omega (arith, e, zero))

written-well : (name text : List ℕ) (answer : Put) → (written_exit native_texts name text answer).status ≡ 0 → answer ≡ put.Done
written-well name text put.Done e = refl
written-well name text put.Failed e = absurd (omega (arith, e))

abbrev has-change : Effect → Bool
has-change effect = is_some effect.change

abbrev change-of : Change → List ℕ × List ℕ
change-of None = ([], [])
change-of (Some change) = change

module _
    (laws : PolicyLaws)
    (first : AcceptedFirst)
    (texts : Translator)
    (translator : IsTranslator texts)
    (args : NativeGiven)
    (e e' : List Event)
    (f g : FilesState)
    (events : List Event)
    (logged : e' ≡ e ++ events)
    (happened : Happens events f g) where
  -- an object file was made by reads, and written
  writes-made : (object : List ℕ) (asked : List Event) → IsMade texts args object asked → events ≡ asked ++ was_written args.output object put.Done ∷ []
      → WritesTranslation args e e'
  writes-made object asked m is =
      let read : Event = was_read args.file MAX_FILE (whole m.bytes) in
      let last : List Event = was_written args.output object put.Done ∷ [] in
      let all : events ≡ m.policy_reads ++ read ∷ last =
      is ∙ ap (λ es. es ++ last) m.asked ∙ append_assoc m.policy_reads (read ∷ []) last in
      let are : IsBytes m.bytes =
      read-bytes m.policy_reads args.file MAX_FILE m.bytes last f g (subst (λ es. Happens es f g) all happened) in
      record {
        policy = m.policy;
        is_policy = m.is_told.is_policy;
        told = m.policy_reads;
        tells = m.is_told.tells;
        bytes = m.bytes;
        object = object;
        logged = logged ∙ ap (λ es. e ++ es) all;
        holds = holds-translation first texts translator m.policy m.bytes args.name object are m.makes;
      }

  -- what was written is what was made
  writes-split : (text name bytes : List ℕ) (asked : List Event) → events ≡ asked ++ was_written name bytes put.Done ∷ []
      → Follows native_texts asked (translation_of texts args) (gives (record { text = text; change = Some (name, bytes) })) → WritesTranslation args e e'
  unfolding translation_of
  writes-split text name bytes asked is follows =
      let effect : Effect = record { text = text; change = Some (name, bytes) } in
      let p = split native_texts (λ object. object_written args.output object) effect (object_told texts args) asked follows in
      let made : Effect = record { text = written_line (length p.value); change = Some (args.output, p.value) } in
      let ended = follows-gives native_texts made p.rest (gives effect) p.goes_on in
      let same : (name, bytes) ≡ (args.output, p.value) = ap (λ (x : Effect). change-of x.change) (same-value effect made ended.1) in
      let asked_is : asked ≡ p.first = p.is ∙ ap (λ es. p.first ++ es) ended.0 ∙ append-nil p.first in
      let is_there : events ≡ p.first ++ was_written args.output p.value put.Done ∷ [] =
      is ∙ ap (λ es. es ++ was_written name bytes put.Done ∷ []) asked_is
      ∙ ap (λ (c : List ℕ × List ℕ). p.first ++ was_written c.0 c.1 put.Done ∷ []) same in
      writes-made p.value p.first (is-made laws texts args p.value p.first p.begins) is_there

  -- a translation prints nothing alone
  prints-none : {A : Type 0} (text : List ℕ) → Follows native_texts events (translation_of texts args) (gives (record { text = text; change = None })) → A
  unfolding translation_of
  prints-none text follows =
      let effect : Effect = record { text = text; change = None } in
      let p = split native_texts (λ object. object_written args.output object) effect (object_told texts args) events follows in
      let made : Effect = record { text = written_line (length p.value); change = Some (args.output, p.value) } in
      let ended = follows-gives native_texts made p.rest (gives effect) p.goes_on in
      absurd (true≢false (sym (ap has-change (same-value effect made ended.1))))

  writes-ended : (s t : SinkState) (status : ℕ) → status ≡ 0 → EndsRun native_texts (translation_of texts args) events s t status
      → WritesTranslation args e e'
  writes-ended s t status zero (decided exit (stopped follows) prints) =
      let asked : NativeInvocation = translation args in
      let some : 0 < exit.status =
      stops-with-some native_texts (native_standing (Some asked)) (native_files (Some asked)) (translation_of texts args) exit events
      (native-suited (Some asked) texts) follows in
      let none : exit.status ≡ 0 = zero-before prints.put exit.status status prints.after zero in
      absurd (omega (arith, some, none))
  writes-ended s t status zero (decided exit (printed text follows is) prints) = prints-none text follows
  writes-ended s t status zero (decided exit (wrote asked text name bytes answer is follows exit_is) prints) =
      let none : exit.status ≡ 0 = zero-before prints.put exit.status status prints.after zero in
      let well : answer ≡ put.Done = written-well name text answer (sym (ap (λ (x : Exit). x.status) exit_is) ∙ none) in
      writes-split text name bytes asked (is ∙ ap (λ (a : Put). asked ++ was_written name bytes a ∷ []) well) follows
  writes-ended s t status zero (out_of_memory later follows clean same five) = absurd (omega (arith, five, zero))

-- what a run wrote
pub writes : PolicyLaws → AcceptedFirst → (args : List (List ℕ)) (e e' : List Event) (f g : FilesState) (s t : SinkState) (status : ℕ)
    → RunsNative args e e' f g s t status → WritesIfDone (native_command_of args) e e' status
writes laws first args e e' f g s t status run = go (native_command_of args) run.runs
  where
    go : (asked : Option NativeInvocation) → Runs native_texts (native_stage run.texts asked) e e' f g s t status → WritesIfDone asked e e' status
    go None r = tt
    go (Some help) r = tt
    go (Some version) r = tt
    go (Some (translation given)) r = λ zero.
        writes-ended laws first run.texts run.translator given e e' f g r.events r.logged r.happened s t status zero r.ends
