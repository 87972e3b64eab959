-- What is made of containers, and how a decision comes about.
use Rattle.std.proofs.Common.{◌≡◌, ℕ, List, [], ◌∷◌, ◌++◌, length, None, Some, Option, Result, Ok, Err, IfOk, IfErr, refl, sym, ap, ◌∙◌, subst, append_assoc}
use Rattle.file_port.specs.Events.{Event, was_written}
use Rattle.file_port.specs.Files.{FilesState}
use Rattle.file_port.specs.declared.port.Put.{Put}
use Rattle.file_port.specs.declared.port.Put.TheVariants as put
use Rattle.policy_set.specs.Views.{PolicyView}
use Rattle.pcc_gate.specs.Accepted.{IsAccepted}
use Rattle.pcc_gate.specs.Answers.{IsAcceptedBy}
use Rattle.pcc_gate.specs.First.{first_refusal}
use Rattle.pcc_gate.specs.Laws.{AcceptedFirst}
use Rattle.pcc_gate.specs.Views.{AcceptedView}
use Rattle.pcc_lines.specs.Sources.{written_line}
use Rattle.pcc_stages.specs.Requests.{usage_exit}
use Rattle.pcc_stages.specs.Stage.{Stage, stops, gives, ◌>>=◌, Follows}
use Rattle.pcc_stages.specs.Stages.Containers.{container_in, code_in}
use Rattle.pcc_stages.specs.Runs.{Effect, wrote, done_exit, written_exit}
use Rattle.pcc_stages.specs.Stops.{end_of}
use Rattle.pcc_stages.specs.Texts.{texts}
use Rattle.pcc_stages.specs.Answers.{StopsAs, Gives, GivesPure}
use Rattle.pcc_stages.specs.Decisions.{end_of_decision, EndsWith, Decides}
use Rattle.pcc_stages.specs.declared.stops.Stop.{Stop}
use Rattle.pcc_stages.specs.declared.stops.Stop.TheVariants as stop
use Rattle.pcc_stages.proofs.StageLemmas.{happens-join, follows-bind, pure_stops, stops_first}
use Rattle.pcc_stages.proofs.DecisionLemmas.{decides_at_once, decides_text}
use Rattle.std.specs.Result.{IsErrAnd}
use Rattle.native_translator.specs.Translation.{IsTranslation}
use Rattle.native_object.specs.Object.{object_bytes}
use Rattle.native_cli.specs.Reports.{native_exit}
use Rattle.native_gate.specs.Translated.{is_metered}
use Rattle.native_cli.specs.Tasks.{Translatable, Translator, accepted_or_line, translatable_in, object_in, object_written, translation_of}
use Rattle.native_cli.specs.Invocations.{NativeGiven}
use Rattle.native_cli.specs.Texts.{native_texts}
use Rattle.native_cli.specs.Inside.Making.{IsObjectOf, GivesPureWith, MakesIfTold, TellsObject, WroteObject}
use Rattle.native_cli.specs.declared.report.Report.{Report}
use Rattle.native_cli.specs.declared.report.Report.TheVariants as report
use Rattle.native_cli.proofs.Translators.{accepted-translatable, any-texts, any-translates, with-text, with-text-here, with-text-translates}

module _ (first : AcceptedFirst) (policy : PolicyView) (name bytes : List ℕ) where
  its-object : (text : List ℕ) (a : IsAccepted policy bytes) → first_refusal policy bytes ≡ None
      → object_in (with-text first bytes text) policy name bytes ≡ gives (object_bytes name text)
  unfolding object_in
  its-object text a none =
      ap (λ (s : Stage Translatable). s >>= λ it. gives (object_bytes name (with-text first bytes text bytes))) (accepted-translatable policy bytes a none)
      ∙ ap (λ (t : List ℕ). gives (object_bytes name t)) (with-text-here first bytes text)

  refused-object : {B : Type 0} (view : B → List ℕ) (why : Stop) → StopsAs (accepted_or_line policy bytes) (end_of why)
      → GivesPure view (object_in (any-texts first) policy name bytes) (Err why)
  unfolding object_in translatable_in
  refused-object view why h =
      pure_stops (λ it. gives (object_bytes name (any-texts first bytes)))
      (accepted_or_line policy bytes >>= λ accepted. container_in policy bytes >>= λ container. code_in policy bytes >>= λ code.
      gives (record { bound = container.bound; code = code })) why
      (pure_stops (λ accepted. container_in policy bytes >>= λ container. code_in policy bytes >>= λ code.
      gives (record { bound = container.bound; code = code })) (accepted_or_line policy bytes) why h)

  -- the gate refused the bytes, or memory ran out
  pub object-refused : {B : Type 0} (view : B → List ℕ) (why : Stop) → StopsAs (accepted_or_line policy bytes) (end_of why)
      → GivesPureWith view (λ (t : Translator). object_in t policy name bytes) (Err why)
  object-refused view why h = record {
    texts = any-texts first;
    translator = any-translates first;
    gives_it = refused-object view why h;
  }

  -- the gate accepted them
  pub object-accepted : {B : Type 0} (view : B → List ℕ) (v : AcceptedView) (r : Result B Stop) → IsAcceptedBy policy bytes v
      → IfOk r (λ b. IsObjectOf name v (view b)) → IfErr r (λ s. s ≡ stop.Memory)
      → GivesPureWith view (λ (t : Translator). object_in t policy name bytes) r
  object-accepted view v (Ok b) given o memory =
      let a : IsAccepted policy bytes = record { contents = given.contents; code = v.code; marks = v.marks; accepts = given.accepts } in
      let t : IsTranslation (is_metered a.contents.bound) a.code o.text =
      subst (λ m. IsTranslation (is_metered m) v.code o.text) given.bound_is o.translated in
      record {
        texts = with-text first bytes o.text;
        translator = with-text-translates first policy bytes o.text a t;
        gives_it = its-object o.text a given.first ∙ ap (λ (l : List ℕ). gives l) (sym o.file);
      }
  object-accepted view v (Err why) given o memory = record {
    texts = any-texts first;
    translator = any-translates first;
    gives_it =
        subst (λ (w : Stop). GivesPure view (object_in (any-texts first) policy name bytes) (Err w)) (sym memory) tt;
  }

-- ---- the write

-- what a run does that writes
abbrev object_effect : List ℕ → List ℕ → Effect
object_effect name bytes = record { text = written_line (length bytes); change = Some (name, bytes) }

object-ends : (stage : Stage Effect) (asked : List Event) (name bytes : List ℕ) (answer : Put) (d : Result Report Stop)
    → Follows texts asked stage (gives (object_effect name bytes)) → TellsObject name bytes answer d
    → EndsWith stage (asked ++ was_written name bytes answer ∷ []) (end_of_decision native_exit d)
object-ends stage asked name bytes put.Done (Ok (report.Written count)) follows is =
    wrote asked (written_line (length bytes)) name bytes put.Done refl follows (ap (λ n. done_exit (written_line n)) is)
object-ends stage asked name bytes put.Failed (Err (stop.WriteFault other)) follows is =
    wrote asked (written_line (length bytes)) name bytes put.Failed refl follows
    (ap (λ n. written_exit texts n (written_line (length bytes)) put.Failed) is)
object-ends stage asked name bytes answer d follows is = absurd is

-- a run that writes what a stage makes
pub decides-object : {C : Type 0} (view : C → List ℕ) (make : Stage (List ℕ)) (output : List ℕ) (e m e' : List Event) (f n g : FilesState) (x : C)
    (d : Result Report Stop) → Gives view make e m f n (Ok x) → WroteObject output (view x) m e' n g d
    → Decides native_exit (make >>= λ object. object_written output object) e e' f g d
decides-object view make output e m e' f n g x d h w =
    let next : List ℕ → Stage Effect = λ object. object_written output object in
    let last : List Event = was_written output (view x) w.answer ∷ [] in
    let there : Follows texts h.events (make >>= next) (gives (object_effect output (view x))) =
    subst (λ l. Follows texts h.events (make >>= next) l) (ap (λ y. y >>= next) h.is) (follows-bind next h.events make h.later h.follows) in
    record {
      events = h.events ++ last;
      logged = w.logged ∙ ap (λ l. l ++ last) h.logged ∙ append_assoc e h.events last;
      happened = happens-join h.events last f n g h.happened (g, w.writes, refl);
      ends = object-ends (make >>= next) h.events output (view x) w.answer d there w.tells;
    }

-- a stage stops
pub stop-first : {C : Type 0} (view : C → List ℕ) (make : Stage (List ℕ)) (output : List ℕ) (e e' : List Event) (f g : FilesState) (why : Stop)
    (d : Result Report Stop) → Gives view make e e' f g (Err why) → IsErrAnd d (λ y. y ≡ why)
    → Decides native_exit (make >>= λ object. object_written output object) e e' f g d
stop-first view make output e e' f g why (Ok report) h is = absurd is
stop-first view make output e e' f g why (Err other) h is =
    let next : List ℕ → Stage Effect = λ object. object_written output object in
    let so = stops_first next view (λ (r : Report). record { text = []; change = None }) make e e' f g why (Err why) h refl in
    let d = decides_text (make >>= next) e e' f g (λ (r : Report). []) (Err why) so in
    subst (λ (y : Stop). Decides native_exit (make >>= next) e e' f g (Err y)) (sym is)
    (record { events = d.events; logged = d.logged; happened = d.happened; ends = d.ends })

-- memory ran out before anything was asked
pub makes-nothing : AcceptedFirst → (told : Option NativeGiven) (e : List Event) (f : FilesState) → MakesIfTold told e e f f (Err stop.Memory)
makes-nothing first None e f = decides_at_once (stops (usage_exit native_texts)) e f stop.Memory tt
makes-nothing first (Some given) e f = record {
  texts = any-texts first;
  translator = any-translates first;
  decides = decides_at_once (translation_of (any-texts first) given) e f stop.Memory tt;
}
