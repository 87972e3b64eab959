-- What the code decides, with a translator.
use Rattle.std.specs.Prelude.{◌≡◌, ℕ, List, [], ◌∷◌, ◌++◌, length, Option, Some, None, Result, Ok, Err}
use Rattle.file_port.specs.Events.{Event, was_written}
use Rattle.file_port.specs.Files.{FilesState, Writes}
use Rattle.file_port.specs.declared.port.Put.{Put}
use Rattle.file_port.specs.declared.port.Put.TheVariants as put
use Rattle.pcc_gate.specs.Views.{AcceptedView}
use Rattle.pcc_stages.specs.Answers.{Gives, GivesPure}
use Rattle.pcc_stages.specs.Requests.{usage_exit}
use Rattle.pcc_stages.specs.Stage.{Stage, stops}
use Rattle.pcc_stages.specs.Decisions.{Decides}
use Rattle.pcc_stages.specs.declared.stops.Stop.{Stop}
use Rattle.pcc_stages.specs.declared.stops.Stop.TheVariants as stop
use Rattle.native_cli.specs.Invocations.{NativeGiven}
use Rattle.native_cli.specs.Reports.{native_exit}
use Rattle.native_translator.specs.Translation.{IsTranslation}
use Rattle.native_object.specs.Object.{object_bytes}
use Rattle.native_gate.specs.Translated.{is_metered}
use Rattle.native_cli.specs.Tasks.{Translator, IsTranslator, translation_of}
use Rattle.native_cli.specs.Texts.{native_texts}
use Rattle.native_cli.specs.declared.report.Report.{Report}
use Rattle.native_cli.specs.declared.report.Report.TheVariants as report

-- the object file of a translation of accepted code
pub record IsObjectOf (name : List ℕ) (a : AcceptedView) (object : List ℕ) : Type 0 where
  pub text : List ℕ
  pub translated : IsTranslation (is_metered a.bound) a.code text
  pub file : object ≡ object_bytes name text

-- the answer is what a stage with some translator gives, which reads no file
pub record GivesPureWith {B : Type 0} (view : B → List ℕ) (stage : Translator → Stage (List ℕ)) (result : Result B Stop) : Type 0 where
  pub texts : Translator
  pub translator : IsTranslator texts
  pub gives_it : GivesPure view (stage texts) result

-- the answer is what a stage with some translator gives
pub record GivesWith {B : Type 0} (view : B → List ℕ) (stage : Translator → Stage (List ℕ)) (e e' : List Event) (f g : FilesState) (result : Result B Stop) :
    Type 0 where
  pub texts : Translator
  pub translator : IsTranslator texts
  pub gives_it : Gives view (stage texts) e e' f g result

-- the decision is what a translation comes to, with some translator
pub record MakesObject (args : NativeGiven) (e e' : List Event) (f g : FilesState) (d : Result Report Stop) : Type 0 where
  pub texts : Translator
  pub translator : IsTranslator texts
  pub decides : Decides native_exit (translation_of texts args) e e' f g d

-- the same where the arguments are a translation, and else the usage line
abbrev pub MakesIfTold : Option NativeGiven → List Event → List Event → FilesState → FilesState → Result Report Stop → Type 0
MakesIfTold (Some args) e e' f g d = MakesObject args e e' f g d
MakesIfTold None e e' f g d = Decides native_exit (stops (usage_exit native_texts)) e e' f g d

-- the bytes were written, and are counted; or the write failed
abbrev pub TellsObject : List ℕ → List ℕ → Put → Result Report Stop → Type 0
TellsObject name bytes put.Done (Ok (report.Written count)) = count ≡ length bytes
TellsObject name bytes put.Failed (Err (stop.WriteFault other)) = other.now ≡ name
TellsObject name bytes answer other = ⊥

-- the bytes were written to the file of the name, or the write failed, and nothing else was asked
pub record WroteObject (name bytes : List ℕ) (e e' : List Event) (f g : FilesState) (result : Result Report Stop) : Type 0 where
  pub answer : Put
  pub logged : e' ≡ e ++ was_written name bytes answer ∷ []
  pub writes : Writes name bytes f g answer
  pub tells : TellsObject name bytes answer result
