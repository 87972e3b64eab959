-- What a run of pcc_native did, whatever the files hold.
use Rattle.std.specs.Prelude.{◌≡◌, ℕ, List, [], ◌∷◌, ◌++◌, Option, Some}
use Rattle.file_port.specs.Events.{whole, Event, was_read, was_written}
use Rattle.file_port.specs.Files.{FilesState}
use Rattle.file_port.specs.Sink.{SinkState}
use Rattle.file_port.specs.declared.port.Put.TheVariants.{Done}
use Rattle.policy_set.specs.Names.{policy_of}
use Rattle.policy_set.specs.PolicyText.{SpellsPolicy}
use Rattle.policy_set.specs.Views.{PolicyView, IsPolicy}
use Rattle.pcc_gate.specs.Accepted.{IsAccepted}
use Rattle.pcc_words.specs.Invocations.{PolicyWord, named, from_file}
use Rattle.pcc_stages.specs.Runs.{Runs}
use Rattle.pcc_stages.specs.declared.files.TheConstants.{MAX_FILE, MAX_POLICY_FILE}
use Rattle.native_translator.specs.Translation.{IsTranslation}
use Rattle.native_object.specs.Object.{object_bytes}
use Rattle.native_cli.specs.Invocations.{NativeGiven, NativeInvocation, translation}
use Rattle.native_gate.specs.Translated.{is_metered}
use Rattle.native_cli.specs.Tasks.{Translator, IsTranslator, native_task}
use Rattle.native_cli.specs.Texts.{native_texts}

-- A run read, wrote and printed what the arguments ask for, and its status is that one's, for some translator.
pub record RunsNative (args : List (List ℕ)) (e e' : List Event) (f g : FilesState) (s t : SinkState) (status : ℕ) : Type 0 where
  pub texts : Translator
  pub translator : IsTranslator texts
  pub runs : Runs native_texts (native_task texts args).stage e e' f g s t status

-- ---- what was written

-- The policy that the word tells, and the reads that this takes: none for a name, else one of its file.
abbrev pub PolicyIsRead : PolicyWord → List Event → PolicyView → Type 0
PolicyIsRead (named name) reads policy = (reads ≡ []) × (policy_of name ≡ Some policy)
PolicyIsRead (from_file name) reads policy =
    (text : List ℕ) × (reads ≡ was_read name MAX_POLICY_FILE (whole text) ∷ []) × SpellsPolicy text policy

-- The bytes are accepted under the policy, and the object file has a translation of their code as the function of the name.
pub record HoldsTranslation (policy : PolicyView) (bytes name object : List ℕ) : Type 0 where
  pub accepted : IsAccepted policy bytes
  pub text : List ℕ
  pub translated : IsTranslation (is_metered accepted.contents.bound) accepted.code text
  pub file : object ≡ object_bytes name text

-- The policy was read, and FILE; it is accepted under the policy; OUT was written, and holds a translation of the accepted code. Nothing else was read or
-- written.
pub record WritesTranslation (args : NativeGiven) (e e' : List Event) : Type 0 where
  pub policy : PolicyView
  pub is_policy : IsPolicy policy
  pub told : List Event
  pub tells : PolicyIsRead args.policy told policy
  pub bytes : List ℕ
  pub object : List ℕ
  pub logged : e' ≡ e ++ (told ++ was_read args.file MAX_FILE (whole bytes) ∷ was_written args.output object Done ∷ [])
  pub holds : HoldsTranslation policy bytes args.name object

-- what a run did that was to translate, if its status is 0
abbrev pub WritesIfDone : Option NativeInvocation → List Event → List Event → ℕ → Type 0
WritesIfDone (Some (translation args)) e e' status = status ≡ 0 → WritesTranslation args e e'
WritesIfDone other e e' status = Unit {0}
