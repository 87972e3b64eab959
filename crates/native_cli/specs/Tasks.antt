-- What the arguments of pcc_native ask for, with the translator as a parameter.
use Rattle.std.specs.Prelude.{◌≡◌, ℕ, List, [], ◌∷◌, ◌++◌, length, Option, Some, None}
use Rattle.alpha_words.specs.declared.insn.Insn.{Insn}
use Rattle.policy_set.specs.Views.{PolicyView}
use Rattle.term_table.specs.Bytes.{IsBytes}
use Rattle.pcc_gate.specs.declared.refusal.Refusal.{Refusal}
use Rattle.pcc_gate.specs.First.{first_refusal}
use Rattle.pcc_lines.specs.Refusals.{refusal_line}
use Rattle.pcc_lines.specs.Sources.{written_line}
use Rattle.pcc_stages.specs.Requests.{Request, Standing, no_command, command, usage_exit}
use Rattle.pcc_stages.specs.Runs.{Effect, Task, request_of_task}
use Rattle.pcc_stages.specs.Stage.{Stage, stops, gives, ◌>>=◌}
use Rattle.pcc_stages.specs.Stages.Common.{refused, printing}
use Rattle.pcc_stages.specs.Stages.Containers.{container_in, code_in, container_bytes_of}
use Rattle.pcc_stages.specs.Stages.Policies.{policy_told}
use Rattle.pcc_stages.specs.Told.{word_files, standing_of_word}
use Rattle.native_translator.specs.Translation.{IsTranslation}
use Rattle.native_gate.specs.Translated.{is_metered}
use Rattle.native_object.specs.Object.{object_bytes}
use Rattle.native_cli.specs.Invocations.{NativeGiven, NativeInvocation, translation, help, version, native_command_of}
use Rattle.native_cli.specs.Texts.{native_texts, native_help_text, native_version_text}

-- a refusal ends the command with its line
abbrev pub line_if_refused : Option Refusal → Stage (Unit {0})
line_if_refused None = gives tt
line_if_refused (Some refusal) = stops (refused (refusal_line refusal))

-- the bytes are accepted under the policy, or the line of the first check that fails
unfoldable pub accepted_or_line : PolicyView → List ℕ → Stage (Unit {0})
accepted_or_line policy bytes = line_if_refused (first_refusal policy bytes)

-- what is translated: code, and the bound of its steps, if there is one
pub record Translatable : Type 0 where
  pub bound : Option ℕ
  pub code : List Insn

-- what the container that the bytes are has to translate, where it is accepted under the policy
unfoldable pub translatable_in : PolicyView → List ℕ → Stage Translatable
translatable_in policy bytes = do
  accepted ← accepted_or_line policy bytes
  container ← container_in policy bytes
  code ← code_in policy bytes
  gives (record { bound = container.bound; code = code })

-- the object file is written, and counted
abbrev pub object_written : List ℕ → List ℕ → Stage Effect
object_written output object = gives (record { text = written_line (length object); change = Some (output, object) })

-- What a translator makes of containers: a text of each one's code. No clause says which places it chooses.
abbrev pub Translator : Type 0
Translator = List ℕ → List ℕ

-- each text is a translation: native code of the container's code, for some lawful places
pub record IsTranslator (texts : Translator) : Type 0 where
  pub translates : (policy : PolicyView) (bytes : List ℕ) (it : Translatable) → IsBytes bytes → translatable_in policy bytes ≡ gives it
      → IsTranslation (is_metered it.bound) it.code (texts bytes)

module _ (texts : Translator) where
  -- the object file of the container that the bytes are, where it is accepted
  unfoldable pub object_in : PolicyView → List ℕ → List ℕ → Stage (List ℕ)
  object_in policy name bytes = do
    it ← translatable_in policy bytes
    gives (object_bytes name (texts bytes))

  -- the object file of the container in the file of a name
  unfoldable pub object_of : PolicyView → List ℕ → List ℕ → Stage (List ℕ)
  object_of policy name file = do
    bytes ← container_bytes_of file
    object_in policy name bytes

  -- the policy, with all that may be wrong with its file where the word tells one, and the object file of the container, with all that may be wrong with it
  unfoldable pub object_told : NativeGiven → Stage (List ℕ)
  object_told args = do
    policy ← policy_told args.policy
    object_of policy args.name args.file

  -- A translation: the object file, and then the write.
  unfoldable pub translation_of : NativeGiven → Stage Effect
  translation_of args = do
    object ← object_told args
    object_written args.output object

  -- what the arguments come to, if they are a command
  abbrev pub native_stage : Option NativeInvocation → Stage Effect
  native_stage None = stops (usage_exit native_texts)
  native_stage (Some (translation args)) = translation_of args
  native_stage (Some help) = printing native_help_text
  native_stage (Some version) = printing native_version_text

-- what the arguments are
abbrev pub native_standing : Option NativeInvocation → Standing
native_standing None = no_command
native_standing (Some (translation args)) = standing_of_word args.policy
native_standing (Some other) = command

-- the files that are read
abbrev pub native_files : Option NativeInvocation → List (List ℕ)
native_files (Some (translation args)) = word_files args.policy ++ args.file ∷ []
native_files other = []

-- what the arguments ask for, with this translator
abbrev pub native_task : Translator → List (List ℕ) → Task
native_task texts args = record {
  standing = native_standing (native_command_of args);
  names = Some (native_files (native_command_of args));
  stage = native_stage texts (native_command_of args);
}

-- the request that they are, over files that are known
abbrev pub native_request : Translator → List (List ℕ) → Request
native_request texts args = request_of_task native_texts (native_task texts args)
